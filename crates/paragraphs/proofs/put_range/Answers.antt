-- `paragraphs::put_range` meets its contract: the parts of its definition, one after the other.
-- Assumes nothing.
use Prim.Native.Nat.{◌+◌, ◌-◌}
use mathlib.Core.List.{◌++◌}
use lib.ListN.{drop}
use Rattle.advised.specs.Advice.{place_words, too_much, shown_line}
use Rattle.phrases.specs.Left.{left_room, left_step, left_last}
use Rattle.paragraphs.specs.PartLaws.{range_all}
use Rattle.paragraphs.proofs.put_range.Goals as goal

pub put_place-fault-requires : goal.put_place-fault-requires
put_place-fault-requires c =
    left_room (place_words c.find_spot-spot.result.line (c.args.p - c.find_spot-spot.result.start + 1)) (too_much ++ (shown_line (drop c.find_spot-spot.result.start c.args.text.now))) (range_all c.args.text.now c.args.p _ _ c.args.out.now _ c.find_spot-spot.ensures c.requires.p_in_bounds_2)

pub put_too_much-shown-requires : goal.put_too_much-shown-requires
put_too_much-shown-requires c =
    left_room too_much (shown_line (drop c.find_spot-spot.result.start c.args.text.now)) (left_step (place_words c.find_spot-spot.result.line (c.args.p - c.find_spot-spot.result.start + 1)) (too_much ++ (shown_line (drop c.find_spot-spot.result.start c.args.text.now))) (range_all c.args.text.now c.args.p _ _ c.args.out.now _ c.find_spot-spot.ensures c.requires.p_in_bounds_2) c.put_place-fault.ensures)

pub put_shown-requires : goal.put_shown-requires
put_shown-requires c =
    (left_step too_much (shown_line (drop c.find_spot-spot.result.start c.args.text.now)) (left_step (place_words c.find_spot-spot.result.line (c.args.p - c.find_spot-spot.result.start + 1)) (too_much ++ (shown_line (drop c.find_spot-spot.result.start c.args.text.now))) (range_all c.args.text.now c.args.p _ _ c.args.out.now _ c.find_spot-spot.ensures c.requires.p_in_bounds_2) c.put_place-fault.ensures) c.put_too_much-shown.ensures).room

pub returns : goal.returns
returns c =
    left_last (left_step too_much (shown_line (drop c.find_spot-spot.result.start c.args.text.now)) (left_step (place_words c.find_spot-spot.result.line (c.args.p - c.find_spot-spot.result.start + 1)) (too_much ++ (shown_line (drop c.find_spot-spot.result.start c.args.text.now))) (range_all c.args.text.now c.args.p _ _ c.args.out.now _ c.find_spot-spot.ensures c.requires.p_in_bounds_2) c.put_place-fault.ensures) c.put_too_much-shown.ensures) c.put_shown.ensures
