-- `phrases::put_too_much` meets its contract: three phrases and an end.
-- Assumes nothing.
use mathlib.Core.List.{◌++◌}
use Rattle.number.specs.Quoted.{quoted}
use Rattle.advised.specs.Advice.{over_rules, over_kinds, over_nodes, in_all}
use Rattle.phrases.specs.Left.{left_room, left_step, left_last}
use Rattle.phrases.specs.WriteLaws.{too_much_lem}
use Rattle.phrases.proofs.put_too_much.Goals as goal

pub put_phrase-kind-requires : goal.put_phrase-kind-requires
unfolding quoted
put_phrase-kind-requires c =
    left_room over_rules (over_kinds ++ (over_nodes ++ in_all)) (too_much_lem c.args.out.now _ c.requires)

pub put_phrase-nodes-requires : goal.put_phrase-nodes-requires
unfolding quoted
put_phrase-nodes-requires c =
    left_room over_kinds (over_nodes ++ in_all) (left_step over_rules (over_kinds ++ (over_nodes ++ in_all)) (too_much_lem c.args.out.now _ c.requires) c.put_phrase-kind.ensures)

pub put_phrase-all-requires : goal.put_phrase-all-requires
unfolding quoted
put_phrase-all-requires c =
    left_room over_nodes in_all (left_step over_kinds (over_nodes ++ in_all) (left_step over_rules (over_kinds ++ (over_nodes ++ in_all)) (too_much_lem c.args.out.now _ c.requires) c.put_phrase-kind.ensures) c.put_phrase-nodes.ensures)

pub put_text-requires : goal.put_text-requires
unfolding quoted
put_text-requires c =
    (left_step over_nodes in_all (left_step over_kinds (over_nodes ++ in_all) (left_step over_rules (over_kinds ++ (over_nodes ++ in_all)) (too_much_lem c.args.out.now _ c.requires) c.put_phrase-kind.ensures) c.put_phrase-nodes.ensures) c.put_phrase-all.ensures).room

pub returns : goal.returns
unfolding quoted
returns c =
    left_last (left_step over_nodes in_all (left_step over_kinds (over_nodes ++ in_all) (left_step over_rules (over_kinds ++ (over_nodes ++ in_all)) (too_much_lem c.args.out.now _ c.requires) c.put_phrase-kind.ensures) c.put_phrase-nodes.ensures) c.put_phrase-all.ensures) c.put_text.ensures
