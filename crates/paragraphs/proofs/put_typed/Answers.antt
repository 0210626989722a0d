-- `paragraphs::put_typed` meets its contract: the parts of its definition, one after the other.
-- Assumes nothing.
use Rattle.phrases.specs.Left.{left_last}
use Rattle.paragraphs.specs.PartLaws.{typed_all, place_room, place_on_lem, fault_room, fault_on_lem, shown_room, shown_on_lem, mark_room, mark_on_lem}
use Rattle.paragraphs.proofs.put_typed.Goals as goal

pub put_place-fault-requires : goal.put_place-fault-requires
put_place-fault-requires c =
    place_room _ _ _ _ (typed_all c.args.text.now _ _ _ c.args.out.now _ c.find_spot-spot.ensures c.requires.p_in_bounds_2)

pub put_fault-shown-requires : goal.put_fault-shown-requires
put_fault-shown-requires c =
    fault_room _ _ _ (place_on_lem _ _ _ _ (typed_all c.args.text.now _ _ _ c.args.out.now _ c.find_spot-spot.ensures c.requires.p_in_bounds_2) c.put_place-fault.ensures)

pub put_shown-mark-requires : goal.put_shown-mark-requires
put_shown-mark-requires c =
    shown_room _ _ _ (fault_on_lem _ _ _ (place_on_lem _ _ _ _ (typed_all c.args.text.now _ _ _ c.args.out.now _ c.find_spot-spot.ensures c.requires.p_in_bounds_2) c.put_place-fault.ensures) c.put_fault-shown.ensures)

pub put_mark-could-requires : goal.put_mark-could-requires
put_mark-could-requires c =
    mark_room _ _ _ (shown_on_lem _ _ _ (fault_on_lem _ _ _ (place_on_lem _ _ _ _ (typed_all c.args.text.now _ _ _ c.args.out.now _ c.find_spot-spot.ensures c.requires.p_in_bounds_2) c.put_place-fault.ensures) c.put_fault-shown.ensures) c.put_shown-mark.ensures)

pub put_could-requires : goal.put_could-requires
put_could-requires c =
    record { p_in_bounds = c.requires.p_in_bounds; text_in_bounds = (mark_on_lem _ _ _ (shown_on_lem _ _ _ (fault_on_lem _ _ _ (place_on_lem _ _ _ _ (typed_all c.args.text.now _ _ _ c.args.out.now _ c.find_spot-spot.ensures c.requires.p_in_bounds_2) c.put_place-fault.ensures) c.put_fault-shown.ensures) c.put_shown-mark.ensures) c.put_mark-could.ensures).room }

pub returns : goal.returns
returns c =
    left_last (mark_on_lem _ _ _ (shown_on_lem _ _ _ (fault_on_lem _ _ _ (place_on_lem _ _ _ _ (typed_all c.args.text.now _ _ _ c.args.out.now _ c.find_spot-spot.ensures c.requires.p_in_bounds_2) c.put_place-fault.ensures) c.put_fault-shown.ensures) c.put_shown-mark.ensures) c.put_mark-could.ensures) c.put_could.ensures
