-- `shown::write_text` meets its contract. The loop's invariant: the area lacks the text of the item that was reached, and only that.
-- The measure is the item's number, since each was found from a lower one. Assumes nothing.
use native.Mathlib.Omega.{arith}
use Rattle.shown.specs.ShowLaws.{lacks_all, lacks_none, lacks_place, lacks_next}
use Rattle.shown.proofs.write_text.Goals as goal

pub text_length-len-requires : goal.text_length-len-requires
text_length-len-requires c = c.requires.traced

pub loop-item-init : goal.loop-item-init
loop-item-init c =
    lacks_all c.args.cells.now c.args.k c.args.area.now c.text_length-len.result c.text_length-len.ensures

pub overflow_sub-left : goal.overflow_sub-left
overflow_sub-left c =
    omega (arith, lacks_place c.loop-item.invariant c.requires.traced c.requires.k_in_bounds (omega arith))

pub overflow_add-area : goal.overflow_add-area
overflow_add-area c = omega (arith, c.loop-item.invariant.before, c.requires.traced.few)

pub offset_bounds-cells-item : goal.offset_bounds-cells-item
offset_bounds-cells-item c = omega (arith, c.loop-item.invariant.before, c.requires.traced.few)

pub bounds-cells-item : goal.bounds-cells-item
bounds-cells-item c =
    omega (arith, c.loop-item.invariant.before, c.requires.traced.few, c.requires.traced.long)

pub overflow_cast-area : goal.overflow_cast-area
overflow_cast-area c =
    omega (arith, c.requires.traced.text_bytes c.loop-item.item (omega (arith, c.loop-item.invariant.before)))

pub bounds-area-left : goal.bounds-area-left
bounds-area-left c =
    omega (arith, lacks_place c.loop-item.invariant c.requires.traced c.requires.k_in_bounds (omega arith))

pub overflow_add-item : goal.overflow_add-item
overflow_add-item c = omega (arith, c.loop-item.invariant.before, c.requires.traced.few)

pub offset_bounds-cells-item-in-loop-item : goal.offset_bounds-cells-item-in-loop-item
offset_bounds-cells-item-in-loop-item c = omega (arith, c.loop-item.invariant.before, c.requires.traced.few)

pub bounds-cells-item-in-loop-item : goal.bounds-cells-item-in-loop-item
bounds-cells-item-in-loop-item c =
    omega (arith, c.loop-item.invariant.before, c.requires.traced.few, c.requires.traced.long)

pub loop-item-smaller : goal.loop-item-smaller
loop-item-smaller c =
    c.requires.traced.parents c.loop-item.item (omega arith) (omega (arith, c.loop-item.invariant.before))

pub loop-item-preserved : goal.loop-item-preserved
loop-item-preserved c =
    lacks_next c.loop-item.invariant c.requires.traced c.requires.k_in_bounds (omega arith)

pub shape_of-area : goal.shape_of-area
shape_of-area c = c.loop-item.invariant.same

pub returns : goal.returns
returns c = lacks_none c.loop-item.invariant _ (omega arith) c.text_length-len.ensures
