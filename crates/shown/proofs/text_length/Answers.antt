-- `shown::text_length` meets its contract. The loop's invariant: the bytes counted and those of the item's text are the text's that was asked.
-- The measure is the item's number, since each was found from a lower one. Assumes nothing.
use native.Mathlib.Omega.{arith}
use Rattle.shown.specs.ShowLaws.{text_short, text_longer}
use Rattle.shown.proofs.text_length.Goals as goal

pub loop-item-init : goal.loop-item-init
loop-item-init c = omega arith

pub overflow_add-item : goal.overflow_add-item
overflow_add-item c = omega (arith, c.requires.few)

pub offset_bounds-cells-item : goal.offset_bounds-cells-item
offset_bounds-cells-item c = omega (arith, c.requires.few)

pub bounds-cells-item : goal.bounds-cells-item
bounds-cells-item c = omega (arith, c.requires.few, c.requires.long)

pub overflow_add-len : goal.overflow_add-len
overflow_add-len c =
    let longer = text_longer c.loop-item.item c.requires (omega arith) (omega arith) in
    omega (arith, c.requires.few, text_short c.args.k c.args.cells.now c.args.k)

pub loop-item-smaller : goal.loop-item-smaller
loop-item-smaller c = c.requires.parents c.loop-item.item (omega arith) (omega arith)

pub loop-item-preserved : goal.loop-item-preserved
loop-item-preserved c =
    (omega (arith, c.requires.parents c.loop-item.item (omega arith) (omega arith)), omega (arith, text_longer c.loop-item.item c.requires (omega arith) (omega arith)))

pub returns : goal.returns
returns c =
    omega (arith, text_short c.loop-item.item c.args.cells.now c.loop-item.item)
