-- `loading::load` meets its contract: what was read is filled up with 0 to the end of the area; the refusals are the definition's.
-- Assumes nothing.
use Prim.Native.Nat.{◌*◌, ◌≤◌}
use native.Mathlib.Omega.{arith}
use lib.ListN.{length}
use Rattle.number.specs.Limits.{states, bytes}
use Rattle.table.specs.FillLaws.{part_filled}
use Rattle.loading.specs.LoadLaws.{states_few, load_leaves}
use Rattle.loading.proofs.load.Goals as goal

pub returns : goal.returns
returns c =
    let few : (c.unwrap_or-count.result.0 ≤ states) = rw c.unwrap_or-count.ensures (states_few _ c.read_sheet-read.ensures.few) in
    let labels = part_filled c.read_sheet-read.new.labels c.unwrap_or-count.result.0 (length c.read_sheet-read.new.labels) 0 (omega arith) (c.fill.ensures.after (λ y h. h)) in
    let targets = part_filled c.read_sheet-read.new.targets (c.unwrap_or-count.result.0 * bytes) (length c.read_sheet-read.new.targets) 0 (omega arith) (c.fill-2.ensures.after (λ y h. h)) in
    rw c.and.ensures
    (rw c.unwrap_or-count.ensures
    (load_leaves _ _ _ c.if-labels-lt-STATES.false c.if-targets-lt-TABLE_CELLS.false c.read_sheet-read.result
    (λ i h. omega (arith, c.type_inv.sheet i)) c.read_sheet-read.ensures.laid
    c.read_sheet-read.auto.labels (rw c.unwrap_or-count.ensures at labels) c.read_sheet-read.auto.targets (rw c.unwrap_or-count.ensures at targets)))
