-- `cutting::cut_into` meets its contract. The loop's invariant: what remains of the cut, put behind the words so far, is all that the call leaves.
-- The measure is how many bytes are left. Assumes nothing.
use Prim.Native.Nat.{◌-◌}
use mathlib.Core.Path.{◌≡◌}
use lib.ListN.{length}
use Rattle.table.specs.Table.{lent}
use Rattle.cutting.specs.Steps.{first_by}
use Rattle.cutting.specs.Calls.{cut_of}
use Rattle.cutting.specs.Put.{held}
use Rattle.cutting.specs.Turns.{Stands}
use Rattle.cutting.proofs.cut_into.Given as goal

abbrev pub invariant-loop-at : goal.invariant-loop-at
invariant-loop-at g l =
    let slot = g.S.Slot in
    let first = first_by (lent l.count l.labels l.targets) in
    let room = slot.room l.initial.slots in
    (slot.room l.slots ≡ room) × Stands slot.put first l.text room (held slot.put (cut_of first l.text l.initial.at room) l.initial.slots) l.at l.k l.slots

abbrev pub decreases-loop-at : goal.decreases-loop-at
decreases-loop-at g l = length l.text - l.at
