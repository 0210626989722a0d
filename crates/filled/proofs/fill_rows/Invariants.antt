-- `filled::fill_rows` meets its contract: the rows of the items below the next one stand in the targets.
-- A refused row ends the walk; where no item remains it is whole. Assumes nothing.
use Prim.Native.Nat.{◌-◌}
use mathlib.Core.Path.{◌≡◌}
use lib.ListN.{length}
use Rattle.number.specs.Limits.{states}
use Rattle.walk.specs.Walk.{rows}
use Rattle.vector.specs.Memory.{held_of}
use Rattle.built.specs.Build.{alone}
use Rattle.filled.specs.TabledLaws.{Rowing}
use Rattle.pool.specs.Index.{Indexed}
use Rattle.filled.proofs.fill_rows.Given as goal

abbrev pub invariant-loop-i : goal.invariant-loop-i
invariant-loop-i l =
    (length l.cells ≡ length l.initial.cells)
    × (length l.targets ≡ length l.initial.targets)
    × Rowing l.fn.held.count (rows alone states 0 (held_of l.initial.cells l.n l.fn.held.top l.fn.held.count)) l.initial.targets l.cells l.n l.next.top l.next.count l.i l.targets
    × (length l.index ≡ length l.initial.index)
    × Indexed l.index l.cells l.next.top

abbrev pub decreases-loop-i : goal.decreases-loop-i
decreases-loop-i l = states - l.i
