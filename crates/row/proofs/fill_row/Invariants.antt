-- `row::fill_row` meets its contract: the bytes below the next one are passed, and their numbers stand in the item's row.
-- A refused step ends the row; past the last byte the row is whole. Assumes nothing.
use Prim.Native.Nat.{◌-◌}
use mathlib.Core.Path.{◌≡◌}
use lib.ListN.{length}
use Rattle.number.specs.Limits.{bytes}
use Rattle.walk.specs.Walk.{row}
use Rattle.vector.specs.Memory.{held_of}
use Rattle.built.specs.Build.{alone}
use Rattle.row.specs.FillLaws.{Filling}
use Rattle.pool.specs.Index.{Indexed}
use Rattle.row.proofs.fill_row.Given as goal

abbrev pub invariant-loop-byte : goal.invariant-loop-byte
invariant-loop-byte l =
    (length l.cells ≡ length l.initial.cells)
    × (length l.targets ≡ length l.initial.targets)
    × Filling l.fn.held.count (row alone l.i bytes 0 (held_of l.initial.cells l.n l.fn.held.top l.fn.held.count)) l.initial.targets l.i l.cells l.n l.next.top l.next.count l.byte l.targets
    × (length l.index ≡ length l.initial.index)
    × Indexed l.index l.cells l.next.top

abbrev pub decreases-loop-byte : goal.decreases-loop-byte
decreases-loop-byte l = bytes - l.byte
