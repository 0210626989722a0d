-- `pairs::walk_rows` meets its contract. The loop's invariant: with what remains, the numbers reached so far are the whole walk.
-- The measure is how many items may still be walked. Assumes nothing.
use Prim.Native.Nat.{◌-◌}
use mathlib.Core.Path.{◌≡◌}
use lib.ListN.{length}
use Rattle.vector.specs.Layout.{items}
use Rattle.pairs.specs.BesideLaws.{Rounds}
use Rattle.pool.specs.Index.{Indexed}
use Rattle.pairs.proofs.walk_rows.Given as goal

abbrev pub invariant-loop-i : goal.invariant-loop-i
invariant-loop-i l =
    Rounds l.initial.cells l.n l.fn.held.top l.fn.held.count l.targets l.cells l.next.top l.next.count l.i × (length l.index ≡ length l.initial.index) × Indexed l.index l.cells l.next.top

abbrev pub decreases-loop-i : goal.decreases-loop-i
decreases-loop-i l = items - l.i
