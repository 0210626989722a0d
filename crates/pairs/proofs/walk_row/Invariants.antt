-- `pairs::walk_row` meets its contract. The loop's invariant: with what remains, the numbers reached so far are the whole row.
-- The measure is how many bytes are left. Assumes nothing.
use Prim.Native.Nat.{◌-◌}
use mathlib.Core.Path.{◌≡◌}
use lib.ListN.{length}
use Rattle.number.specs.Limits.{bytes}
use Rattle.pairs.specs.BesideLaws.{Turn}
use Rattle.pool.specs.Index.{Indexed}
use Rattle.pairs.proofs.walk_row.Given as goal

abbrev pub invariant-loop-c : goal.invariant-loop-c
invariant-loop-c l =
    Turn l.initial.cells l.n l.fn.held.top l.fn.held.count l.i l.targets l.place l.base l.cells l.next.top l.next.count l.c × (length l.index ≡ length l.initial.index) × Indexed l.index l.cells l.next.top

abbrev pub decreases-loop-c : goal.decreases-loop-c
decreases-loop-c l = bytes - l.c
