-- `pooling::put_copy` meets its contract: one law for a turn, and one for the end of the loop.
-- The invariant holds for whatever term was copied out. Assumes nothing.
use mathlib.Core.Path.{◌≡◌}
use lib.ListN.{length}
use Rattle.meaning.specs.Re.{Re}
use Rattle.pooling.specs.Copied.{Copied, Putting}
use Rattle.pooling.proofs.put_copy.Given as goal

abbrev pub invariant-loop-k : goal.invariant-loop-k
invariant-loop-k l =
    (length l.index ≡ length l.initial.index)
    × ((v : Re) → Copied l.initial.cells l.top v l.initial.out l.start → Putting l.initial.cells l.top v (length l.initial.out) l.start l.index l.cells l.end l.out l.height l.k)
