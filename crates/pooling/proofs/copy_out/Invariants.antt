-- `pooling::copy_out` meets its contract: one law a way through a turn, and one for the end of the loop.
-- The measure is the place down to which nodes are written. Assumes nothing.
use lib.ListN.{length}
use Rattle.pooling.specs.Copied.{Copying}
use Rattle.pooling.proofs.copy_out.Given as goal

abbrev pub invariant-loop-waiting : goal.invariant-loop-waiting
invariant-loop-waiting l = Copying l.cells l.top l.i (length l.initial.out) l.out l.start l.waiting

abbrev pub decreases-loop-waiting : goal.decreases-loop-waiting
decreases-loop-waiting l = l.start
