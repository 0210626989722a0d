-- `derivative::next_edge` meets its contract: a leaf is answered at once, and then one law a way through a turn and one for the end.
-- The measure is the number of nodes that are to come. Assumes nothing.
use Rattle.term.specs.Places.{ahead}
use Rattle.derivative.specs.Waiting.{Passing}
use Rattle.derivative.proofs.next_edge.Given as goal

abbrev pub invariant-loop-node : goal.invariant-loop-node
invariant-loop-node l = Passing l.cells l.i l.byte l.waiting l.count l.least l.at

abbrev pub decreases-loop-node : goal.decreases-loop-node
decreases-loop-node l = ahead l.cells l.waiting l.count l.at
