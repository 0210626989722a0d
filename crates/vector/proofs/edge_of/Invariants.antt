-- `edge_of` works out a vector's next edge: so far the least of the edges of the terms passed.
-- Past the last rule it is the least of all.
use Rattle.vector.specs.PlaceLaws.{Least}
use Rattle.vector.proofs.edge_of.Given as goal

abbrev pub invariant-loop-i : goal.invariant-loop-i
invariant-loop-i l = Least l.cells l.n l.v.at l.byte l.i l.least
