-- `normal::nest` meets its contract: a turn stores the node of the last member that is left, in the next cell of the list.
-- Assumes nothing.
use Rattle.normal.specs.Nest.{Nesting}
use Rattle.normal.proofs.nest.Given as goal

abbrev pub invariant-loop-at : goal.invariant-loop-at
invariant-loop-at l = Nesting l.join l.fn.cells l.top l.end l.tail l.cells l.at l.root
