-- `normal::chain` meets its contract: a turn lists a member of the chain, and after the last all are nested.
-- The measure is the number of the cell at hand. Assumes nothing.
use Rattle.normal.specs.ChainLaws.{Chaining}
use Rattle.normal.proofs.chain.Given as goal

abbrev pub invariant-loop-last : goal.invariant-loop-last
invariant-loop-last l = Chaining l.initial.cells l.top l.a l.b l.cells l.last l.end

abbrev pub decreases-loop-last : goal.decreases-loop-last
decreases-loop-last l = l.last
