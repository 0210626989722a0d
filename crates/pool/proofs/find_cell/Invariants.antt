-- `pool::find_cell` meets its contract: along the chain, no cell that was passed holds the node.
-- The measure is the number that leads to the next cell, since links lead down. Assumes nothing.
use Rattle.pool.specs.IndexLaws.{Chain}
use Rattle.pool.proofs.find_cell.Given as goal

abbrev pub invariant-loop-next : goal.invariant-loop-next
invariant-loop-next l = Chain l.cells l.top l.node l.next

abbrev pub decreases-loop-next : goal.decreases-loop-next
decreases-loop-next l = l.next
