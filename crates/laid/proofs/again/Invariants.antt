-- `laid::again` meets its contract: the loop has redone the nodes up to i.
-- Assumes nothing.
use Rattle.laid.specs.LaidLaws.{Redone}
use Rattle.laid.proofs.again.Given as goal

abbrev pub invariant-loop-i : goal.invariant-loop-i
invariant-loop-i l = Redone l.initial.cells l.start l.top l.cells l.t l.i
