-- `expression::marks` meets its contract: the marks up to p are read.
-- Assumes nothing.
use Rattle.expression.specs.PartLaws.{MarksSoFar}
use Rattle.expression.proofs.marks.Given as goal

abbrev pub invariant-loop-p : goal.invariant-loop-p
invariant-loop-p l = MarksSoFar l.text l.from l.initial.cells l.start l.count l.cells l.p l.t
