-- `typing::line_start` meets its contract: the newlines before p are counted.
-- Assumes nothing.
use Rattle.typing.specs.SumLaws.{StartSoFar}
use Rattle.typing.proofs.line_start.Given as goal

abbrev pub invariant-loop-p : goal.invariant-loop-p
invariant-loop-p l = StartSoFar l.text l.line l.left l.p
