-- `typing::read_kind` meets its contract: the digits up to p are read.
-- Assumes nothing.
use Rattle.typing.specs.PassLaws.{KindSoFar}
use Rattle.typing.proofs.read_kind.Given as goal

abbrev pub invariant-loop-p : goal.invariant-loop-p
invariant-loop-p l = KindSoFar l.text l.at l.p l.kind
