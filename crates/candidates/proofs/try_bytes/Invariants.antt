-- `candidates::try_bytes` meets its contract: every flag below c tells of its byte.
-- Assumes nothing.
use Rattle.candidates.specs.TryLaws.{Trying}
use Rattle.candidates.proofs.try_bytes.Given as goal

abbrev pub invariant-loop-c : goal.invariant-loop-c
invariant-loop-c l = Trying l.p l.initial.tried l.initial.found l.tried l.found l.c
