-- `candidates::run_end` meets its contract: the flags from the run's first up to hi are up, and each but the last has a neighbour.
-- Assumes nothing.
use Rattle.candidates.specs.RunLaws.{UpTo}
use Rattle.candidates.proofs.run_end.Given as goal

abbrev pub invariant-loop-hi : goal.invariant-loop-hi
invariant-loop-hi l = UpTo l.found l.lo l.hi
