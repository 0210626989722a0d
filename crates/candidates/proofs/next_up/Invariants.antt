-- `candidates::next_up` meets its contract: the flags from c up to r are down.
-- Assumes nothing.
use Rattle.candidates.specs.RunLaws.{Passed}
use Rattle.candidates.proofs.next_up.Given as goal

abbrev pub invariant-loop-r : goal.invariant-loop-r
invariant-loop-r l = Passed l.found l.c l.r
