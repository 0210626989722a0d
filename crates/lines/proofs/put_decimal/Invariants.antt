-- `lines::put_decimal` meets its contract: each turn stores the last digit of the rest before those that were found.
-- The measure is the rest. Assumes nothing.
use Rattle.lines.specs.DigitLaws.{Found}
use Rattle.lines.proofs.put_decimal.Given as goal

abbrev pub invariant-loop-rest : goal.invariant-loop-rest
invariant-loop-rest l = Found l.n l.rest l.digits l.from

abbrev pub decreases-loop-rest : goal.decreases-loop-rest
decreases-loop-rest l = l.rest
