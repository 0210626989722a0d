-- `number::number_width` meets its contract: each answer is the length of what is written at that width.
-- Assumes nothing.
use mathlib.Core.Path.{sym}
use Rattle.number.proofs.NumberLaws.{width_is}
use Rattle.number.proofs.NumberLaws.Written.{one, two, three}
use Rattle.number.proofs.number_width.Goals as goal

pub returns-then-n-lt-GROUP : goal.returns-then-n-lt-GROUP
returns-then-n-lt-GROUP c = sym (width_is _ (one c.if-n-lt-GROUP.true))

pub returns-then-n-lt-TWO_GROUPS : goal.returns-then-n-lt-TWO_GROUPS
returns-then-n-lt-TWO_GROUPS c = sym (width_is _ (two c.if-n-lt-GROUP.false c.if-n-lt-TWO_GROUPS.true))

pub returns : goal.returns
returns c = sym (width_is _ (three c.if-n-lt-TWO_GROUPS.false))
