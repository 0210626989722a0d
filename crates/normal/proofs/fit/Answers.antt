-- `normal::fit` meets its contract: the test of the length tells which answer it is.
-- Assumes nothing.
use mathlib.Core.Path.{sym, ◌∙◌}
use Rattle.normal.proofs.fit.Goals as goal

pub returns-then-is_short : goal.returns-then-is_short
returns-then-is_short c =
    record { is = rw (sym c.is_short.ensures.is ∙ c.if-is_short.true); wasted = c.is_short.ensures.wasted }

pub returns-else-is_short : goal.returns-else-is_short
returns-else-is_short c =
    record { is = rw (sym c.is_short.ensures.is ∙ c.if-is_short.false); wasted = c.is_short.ensures.wasted }
