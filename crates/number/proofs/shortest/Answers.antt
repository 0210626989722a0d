-- `number::shortest` meets its contract: each arm is one law of the last group.
-- Assumes nothing.
use mathlib.Core.Path.{sym}
use Rattle.number.proofs.NumberLaws.{several_none, several_some}
use Rattle.number.proofs.shortest.Goals as goal

pub returns-then-last-eq0 : goal.returns-then-last-eq0
returns-then-last-eq0 c = sym (several_none _ _ _ c.if-last-eq0.true)

pub returns-else-last-eq0 : goal.returns-else-last-eq0
returns-else-last-eq0 c = sym (several_some _ _ _ c.if-last-eq0.false)
