-- `merged::head_of` meets its contract: of what is joined so its left side, of anything else itself.
-- Assumes nothing.
use mathlib.Core.Path.{sym, ◌∙◌}
use Rattle.merged.proofs.head_of.Goals as goal

pub returns-then-joins : goal.returns-then-joins
returns-then-joins c = rw (sym c.joins.ensures ∙ c.if-joins.true) c.first_of.ensures

pub returns : goal.returns
returns c = rw (sym c.joins.ensures ∙ c.if-joins.false)
