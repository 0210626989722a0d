-- `normal::negated_fit` meets its contract: what negated made is counted.
-- Assumes nothing.
use Rattle.normal.specs.AnswerLaws.{fitted, made_counts}
use Rattle.normal.proofs.negated_fit.Goals as goal

pub fit-requires : goal.fit-requires
fit-requires c = made_counts c.negated-made.ensures c.requires.room

pub returns : goal.returns
returns c = fitted c.negated-made.ensures c.fit.ensures
