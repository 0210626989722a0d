-- `normal::cat_fit` meets its contract: what cat made is counted.
-- Assumes nothing.
use Rattle.normal.specs.ChainLaws.{cat_counts}
use Rattle.normal.specs.AnswerLaws.{fitted}
use Rattle.normal.proofs.cat_fit.Goals as goal

pub cat-made-requires : goal.cat-made-requires
cat-made-requires c = c.requires.links

pub fit-requires : goal.fit-requires
fit-requires c = cat_counts c.requires c.cat-made.ensures

pub returns : goal.returns
returns c = fitted c.cat-made.ensures c.fit.ensures
