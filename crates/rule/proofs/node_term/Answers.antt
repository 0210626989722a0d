-- `rule::node_term` meets its contract: what the node made is counted.
-- Assumes nothing.
use Rattle.normal.specs.AnswerLaws.{fitted}
use Rattle.rule.specs.NodeLaws.{node_counts}
use Rattle.rule.proofs.node_term.Goals as goal

pub fit-requires : goal.fit-requires
fit-requires c =
    node_counts c.requires.operands c.requires.room c.node_built-made.ensures

pub returns : goal.returns
returns c = fitted c.node_built-made.ensures c.fit.ensures
