-- `term::compare_terms` meets its contract: a look at the two nodes tells the order, or their parts do.
-- Assumes nothing.
use Rattle.term.specs.CompareLaws.{told}
use Rattle.term.proofs.compare_terms.Goals as goal

pub returns-in-Told : goal.returns-in-Told
returns-in-Told c = told c.compare_nodes-glance.ensures c.in-Told.is
