-- `rule::node_built` meets its contract: what the calls that build of two terms ask.
-- Assumes nothing.
use native.Mathlib.Omega.{arith}
use Rattle.book.specs.declared.Node.TheVariants.{Alt, And}
use Rattle.rule.specs.NodeLaws.{cat_asks, merge_asks}
use Rattle.rule.proofs.node_built.Goals as goal

pub cat-requires : goal.cat-requires
cat-requires c = cat_asks c.requires c.in-Cat.is

pub merge-requires : goal.merge-requires
merge-requires c = merge_asks c.requires _ tt Alt c.in-Alt.is (omega arith)

pub merge-requires-in-And : goal.merge-requires-in-And
merge-requires-in-And c = merge_asks c.requires _ tt And c.in-And.is (omega arith)
