-- `term::unpack` meets its contract: the node of a cell is that of its kind over its fields.
-- Assumes nothing.
use Rattle.term.specs.Cells.{node_of}
use Rattle.term.proofs.unpack.Goals as goal

pub returns : goal.returns
unfolding node_of
returns c = c.rebuilt.ensures
