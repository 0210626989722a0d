-- `laid::write_cells` meets its contract: the cells up to x are written.
-- Assumes nothing.
use Rattle.laid.specs.ByteLaws.{cells_first, cells_on}
use Rattle.laid.proofs.writing.write_cells.Goals as goal

pub loop-x-init : goal.loop-x-init
loop-x-init c = cells_first _ _ _

pub loop-x-preserved : goal.loop-x-preserved
loop-x-preserved c = cells_on _ _ _ _ _ _ _ _ c.loop-x-test.true c.requires c.loop-x.invariant c.write_cell-p.ensures
