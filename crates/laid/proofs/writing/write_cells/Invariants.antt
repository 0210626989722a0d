-- `laid::write_cells` meets its contract: the cells up to x are written.
-- Assumes nothing.
use Rattle.laid.specs.ByteLaws.{CellsSoFar}
use Rattle.laid.proofs.writing.write_cells.Given as goal

abbrev pub invariant-loop-x : goal.invariant-loop-x
invariant-loop-x l = CellsSoFar l.cells l.initial.out l.at l.out l.p l.x-index
