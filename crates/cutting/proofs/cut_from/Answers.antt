-- `cutting::cut_from` meets its contract: words put into cells are the words of the cut, three cells for each.
-- Assumes nothing.
use Rattle.cutting.specs.LayLaws.{promise_cells}
use Rattle.cutting.proofs.cut_from.Goals as goal

pub returns : goal.returns
returns c = promise_cells _ _ _ _ _ c.cut_into.ensures
