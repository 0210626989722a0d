-- `cutting::cut` meets its contract: words put into a list are the words of the cut, in records.
-- Assumes nothing.
use Rattle.cutting.specs.LayLaws.{promise_words}
use Rattle.cutting.proofs.cut.Goals as goal

pub returns : goal.returns
returns c = promise_words _ _ _ _ c.cut_into.ensures
