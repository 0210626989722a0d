-- `typing::longer` meets its contract: the smaller of the number and one past the limit.
-- Assumes nothing.
use Rattle.typing.specs.PassLaws.{longer_is}
use Rattle.typing.proofs.longer.Goals as goal

pub returns : goal.returns
returns c = longer_is _ _ _ c.min.ensures
