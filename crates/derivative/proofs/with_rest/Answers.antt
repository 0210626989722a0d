-- `derivative::with_rest` meets its contract: there is room to count what is turned.
-- Assumes nothing.
use Rattle.derivative.specs.DeriveLaws.{turned_asks}
use Rattle.derivative.proofs.with_rest.Goals as goal

pub negated_fit-requires-clause-room : goal.negated_fit-requires-clause-room
negated_fit-requires-clause-room c = (turned_asks c.requires).1.1
