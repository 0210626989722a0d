-- `typing::type_rules` meets its contract: too small an area is refused; else it is as with memory of its own.
-- Assumes nothing.
use Rattle.typing.specs.SumLaws.{types_room, types_given}
use Rattle.typing.proofs.type_rules.Goals as goal

pub returns-then-out-lt-TYPED_AREA : goal.returns-then-out-lt-TYPED_AREA
returns-then-out-lt-TYPED_AREA c = types_room _ _ c.if-out-lt-TYPED_AREA.true

pub returns : goal.returns
returns c = types_given _ _ _ _ c.if-out-lt-TYPED_AREA.false c.type_in.ensures
