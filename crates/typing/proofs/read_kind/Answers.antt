-- `typing::read_kind` meets its contract: the digits up to p are read.
-- Assumes nothing.
use Rattle.names.specs.ByteLaws.{byte_inside}
use Rattle.typing.specs.PassLaws.{kind_none, kind_zero, kind_first, kind_more, kind_stops, kind_ends}
use Rattle.typing.proofs.read_kind.Goals as goal

pub returns-in_default : goal.returns-in_default
returns-in_default c = kind_none _ _ _ c.requires (byte_inside _ _ c.requires) c.in_default.ensures.value

pub returns-then-first-eq0 : goal.returns-then-first-eq0
returns-then-first-eq0 c = kind_zero _ _ _ c.requires (byte_inside _ _ c.requires) _ _ c.in-Some.ensures.value c.if-first-eq0.true c.colon.ensures

pub loop-p-init : goal.loop-p-init
loop-p-init c = kind_first _ _ _ c.requires (byte_inside _ _ c.requires) _ c.in-Some.ensures.value c.if-first-eq0.false c.in-Some.ensures.small

pub returns-in_default-digit_of : goal.returns-in_default-digit_of
returns-in_default-digit_of c = kind_stops _ _ _ _ _ c.loop-p.invariant (byte_inside _ _ c.loop-p-test.true) _ c.in_default-digit_of.ensures.value c.colon-in_default-digit_of.ensures

pub loop-p-preserved : goal.loop-p-preserved
loop-p-preserved c = kind_more _ _ _ _ _ c.loop-p.invariant (byte_inside _ _ c.loop-p-test.true) _ _ c.loop-p-test.true c.in-Some-digit_of.ensures.value c.longer-kind.ensures

pub returns : goal.returns
returns c = kind_ends _ _ _ _ c.loop-p-test.false c.loop-p.invariant
