-- `names::known` meets its contract: what the sets from k on say of the part is what all say.
-- Assumes nothing.
use Rattle.std.proofs.Common.{arith}
use Rattle.names.specs.NameLaws.{known_whole, known_begun, known_miss, known_none}
use Rattle.names.proofs.known.Goals as goal

pub returns-then-name-part : goal.returns-then-name-part
returns-then-name-part c = known_whole _ _ c.loop-k-test.true c.loop-k.invariant.1 _ _ c.starts_with.ensures.value c.name_of-name.ensures c.if-starts_with.true c.if-name-part.true

pub returns-then-starts_with : goal.returns-then-starts_with
returns-then-starts_with c = known_begun _ _ c.loop-k-test.true c.loop-k.invariant.1 _ _ c.starts_with.ensures.value c.name_of-name.ensures c.if-starts_with.true (c.starts_with.ensures.bound c.if-starts_with.true) c.if-name-part.false

pub loop-k-preserved : goal.loop-k-preserved
loop-k-preserved c = (omega arith, known_miss _ _ c.loop-k-test.true c.loop-k.invariant.1 _ _ c.starts_with.ensures.value c.name_of-name.ensures c.if-starts_with.false)

pub returns : goal.returns
returns c = known_none _ _ c.loop-k.invariant.0 c.loop-k-test.false c.loop-k.invariant.1
