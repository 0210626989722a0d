-- `find` looks for an item: so far no item passed has this sheet state and these numbers.
-- The first that has ends it; past the last there is none.
use Rattle.std.proofs.Common.{arith, below_more}
use Rattle.meaning.specs.Tests.{clash}
use Rattle.vector.proofs.find.Goals as goal

pub loop-k-init : goal.loop-k-init
loop-k-init c = λ j h. absurd (omega arith)

pub returns-then-is_pair : goal.returns-then-is_pair
returns-then-is_pair c =
    record { within = omega arith; there = c.is_pair.ensures.equal c.if-is_pair.true; before = c.loop-k.invariant }

pub loop-k-preserved : goal.loop-k-preserved
loop-k-preserved c = below_more _ _ c.loop-k.invariant (λ p. clash (c.is_pair.ensures.told p) c.if-is_pair.false)

pub returns : goal.returns
returns c =
    record { within = tt; there = tt; before = λ j h. c.loop-k.invariant j (omega arith) }
