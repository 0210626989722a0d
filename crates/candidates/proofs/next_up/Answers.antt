-- `candidates::next_up` meets its contract: the flags from c up to r are down.
-- Assumes nothing.
use Rattle.candidates.specs.RunLaws.{passed_more, next_up, next_none}
use Rattle.candidates.proofs.next_up.Goals as goal

pub returns-then-found-r : goal.returns-then-found-r
returns-then-found-r c = next_up _ _ _ c.loop-r.auto.r c.loop-r-test.true c.if-found-r.true c.loop-r.invariant

pub loop-r-preserved : goal.loop-r-preserved
loop-r-preserved c = passed_more _ _ _ c.loop-r-test.true c.if-found-r.false c.loop-r.invariant

pub returns : goal.returns
returns c = next_none _ _ _ c.loop-r-test.false c.loop-r.invariant
