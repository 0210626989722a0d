-- `laid::again` meets its contract: the loop has redone the nodes up to i.
-- Assumes nothing.
use Rattle.laid.specs.LaidLaws.{redone_more, again_over}
use Rattle.laid.proofs.again.Goals as goal

pub loop-i-preserved : goal.loop-i-preserved
loop-i-preserved c = redone_more _ _ _ _ _ _ _ _ c.if-top-le-NODES.true c.loop-i-test.true c.loop-i.invariant c.lay-t.ensures

pub returns-else-top-le-NODES : goal.returns-else-top-le-NODES
returns-else-top-le-NODES c = again_over _ _ _ c.if-top-le-NODES.false
