-- `laid::lay_range` meets its contract.
-- Assumes nothing.
use Rattle.laid.specs.TableLaws.{range_first, range_next}
use Rattle.laid.proofs.lay_range.Goals as goal

pub returns-then-joined : goal.returns-then-joined
returns-then-joined c = range_next _ _ _ _ c.range_cell-x.ensures _ _ c.lay-t.ensures _ _ _ c.if-joined.true c.lay.ensures

pub returns : goal.returns
returns c = range_first _ _ _ _ c.range_cell-x.ensures _ _ c.lay-t.ensures _ c.if-joined.false
