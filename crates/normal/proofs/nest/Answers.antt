-- `normal::nest` meets its contract: a turn stores the node of the last member that is left, in the next cell of the list.
-- Assumes nothing.
use Rattle.normal.specs.NestLaws.{turned_around, nesting_first, nesting_next, nested_all}
use Rattle.normal.proofs.nest.Goals as goal

pub loop-at-init : goal.loop-at-init
loop-at-init c =
    nesting_first c.requires c.args.join
    (turned_around c.args.cells.now c.reverse.new.self c.requires.up c.requires.room c.reverse.ensures.len c.reverse.ensures.by_index)

pub loop-at-preserved : goal.loop-at-preserved
loop-at-preserved c =
    rw (← c.push.ensures.after)
    (nesting_next c.requires c.loop-at.invariant c.loop-at-test.true c.joined.ensures c.push.ensures)

pub returns : goal.returns
returns c = nested_all c.requires c.loop-at.invariant c.loop-at-test.false
