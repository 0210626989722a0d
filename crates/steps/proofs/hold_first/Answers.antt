-- `steps::hold_first` meets its contract: vector 0 does not fit the pool, or becomes item 0.
-- Assumes nothing.
use native.Mathlib.Omega.{arith}
use Rattle.steps.specs.AnswerLaws.{begins_over, begins_held, begun_index}
use Rattle.steps.proofs.hold_first.Goals as goal

pub returns-then-top-gt-POOL : goal.returns-then-top-gt-POOL
returns-then-top-gt-POOL c =
    record { begins = begins_over c.args.cells.now c.args.n c.args.top c.args.v.at c.requires c.if-top-gt-POOL.true; keeps = record { keeps = λ x i. tt } }

pub store_item-requires : goal.store_item-requires
store_item-requires c = record { long = c.requires.kept.long; few = omega arith }

pub returns : goal.returns
returns c =
    record { begins = begins_held c.args.cells.now c.args.n c.args.top c.args.v.at c.requires c.if-top-gt-POOL.false _ c.store_item.ensures; keeps = record { keeps = begun_index c.args.cells.now c.args.n c.args.top c.args.v.at c.requires c.if-top-gt-POOL.false _ c.store_item.ensures } }
