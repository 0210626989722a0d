-- `pooling::child_of` meets its contract: one law for each of its returns.
-- Assumes nothing.
use Rattle.std.proofs.Common.{◌<◌, ◌-◌, length, arith, length-take-le}
use Rattle.pooling.specs.PutLaws.{taken_held, takes_some, taken_made}
use Rattle.pooling.proofs.child_of.Goals as goal

pub returns-then-child-base-clause-taken : goal.returns-then-child-base-clause-taken
returns-then-child-base-clause-taken c = taken_held _ _ _ _ c.if-child-base.true

pub overflow_sub-last : goal.overflow_sub-last
overflow_sub-last c = omega (arith, takes_some _ _ c.args.stack.now _ (λ h. omega arith) c.requires)

pub bounds-stack-last : goal.bounds-stack-last
bounds-stack-last c = omega (arith, takes_some _ _ c.args.stack.now _ (λ h. omega arith) c.requires)

pub returns-clause-taken : goal.returns-clause-taken
returns-clause-taken c =
    let some : 0 < length c.args.stack.now = takes_some _ _ c.args.stack.now _ (λ h. omega arith) c.requires in
    rw (length-take-le (length c.args.stack.now - 1) c.args.stack.now (omega arith)) (taken_made _ _ _ _ (λ h. omega arith) some)
