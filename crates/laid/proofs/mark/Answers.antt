-- `laid::mark` meets its contract: one law of marking a return.
-- Assumes nothing.
use Rattle.std.proofs.Common.{arith}
use Rattle.laid.specs.LaidLaws.{marked_star, marked_plus, marked_maybe}
use Rattle.laid.proofs.mark.Goals as goal

pub returns-in-42 : goal.returns-in-42
returns-in-42 c = marked_star _ _ _ _ _ _ c.in-42.is c.lay.ensures

pub returns-in-43 : goal.returns-in-43
returns-in-43 c = marked_plus _ _ _ _ _ _ _ _ _ _ c.in-43.is c.again-twice.ensures c.lay-starred.ensures c.lay-in-43.ensures

pub returns-in_default : goal.returns-in_default
returns-in_default c = marked_maybe _ _ _ c.args.c _ _ _ _ (λ z. omega arith) (λ z. omega arith) c.lay-empty.ensures c.lay-in_default.ensures
