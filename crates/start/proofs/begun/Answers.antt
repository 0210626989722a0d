-- `start::begun` meets its contract: vector 0 is too long, or is the walk's first step.
-- Assumes nothing.
use Rattle.start.specs.BeginLaws.{enters_long, enters_first}
use Rattle.start.proofs.begun.Goals as goal

pub returns-in_default : goal.returns-in_default
returns-in_default c = record { enters = enters_long c.first_vector.auto.cells c.in_default.ensures.too_long; follows = tt }

pub returns : goal.returns
returns c =
    record {
      enters = enters_first c.first_vector.auto.cells c.in-Some.ensures.terms c.hold_first.ensures.begins;
      follows = c.hold_first.ensures.keeps.keeps _ c.in-Some.ensures.indexed;
    }
