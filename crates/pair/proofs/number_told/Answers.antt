-- `pair::number_told` meets its contract: the start is looked for among the items, and the number is told by where it stands.
-- Assumes nothing.
use Rattle.std.proofs.Common.{arith}
use Rattle.pair.specs.ToldLaws.{told_start, told_behind, told_before}
use Rattle.pair.proofs.number_told.Goals as goal

pub load-requires : goal.load-requires
load-requires c = record { long = c.requires.kept.long; few = omega arith }

pub find-requires : goal.find-requires
find-requires c = record { work_length_in_bounds = c.requires.kept.long; count_le = c.requires.few }

pub returns-in-Some : goal.returns-in-Some
returns-in-Some c = told_behind _ _ _ _ c.requires _ c.load.ensures _ c.in-Some.ensures c.if-back-i.true

pub returns-in-Some-2 : goal.returns-in-Some-2
returns-in-Some-2 c = told_start _ _ _ _ c.requires _ c.load.ensures _ c.in-Some.ensures c.if-back-i-2.true

pub returns-in_default : goal.returns-in_default
returns-in_default c = told_before _ _ _ _ c.requires _ c.load.ensures _ c.in-Some-2.ensures (omega arith)

pub returns-in_default-2 : goal.returns-in_default-2
returns-in_default-2 c = told_before _ _ _ _ c.requires _ c.load.ensures _ (rw c.in_default.is at c.find.ensures) (omega arith)
