-- `merged::merge_short` meets its contract: with Nothing on a side one of the two is the answer, and fits as it is; all else is counted.
-- Assumes nothing.
use Rattle.term.specs.CellLaws.{found}
use Rattle.normal.specs.NodeLaws.{told_nothing}
use Rattle.normal.specs.AnswerLaws.{fitted, fits_made}
use Rattle.merged.specs.UniteLaws.{none_left, none_right, beside_short, beside_short_right, merge_counts}
use Rattle.merged.proofs.merge_short.Goals as goal

pub returns-then-is_nothing : goal.returns-then-is_nothing
returns-then-is_nothing c =
    let x = found _ _ _ _ c.requires.sides.sound c.requires.sides.left c.node_at-x.ensures in
    fits_made _ (none_left c.requires.sides (told_nothing x c.is_nothing.ensures c.if-is_nothing.true) c.beside.ensures)
    (beside_short c.requires.sides c.beside.ensures)

pub returns-then-is_nothing-2 : goal.returns-then-is_nothing-2
returns-then-is_nothing-2 c =
    let y = found _ _ _ _ c.requires.sides.sound c.requires.sides.right c.node_at-y.ensures in
    fits_made _ (none_right c.requires.sides (told_nothing y c.is_nothing-2.ensures c.if-is_nothing-2.true) c.beside-then-is_nothing-2.ensures)
    (beside_short_right c.requires.sides c.beside-then-is_nothing-2.ensures)

pub fit-requires : goal.fit-requires
fit-requires c =
    merge_counts c.requires c.merge-made.ensures

pub returns : goal.returns
returns c = fitted c.merge-made.ensures c.fit.ensures
