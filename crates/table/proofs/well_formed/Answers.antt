-- `table::well_formed` meets its contract: each return is one law of the six tests, in their order.
-- Assumes nothing.
use mathlib.Core.Path.{sym, ◌∙◌}
use Rattle.table.specs.TableLaws.{well_none, well_over, well_labels_short, well_targets_short, well_cells}
use Rattle.table.proofs.well_formed.Goals as goal
use Rattle.table.proofs.well_formed.Goals.{then-count-lt1-via-then-count-lt1 as none, then-count-lt1-via-else-count-lt1+then-count-gt-STATES as over, then-count-lt1-via-else-count-lt1+else-count-gt-STATES+then-labels-count as few_labels, then-count-lt1-via-else-count-lt1+else-count-gt-STATES+else-labels-count+then-targets-count as few_targets}

pub returns-then-count-lt1 : goal.returns-then-count-lt1
returns-then-count-lt1 c =
    record {
      answer =
          elim c.then-count-lt1.branch [
            | none w ↦ well_none _ _ _ w.if-count-lt1.true
            | over w ↦ well_over _ _ _ w.if-count-lt1.false w.if-count-gt-STATES.true
            | few_labels w ↦ well_labels_short _ _ _ w.if-count-lt1.false w.if-count-gt-STATES.false w.if-labels-count.true
            | few_targets w ↦ well_targets_short _ _ _ w.if-count-lt1.false w.if-count-gt-STATES.false w.if-labels-count.false w.if-targets-count.true
          ];
    }

pub returns-then-all_below : goal.returns-then-all_below
returns-then-all_below c =
    let cells = well_cells c.args.count c.args.labels.now c.args.targets.now c.if-count-lt1.false c.if-count-gt-STATES.false c.if-labels-count.false c.if-targets-count.false in
    record { answer = c.all_below-then-all_below.ensures ∙ cells (sym c.if-all_below.true ∙ c.all_below.ensures) }

pub returns-else-all_below : goal.returns-else-all_below
returns-else-all_below c =
    let cells = well_cells c.args.count c.args.labels.now c.args.targets.now c.if-count-lt1.false c.if-count-gt-STATES.false c.if-labels-count.false c.if-targets-count.false in
    record { answer = c.if-all_below.false ∙ cells (sym c.if-all_below.false ∙ c.all_below.ensures) }
