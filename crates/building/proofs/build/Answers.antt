-- `building::build` meets its contract: Room first, and then what the book comes to, with the rest of the table area and the work area 0.
-- Assumes nothing.
use mathlib.Core.Path.{ap, ◌∙◌}
use lib.ListN.{replicate}
use Rattle.building.specs.AnswerLaws.{behind_labels, behind_targets, behind_fits, room_labels, room_targets, room_work, build_leaves}
use Rattle.building.proofs.build.Goals as goal

pub returns-then-labels_end-lt-STATES : goal.returns-then-labels_end-lt-STATES
returns-then-labels_end-lt-STATES c = room_labels _ _ _ _ c.if-labels_end-lt-STATES.true

pub returns-then-targets_end-lt-TABLE_CELLS : goal.returns-then-targets_end-lt-TABLE_CELLS
returns-then-targets_end-lt-TABLE_CELLS c = room_targets _ _ _ _ c.if-labels_end-lt-STATES.false c.if-targets_end-lt-TABLE_CELLS.true

pub returns-then-work-lt-WORK_LENGTH : goal.returns-then-work-lt-WORK_LENGTH
returns-then-work-lt-WORK_LENGTH c = room_work _ _ _ _ c.if-labels_end-lt-STATES.false c.if-targets_end-lt-TABLE_CELLS.false c.if-work-lt-WORK_LENGTH.true

pub build_part-built-requires : goal.build_part-built-requires
build_part-built-requires c =
    record { states_in_bounds = c.if-labels_end-lt-STATES.false; table_cells_in_bounds = c.if-targets_end-lt-TABLE_CELLS.false; work_length_in_bounds = c.if-work-lt-WORK_LENGTH.false }

pub fill-requires : goal.fill-requires
fill-requires c =
    rw c.unwrap_or-count.ensures (behind_labels _ c.build_part-built.ensures c.if-labels_end-lt-STATES.false c.build_part-built.auto.labels)

pub overflow_mul-count : goal.overflow_mul-count
overflow_mul-count c = rw c.unwrap_or-count.ensures (record { fits = behind_fits _ c.build_part-built.ensures })

pub fill-requires-2 : goal.fill-requires-2
fill-requires-2 c =
    rw c.unwrap_or-count.ensures (behind_targets _ c.build_part-built.ensures c.if-targets_end-lt-TABLE_CELLS.false c.build_part-built.auto.targets)

pub returns : goal.returns
returns c =
    build_leaves _ _ _ _ c.if-labels_end-lt-STATES.false c.if-targets_end-lt-TABLE_CELLS.false c.if-work-lt-WORK_LENGTH.false
    _ c.build_part-built.ensures c.build_part-built.auto.labels c.build_part-built.auto.targets (c.clear.ensures ∙ ap (λ k. replicate k 0) c.build_part-built.auto.work)
    (rw c.unwrap_or-count.ensures at c.fill.ensures) (rw c.unwrap_or-count.ensures at c.fill-2.ensures)
