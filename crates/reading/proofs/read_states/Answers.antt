-- `reading::read_states` meets its contract: what the states to come leave is what was asked, by one law of reading states a way through a turn.
-- Assumes nothing.
use Prim.Native.Nat.{◌+◌, ◌-◌, ◌*◌}
use native.Mathlib.Omega.{arith}
use mathlib.Core.Path.{◌≡◌, refl, sym, ap, ◌∙◌}
use Rattle.std.specs.Prelude.{Err}
use Rattle.std.proofs.lemmas.Result.{err_from_is_err_and}
use lib.ListN.{length, take, drop}
use Rattle.number.specs.Limits.{rules as limit, bytes}
use Rattle.number.specs.Refused.Answer.{got}
use Rattle.number.specs.Numbers.{field, taken}
use Rattle.number.proofs.NumberLaws.{field_read}
use Rattle.table.specs.Sheet.{read_runs, more_states}
use Rattle.reading.specs.ReadingLaws.{runs_cover, RowGot, row_got, row_refused, row_placed}
use Rattle.reading.specs.ReadingLaws.{states_end, states_no_label, states_no_count, states_no_row, states_more}
use Rattle.reading.specs.ReadingLaws.{rows_stopped, rows_end, rows_more}
use Rattle.reading.proofs.read_states.Goals as goal

pub returns-in_err-label : goal.returns-in_err-label
returns-in_err-label c =
    let told = err_from_is_err_and c.from_residual.result c.from_residual.ensures.1 in
    let was = ap taken c.in_err-label.was in
    let refused-at = sym c.read_field.ensures.answer ∙ was in
    c.loop-i.invariant _ _ _ (rows_stopped _ (states_no_label _ _ _ _ (c.args.s - (c.loop-i.i + 1)) (omega arith) refused-at) (ap taken (told.1 ∙ ap Err told.2)))

pub returns-in_err-count : goal.returns-in_err-count
returns-in_err-count c =
    let label-got : (field c.args.sheet.now 0 limit c.loop-i.place ≡ got c.in_ok-label.label c.in_ok-label.at_count) = sym c.read_field.ensures.answer ∙ ap taken c.in_ok-label.was in
    let told = err_from_is_err_and c.from_residual-in_err-count.result c.from_residual-in_err-count.ensures.1 in
    let was = ap taken c.in_err-count.was in
    let refused-at = sym c.read_field-in-loop-i.ensures.answer ∙ was in
    c.loop-i.invariant _ _ _ (rows_stopped _ (states_no_count _ _ _ _ (c.args.s - (c.loop-i.i + 1)) (omega arith) label-got refused-at) (ap taken (told.1 ∙ ap Err told.2)))

pub overflow_cast-labels : goal.overflow_cast-labels
overflow_cast-labels c =
    let label-got : (field c.args.sheet.now 0 limit c.loop-i.place ≡ got c.in_ok-label.label c.in_ok-label.at_count) = sym c.read_field.ensures.answer ∙ ap taken c.in_ok-label.was in
    omega (arith, (field_read _ _ _ _ _ _ label-got).high)

pub returns-in_err-next : goal.returns-in_err-next
returns-in_err-next c =
    let label-got : (field c.args.sheet.now 0 limit c.loop-i.place ≡ got c.in_ok-label.label c.in_ok-label.at_count) = sym c.read_field.ensures.answer ∙ ap taken c.in_ok-label.was in
    let count-got : (field c.args.sheet.now 1 bytes c.in_ok-label.at_count ≡ got c.in_ok-count.count c.in_ok-count.at_runs) = sym c.read_field-in-loop-i.ensures.answer ∙ ap taken c.in_ok-count.was in
    let told = err_from_is_err_and c.from_residual-in_err-next.result c.from_residual-in_err-next.ensures.1 in
    let was = ap taken c.in_err-next.was in
    let runs = read_runs c.args.sheet.now c.args.s c.in_ok-count.count c.in_ok-count.at_runs in
    let refused-at = row_refused {x = runs} c.read_runs.ensures was in
    c.loop-i.invariant _ _ _
    (rows_stopped _ (states_no_row _ _ _ _ (c.args.s - (c.loop-i.i + 1)) (omega arith) label-got count-got refused-at) (ap taken (told.1 ∙ ap Err told.2)))

pub loop-i-preserved : goal.loop-i-preserved
loop-i-preserved c =
    let g : (RowGot (read_runs c.args.sheet.now c.args.s c.in_ok-count.count c.in_ok-count.at_runs)
    (take (c.loop-i.i * bytes + bytes - c.loop-i.i * bytes) (drop (c.loop-i.i * bytes) c.loop-i.targets)) 0 c.read_runs.new.row c.in_ok-next.next) = row_got c.read_runs.ensures (ap taken c.in_ok-next.was) in
    let label-got : (field c.args.sheet.now 0 limit c.loop-i.place ≡ got c.in_ok-label.label c.in_ok-label.at_count) = sym c.read_field.ensures.answer ∙ ap taken c.in_ok-label.was in
    let count-got : (field c.args.sheet.now 1 bytes c.in_ok-label.at_count ≡ got c.in_ok-count.count c.in_ok-count.at_runs) = sym c.read_field-in-loop-i.ensures.answer ∙ ap taken c.in_ok-count.was in
    let covers = runs_cover c.args.sheet.now c.args.s c.in_ok-count.count 0 c.args.s c.in_ok-count.at_runs (omega arith) in
    let size : length g.row ≡ bytes = omega (arith, rw g.is at covers) in
    let more = states_more c.args.sheet.now c.args.s (c.args.s - c.loop-i.i) c.loop-i.place (c.args.s - (c.loop-i.i + 1)) (omega arith)
    label-got count-got g.is in
    let rest = more_states c.args.sheet.now c.args.s (c.args.s - (c.loop-i.i + 1)) c.in_ok-next.next in
    let placed = row_placed c.loop-i.targets (c.loop-i.i * bytes) g.row (omega (arith, c.loop-i.auto.targets, c.requires.3)) size g.cells in
    λ ls ts r h. c.loop-i.invariant ls ts r (rows_more rest c.in_ok-label.label g.row more
    (omega (arith, c.loop-i.auto.labels, c.requires.2)) (omega (arith, c.loop-i.auto.targets, c.requires.3)) refl placed size (omega arith) h)

pub returns : goal.returns
returns c = c.loop-i.invariant _ _ _ (rows_end (states_end _ _ _ _ (omega arith)) refl)
