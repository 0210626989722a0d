-- `reading::read_sheet` meets its contract: each return is one way of reading a sheet, with what was got on the way.
-- Assumes nothing.
use native.Mathlib.Omega.{arith}
use mathlib.Core.Path.{◌≡◌, refl, sym, ap, ◌∙◌}
use Rattle.std.specs.Prelude.{Err}
use Rattle.std.proofs.lemmas.Result.{err_from_is_err_and}
use Rattle.number.specs.Limits.{sheet_version, states}
use Rattle.number.specs.Refused.Answer.{got}
use Rattle.number.specs.Numbers.{field, taken}
use Rattle.number.proofs.NumberLaws.{field_read}
use Rattle.table.specs.Sheet.{Rows, read_states}
use Rattle.reading.specs.ReadingLaws.{Got, rows_got, rows_refused, table_stopped, table_got}
use Rattle.table.proofs.SheetReaders.{sheet_no_version, sheet_no_count, sheet_no_states, sheet_tail, sheet_got}
use Rattle.reading.proofs.read_sheet.Goals as goal

pub returns-in_err-at_count-clause-laid : goal.returns-in_err-at_count-clause-laid
returns-in_err-at_count-clause-laid c =
    let told = err_from_is_err_and c.from_residual.result c.from_residual.ensures.1 in
    let was = ap taken c.in_err-at_count.was in
    table_stopped _ (sheet_no_version _ states (sym c.read_field.ensures.answer ∙ was)) (ap taken (told.1 ∙ ap Err told.2))

pub returns-in_err-s-clause-laid : goal.returns-in_err-s-clause-laid
returns-in_err-s-clause-laid c =
    let version-got : (field c.args.sheet.now sheet_version sheet_version 0 ≡ got c.in_ok-at_count.field-0-0 c.in_ok-at_count.at_count) = sym c.read_field.ensures.answer ∙ ap taken c.in_ok-at_count.was in
    let told = err_from_is_err_and c.from_residual-in_err-s.result c.from_residual-in_err-s.ensures.1 in
    let was = ap taken c.in_err-s.was in
    table_stopped _ (sheet_no_count _ states version-got (sym c.read_field-2.ensures.answer ∙ was)) (ap taken (told.1 ∙ ap Err told.2))

pub read_states-requires : goal.read_states-requires
read_states-requires c =
    let count-got : (field c.args.sheet.now 1 states c.in_ok-at_count.at_count ≡ got c.in_ok-s.s c.in_ok-s.at_states) = sym c.read_field-2.ensures.answer ∙ ap taken c.in_ok-s.was in
    let bounds = field_read _ _ _ _ _ _ count-got in
    (bounds.low, bounds.high, omega (arith, c.requires.0), omega (arith, c.requires.1))

pub returns-in_err-end-clause-laid : goal.returns-in_err-end-clause-laid
returns-in_err-end-clause-laid c =
    let version-got : (field c.args.sheet.now sheet_version sheet_version 0 ≡ got c.in_ok-at_count.field-0-0 c.in_ok-at_count.at_count) = sym c.read_field.ensures.answer ∙ ap taken c.in_ok-at_count.was in
    let count-got : (field c.args.sheet.now 1 states c.in_ok-at_count.at_count ≡ got c.in_ok-s.s c.in_ok-s.at_states) = sym c.read_field-2.ensures.answer ∙ ap taken c.in_ok-s.was in
    let told = err_from_is_err_and c.from_residual-in_err-end.result c.from_residual-in_err-end.ensures.1 in
    let was = ap taken c.in_err-end.was in
    let rows = read_states c.args.sheet.now c.in_ok-s.s c.in_ok-s.at_states in
    let refused-at = rows_refused {x = rows} c.read_states.ensures was in
    table_stopped _ (sheet_no_states _ states version-got count-got refused-at) (ap taken (told.1 ∙ ap Err told.2))

pub returns-then-end-sheet-clause-laid : goal.returns-then-end-sheet-clause-laid
returns-then-end-sheet-clause-laid c =
    let version-got : (field c.args.sheet.now sheet_version sheet_version 0 ≡ got c.in_ok-at_count.field-0-0 c.in_ok-at_count.at_count) = sym c.read_field.ensures.answer ∙ ap taken c.in_ok-at_count.was in
    let count-got : (field c.args.sheet.now 1 states c.in_ok-at_count.at_count ≡ got c.in_ok-s.s c.in_ok-s.at_states) = sym c.read_field-2.ensures.answer ∙ ap taken c.in_ok-s.was in
    let states-got : (Got (read_states c.args.sheet.now c.in_ok-s.s c.in_ok-s.at_states) (λ (rows : Rows). c.in_ok-s.s) c.in_ok-end.field-0-0 c.in_ok-end.end) = rows_got c.read_states.ensures (ap taken c.in_ok-end.was) in
    table_stopped _ (sheet_tail _ states version-got count-got states-got.is c.if-end-sheet.true) refl

pub returns-clause-laid : goal.returns-clause-laid
returns-clause-laid c =
    let states-got : (Got (read_states c.args.sheet.now c.in_ok-s.s c.in_ok-s.at_states) (λ (rows : Rows). c.in_ok-s.s) c.in_ok-end.field-0-0 c.in_ok-end.end) = rows_got c.read_states.ensures (ap taken c.in_ok-end.was) in
    let version-got : (field c.args.sheet.now sheet_version sheet_version 0 ≡ got c.in_ok-at_count.field-0-0 c.in_ok-at_count.at_count) = sym c.read_field.ensures.answer ∙ ap taken c.in_ok-at_count.was in
    let count-got : (field c.args.sheet.now 1 states c.in_ok-at_count.at_count ≡ got c.in_ok-s.s c.in_ok-s.at_states) = sym c.read_field-2.ensures.answer ∙ ap taken c.in_ok-s.was in
    let rows = states-got in
    let whole = sheet_got _ states version-got count-got rows.is c.if-end-sheet.false in
    table_got whole rows.is c.read_states.ensures refl

pub returns-clause-few : goal.returns-clause-few
returns-clause-few c =
    let count-got : (field c.args.sheet.now 1 states c.in_ok-at_count.at_count ≡ got c.in_ok-s.s c.in_ok-s.at_states) = sym c.read_field-2.ensures.answer ∙ ap taken c.in_ok-s.was in
    (field_read _ _ _ _ _ _ count-got).high
