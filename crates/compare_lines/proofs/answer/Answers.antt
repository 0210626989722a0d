-- The book's faults, then the sheet's, then what comparing answers and shows.
use Rattle.std.proofs.Common.{arith, sym, ◌∙◌}
use Rattle.std.proofs.lemmas.Result.{err_from_is_err_and}
use Rattle.programs.specs.StandLaws.{load_refused, load_gave}
use Rattle.compare_lines.specs.ToldLinesLaws.{held_refused, compare_holds, files_no_book, files_no_sheet, files_both}
use Rattle.compare_lines.proofs.answer.Goals as goal

pub returns-in_err-check_book : goal.returns-in_err-check_book
returns-in_err-check_book c =
    let told = err_from_is_err_and c.from_residual.result c.from_residual.ensures.1 in
    rw (told.1, told.2) (held_refused _ _ (files_no_book c.args.book.now c.args.sheet.now _ (sym c.in_err-check_book.ensures.answer)))

pub returns-in_err-count : goal.returns-in_err-count
returns-in_err-count c =
    let told = err_from_is_err_and c.from_residual-in_err-count.result c.from_residual-in_err-count.ensures.1 in
    rw (told.1, told.2) (held_refused _ _ (files_no_sheet c.args.book.now c.args.sheet.now _ _ (sym c.in_ok-check_book.ensures.answer) _
    (load_refused c.args.sheet.now c.args.labels.now c.args.targets.now c.requires.states_in_bounds c.requires.table_cells_in_bounds _ _ _ _ c.in_err-count.was c.load.ensures)))

pub returns : goal.returns
returns c =
    let read = load_gave c.args.sheet.now c.args.labels.now c.args.targets.now c.requires.states_in_bounds c.requires.table_cells_in_bounds _ _ (λ i h. omega (arith, c.type_inv.sheet i)) _ _ c.in_ok-count.was c.load.ensures in
    let held = compare_holds c.args.book.now _ _ _ _ _ _ _ _ read.table read.stood (omega (arith, c.requires.area_len)) c.requires.work_length_in_bounds (omega (arith, c.compare_book.auto.text_area)) c.compare_book.ensures in
    record { lines = held.lines ∙ files_both c.args.book.now c.args.sheet.now _ _ (sym c.in_ok-check_book.ensures.answer) read.table read.after read.read; inside = held.inside }
