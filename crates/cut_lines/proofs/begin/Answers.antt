-- `cut_lines::begin` meets its contract: Input for each file, the build's refusal, or the table that was built with the kinds of its rules.
-- Assumes nothing.
use native.Mathlib.Omega.{arith}
use mathlib.Core.Path.{sym, ap, ◌∙◌}
use Rattle.programs.specs.Print.{cut_built}
use Rattle.programs.specs.PrintLaws.{cut_no_book, cut_no_text, cut_both}
use Rattle.programs.specs.StandLaws.{build_refused, build_gave}
use Rattle.cut_lines.proofs.PartLaws.{begins_told, begins_states}
use Rattle.cut_lines.proofs.begin.Goals as goal

pub returns-then-book-gt-BOOK_FILE : goal.returns-then-book-gt-BOOK_FILE
returns-then-book-gt-BOOK_FILE c =
    begins_told c.args.book.now c.args.text.now _ _ (cut_no_book c.args.book.now c.args.text.now c.if-book-gt-BOOK_FILE.true)
    c.tell.ensures.line c.tell.ensures.within

pub returns-then-text-gt-TEXT_FILE : goal.returns-then-text-gt-TEXT_FILE
returns-then-text-gt-TEXT_FILE c =
    begins_told c.args.book.now c.args.text.now _ _ (cut_no_text c.args.book.now c.args.text.now c.if-book-gt-BOOK_FILE.false c.if-text-gt-TEXT_FILE.true)
    c.tell-then-text-gt-TEXT_FILE.ensures.line c.tell-then-text-gt-TEXT_FILE.ensures.within

pub returns-in-Err : goal.returns-in-Err
returns-in-Err c =
    let refusal = build_refused c.args.book.now c.args.labels.now c.args.targets.now c.args.work.now c.requires.states_in_bounds c.requires.table_cells_in_bounds c.requires.work_length_in_bounds _ _ _ _ _ c.in-Err.is c.build.ensures in
    begins_told c.args.book.now c.args.text.now _ _
    (ap (cut_built c.args.book.now c.args.text.now) (sym refusal) ∙ cut_both c.args.book.now c.args.text.now c.if-book-gt-BOOK_FILE.false c.if-text-gt-TEXT_FILE.false)
    c.tell-in-Err.ensures.line c.tell-in-Err.ensures.within

pub returns-in-Ok : goal.returns-in-Ok
returns-in-Ok c =
    let built = build_gave c.args.book.now c.args.labels.now c.args.targets.now c.args.work.now c.requires.states_in_bounds c.requires.table_cells_in_bounds c.requires.work_length_in_bounds _ _ _ _ _ c.in-Ok.is c.build.ensures in
    begins_states c.args.book.now c.args.text.now _ c.if-book-gt-BOOK_FILE.false c.if-text-gt-TEXT_FILE.false built (omega (arith, c.requires.rules_in_bounds, c.look_up.auto.kinds)) c.look_up.ensures
