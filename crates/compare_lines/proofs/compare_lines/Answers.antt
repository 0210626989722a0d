-- Input for each file, else what both files come to.
use Rattle.std.proofs.Common.{rules, arith, ◌∙◌}
use Rattle.programs.specs.PrintLaws.{writes_as, compare_no_book, compare_no_sheet, compare_both}
use Rattle.compare_lines.proofs.compare_lines.Goals as goal

pub put_answer-requires : goal.put_answer-requires
put_answer-requires c = record { inside = c.answer-found.ensures.inside; area_len = search rules; compare_room_in_bounds = c.requires }

pub returns-then-book-gt-BOOK_FILE : goal.returns-then-book-gt-BOOK_FILE
returns-then-book-gt-BOOK_FILE c =
    record { writes = writes_as (compare_no_book c.args.book.now c.args.sheet.now c.if-book-gt-BOOK_FILE.true) c.put_refused.ensures.writes; upper_bound = omega (arith, c.requires, c.put_refused.ensures.upper_bound, c.put_refused.auto.out) }

pub returns-then-sheet-gt-SHEET_FILE : goal.returns-then-sheet-gt-SHEET_FILE
returns-then-sheet-gt-SHEET_FILE c =
    record { writes = writes_as (compare_no_sheet c.args.book.now c.args.sheet.now c.if-book-gt-BOOK_FILE.false c.if-sheet-gt-SHEET_FILE.true) c.put_refused-then-sheet-gt-SHEET_FILE.ensures.writes; upper_bound = omega (arith, c.requires, c.put_refused-then-sheet-gt-SHEET_FILE.ensures.upper_bound, c.put_refused-then-sheet-gt-SHEET_FILE.auto.out) }

pub returns : goal.returns
returns c =
    record { writes = writes_as (c.answer-found.ensures.lines ∙ compare_both c.args.book.now c.args.sheet.now c.if-book-gt-BOOK_FILE.false c.if-sheet-gt-SHEET_FILE.false) c.put_answer.ensures.writes; upper_bound = c.put_answer.ensures.upper_bound }
