-- `sheet_bytes::sheet` meets its contract: Input for the book, else what it builds.
-- Assumes nothing.
use mathlib.Core.Path.{refl, sym}
use Rattle.programs.specs.PrintLaws.{sheet_no_book, sheet_whole}
use Rattle.sheet_bytes.specs.PutLaws.{makes_as}
use Rattle.sheet_bytes.proofs.sheet.Goals as goal

pub returns-then-book-gt-BOOK_FILE : goal.returns-then-book-gt-BOOK_FILE
returns-then-book-gt-BOOK_FILE c = (sheet_no_book c.args.book.now c.if-book-gt-BOOK_FILE.true, refl)

pub returns : goal.returns
returns c = makes_as _ _ _ (sym (sheet_whole c.args.book.now c.if-book-gt-BOOK_FILE.false)) c.sheet_in.ensures
