-- `building::build_book` meets its contract: a book that is refused builds no table, and any other is opened with its rules.
-- Assumes nothing.
use Rattle.std.proofs.lemmas.Result.{err_from_is_err_and}
use Rattle.building.specs.AnswerLaws.{tabled_as, book_refused, book_opened, book_table}
use Rattle.building.proofs.build_book.Goals as goal

pub build_rules-requires : goal.build_rules-requires
build_rules-requires c =
    record { opened = book_opened _ c.check_book.ensures.answer c.in_ok-n.was; roomy = c.requires }

pub returns-in_err-n : goal.returns-in_err-n
returns-in_err-n c =
    let told = err_from_is_err_and c.from_residual.result c.from_residual.ensures.1 in
    rw (told.1, told.2) (book_refused _ c.check_book.ensures.answer c.in_err-n.was)

pub returns : goal.returns
returns c = tabled_as _ c.build_rules.ensures (book_table _ c.check_book.ensures.answer c.in_ok-n.was)
