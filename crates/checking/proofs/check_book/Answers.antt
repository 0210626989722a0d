-- `checking::check_book` meets its contract: each return is one law of a whole book, with what was read up to there.
-- Assumes nothing.
use mathlib.Core.Path.{sym, ap}
use Rattle.std.proofs.lemmas.Result.{err_from_is_err_and}
use Rattle.book.specs.Calls.{size_of}
use Rattle.book.specs.Promises.{checks}
use Rattle.book.specs.CodeLaws.{BookHead, book_version_refused, book_count_refused, book_rules_refused, book_tail, book_counts}
use Rattle.checking.proofs.check_book.Goals as goal
use Rattle.checking.proofs.check_book.Goals.{In_ok-rules}

-- the version and the rule count, as they were read
head_read : (c : In_ok-rules) → BookHead c.args.book.now c.in_ok-version.version c.in_ok-version.at_rules c.in_ok-rules.rules c.in_ok-rules.first
head_read c = record { version_read = sym c.in_ok-version.ensures.answer; count_read = sym c.in_ok-rules.ensures.answer }

pub returns-in_err-version : goal.returns-in_err-version
returns-in_err-version c =
    let told = err_from_is_err_and c.from_residual.result c.from_residual.ensures.1 in
    rw (told.1, told.2) (checks (sym (ap size_of (book_version_refused _ _ (sym c.in_err-version.ensures.answer)))))

pub returns-in_err-rules : goal.returns-in_err-rules
returns-in_err-rules c =
    let told = err_from_is_err_and c.from_residual-in_err-rules.result c.from_residual-in_err-rules.ensures.1 in
    rw (told.1, told.2) (checks (sym (ap size_of
    (book_count_refused _ _ _ _ (sym c.in_ok-version.ensures.answer) (sym c.in_err-rules.ensures.answer)))))

pub returns-in_err-nodes : goal.returns-in_err-nodes
returns-in_err-nodes c =
    let told = err_from_is_err_and c.from_residual-in_err-nodes.result c.from_residual-in_err-nodes.ensures.1 in
    rw (told.1, told.2) (checks (sym (ap size_of
    (book_rules_refused _ _ _ _ _ _ (head_read (goal.at.returns-in_err-nodes c).In_ok-rules) (sym c.in_err-nodes.ensures)))))

pub returns-then-after-book : goal.returns-then-after-book
returns-then-after-book c =
    checks (sym (ap size_of (book_tail _ _ _ _ _ _ _ (head_read (goal.at.returns-then-after-book c).In_ok-rules) (sym c.in_ok-nodes.ensures) c.if-after-book.true)))

pub returns : goal.returns
returns c =
    checks (sym (book_counts _ _ _ _ _ _ _ (head_read (goal.at.returns c).In_ok-rules) (sym c.in_ok-nodes.ensures) c.if-after-book.false))
