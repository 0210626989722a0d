-- What build answers and leaves in lent memory, for every input: its promise cites this.
-- Room first, with nothing changed; then the book's refusals, then the walk's; the work area is all 0 afterwards.
use Rattle.std.specs.Prelude.{ℕ, cond, ◌||◌, List, ltb, length, replicate}
use Rattle.number.specs.declared.Refusal.TheVariants.{Room}
use Rattle.number.specs.Refused.{Answer, Outcome}
use Rattle.number.specs.Refused.Answer.{got, refused}
use Rattle.number.specs.Refused.Outcome.{gives, refuses}
use Rattle.book.specs.Book.{Book}
use Rattle.book.specs.Reads.{read_book}
use Rattle.book.specs.Expression.{meant}
use Rattle.table.specs.Table.{Table}
use Rattle.table.specs.Calls.{Filled, cramped, filled_with, cleared, untouched}
use Rattle.vector.specs.Layout.{work_length}
use Rattle.built.specs.Build.{build_rules}

-- the table of a book, or why there is none
abbrev pub build_read : Answer Book → Outcome Table
build_read (got b after) = build_rules (meant b)
build_read (refused r) = refuses r

abbrev pub build_book : List ℕ → Outcome Table
build_book file = build_read (read_book file)

abbrev pub filled_by : List ℕ → List ℕ → Outcome Table → Filled
filled_by labels targets (gives t) = filled_with labels targets t
filled_by labels targets (refuses r) = cleared labels targets r

-- the table area, and the work area
pub record Building : Type 0 where
  pub table : Filled
  pub work : List ℕ

abbrev pub build_of : List ℕ → List ℕ → List ℕ → List ℕ → Building
build_of file labels targets work =
    cond (cramped labels targets || ltb (length work) work_length)
    (record { table = untouched labels targets Room; work = work })
    (record { table = filled_by labels targets (build_book file); work = replicate (length work) 0 })
