-- What compare_book answers and leaves in lent memory, for every input: its promise cites this.
-- Room, then Loaded, then the book's refusals, then the walk's; Same and every refusal but Room leave the text area all 0.
use Rattle.std.specs.Prelude.{ℕ, cond, ◌||◌, List, ltb, length, replicate, Option, Some, None, Result, Ok, Err}
use Rattle.number.specs.declared.Refusal.{Refusal}
use Rattle.number.specs.declared.Refusal.TheVariants.{Room, Loaded}
use Rattle.number.specs.Limits.{shown_text}
use Rattle.number.specs.Refused.{Answer, Outcome}
use Rattle.number.specs.Refused.Answer.{got, refused}
use Rattle.number.specs.Refused.Outcome.{gives, refuses}
use Rattle.book.specs.Book.{Book}
use Rattle.book.specs.Reads.{read_book}
use Rattle.book.specs.Expression.{meant}
use Rattle.table.specs.Table.{Table, lent, well_formed}
use Rattle.table.specs.Calls.{padded}
use Rattle.vector.specs.Layout.{work_length}
use Rattle.verdict.specs.declared.Difference.{Difference}
use Rattle.verdict.specs.Compare.{Verdict, compare_rules}
use Rattle.verdict.specs.Compare.Verdict.{Same as Verdict·same, Differs as Verdict·differs}

-- what is told: the same, or the length of a text and its two labels
pub data Told : Type 0 where
  same : Told
  differs : ℕ → ℕ → ℕ → Told

-- the code's answer as the paper has it
abbrev pub compared : Result (Option Difference) Refusal → Outcome Told
compared (Ok None) = gives same
compared (Ok (Some d)) = gives (differs d.len d.by_book d.by_table)
compared (Err r) = refuses r

-- the comparison of a book with a table
abbrev pub compare_read : Table → Answer Book → Outcome Verdict
compare_read t (got b after) = compare_rules t (meant b)
compare_read t (refused r) = refuses r

abbrev pub compare_book : List ℕ → Table → Outcome Verdict
compare_book file t = compare_read t (read_book file)

-- an answer with what stands in the text area and the work area afterwards
pub record Comparison : Type 0 where
  pub answer : Outcome Told
  pub text : List ℕ
  pub work : List ℕ

-- the shown text, and the rest of the area 0
abbrev pub answered_in : List ℕ → List ℕ → Outcome Verdict → Comparison
answered_in area work (gives Verdict·same) = record { answer = gives same; text = replicate (length area) 0; work = replicate (length work) 0 }
answered_in area work (gives (Verdict·differs text b s)) =
    record { answer = gives (differs (length text) b s); text = padded (length area) text; work = replicate (length work) 0 }
answered_in area work (refuses r) = record { answer = refuses r; text = replicate (length area) 0; work = replicate (length work) 0 }

abbrev pub compare_of : List ℕ → ℕ → List ℕ → List ℕ → List ℕ → List ℕ → Comparison
compare_of file s labels targets area work =
    cond (ltb (length area) shown_text || ltb (length work) work_length)
    (record { answer = refuses Room; text = area; work = work })
    (cond (well_formed s labels targets)
    (answered_in area work (compare_book file (lent s labels targets)))
    (answered_in area work (refuses Loaded)))
