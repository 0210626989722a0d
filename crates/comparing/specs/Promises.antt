-- What the code of comparing asks and tells, from a book's rules to the public call: one record a contract, fields by name.
-- What is answered stands in Calls of verdict; the public call tells a refusal by the paper's number and place too (`row_of`).
use Rattle.std.specs.Prelude.{ℕ, ◌*◌, ◌≤◌, ◌≡◌, cond, List, length, Option, Result}
use Rattle.number.specs.declared.Refusal.{Refusal}
use Rattle.number.specs.declared.Refusal.TheVariants.{Loaded}
use Rattle.number.specs.Limits.{bytes, work_cells}
use Rattle.number.specs.Refused.{Outcome, row_of}
use Rattle.number.specs.Refused.Outcome.{refuses}
use Rattle.table.specs.Table.{Table, lent, well_formed}
use Rattle.vector.specs.Layout.{work_length}
use Rattle.start.specs.Start.{rules_in, Opened}
use Rattle.verdict.specs.declared.Difference.{Difference}
use Rattle.verdict.specs.Compare.{Verdict, compare_rules}
use Rattle.pairs.specs.Promises.{Closed}
use Rattle.shown.specs.Promises.{Blank, Answers}
use Rattle.verdict.specs.Calls.{compared, compare_book, compare_of}

-- a book that is read, and a table's labels and targets, are to be compared
pub record Comparable (file : List ℕ) (n : ℕ) (labels targets area s : List ℕ) : Type 0 where
  pub opened : Opened file n
  pub long : work_length ≤ length s
  pub small : length s ≤ work_cells
  pub closed : Closed targets
  pub some : 1 ≤ length labels
  pub rows : length targets ≡ length labels * bytes
  pub blank : Blank area

pub record Rules (file labels targets area area' : List ℕ) (r : Result (Option Difference) Refusal) : Type 0 where
  pub rules : (t : Table) → t.labels ≡ labels → t.targets ≡ targets → Answers (compare_rules t (rules_in file)) area area' r

-- past Room: Loaded, then what comparing comes to
abbrev pub loaded_of : List ℕ → ℕ → List ℕ → List ℕ → Outcome Verdict
loaded_of file count labels targets =
    cond (well_formed count labels targets) (compare_book file (lent count labels targets)) (refuses Loaded)

-- compare_book: its answer, and both lent memories as they were and are
pub record Compares (file : List ℕ) (count : ℕ) (labels targets area work area' work' : List ℕ) (r : Result (Option Difference) Refusal) : Type 0 where
  pub answer : compared r ≡ (compare_of file count labels targets area work).answer
  pub row : row_of (compared r) ≡ row_of (compare_of file count labels targets area work).answer
  pub text : area' ≡ (compare_of file count labels targets area work).text
  pub work_after : work' ≡ (compare_of file count labels targets area work).work
