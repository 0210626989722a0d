-- What the code that shows a difference asks and tells: one record a contract, fields by name.
-- The search is given a table's labels, cut to the table's states.
use Rattle.std.specs.Prelude.{ℕ, ◌+◌, ◌<◌, ◌≤◌, ◌≡◌, List, [], length, get_or, drop, replicate, Option, Some, None, Result, Ok}
use Rattle.number.specs.declared.Refusal.{Refusal}
use Rattle.number.specs.Limits.{bytes, shown_text}
use Rattle.number.specs.Refused.{Outcome}
use Rattle.number.specs.Refused.Outcome.{gives}
use Rattle.table.specs.Table.{Table}
use Rattle.vector.specs.Layout.{items, sheets_at, parents_at, bytes_at, work_length}
use Rattle.vector.specs.Memory.{numbers_at, text_of, items_of}
use Rattle.vector.specs.Promises.{Reads}
use Rattle.verdict.specs.declared.Difference.{Difference}
use Rattle.shown.specs.declared.Seen.{Seen}
use Rattle.verdict.specs.Compare.{state_of, Verdict, first_differing}
use Rattle.verdict.specs.Compare.Verdict.{Same, Differs}
use Rattle.verdict.specs.Calls.{compared, answered_in}

-- ---- the items that were found

-- the labels of the first items can be told, by the book and by the table
pub record Legible (s : List ℕ) (n count : ℕ) (labels : List ℕ) : Type 0 where
  pub long : work_length ≤ length s
  pub few : count ≤ items
  pub reads : (k : ℕ) → k < count → Reads s n (numbers_at s k)
  pub sheets : (k : ℕ) → k < count → state_of (get_or s (sheets_at + k) 0) < length labels

-- the first item whose labels differ, with both labels, or none
abbrev pub Sees : List ℕ → ℕ → ℕ → List ℕ → Option Seen → Type 0
Sees s n count labels None = (t : Table) → t.labels ≡ labels → first_differing t (drop 1 (items_of s n count)) ≡ Same
Sees s n count labels (Some x) =
    (x.item < count) × ((t : Table) → t.labels ≡ labels → first_differing t (drop 1 (items_of s n count)) ≡ Differs (text_of s x.item) x.by_book x.by_table)

-- the texts of the first items can be read back
pub record Traced (s : List ℕ) (count : ℕ) : Type 0 where
  pub long : work_length ≤ length s
  pub few : count ≤ items
  pub parents : (k : ℕ) → 0 < k → k < count → get_or s (parents_at + k) 0 < k
  pub text_bytes : (k : ℕ) → k < count → get_or s (bytes_at + k) 0 < bytes

-- ---- answers

-- a text area that is all 0 and has room for every text
pub record Blank (area : List ℕ) : Type 0 where
  pub clear : area ≡ replicate (length area) 0
  pub room : shown_text ≤ length area

-- an answer, and the text area afterwards, are what Calls has
pub record Answers (o : Outcome Verdict) (area area' : List ℕ) (r : Result (Option Difference) Refusal) : Type 0 where
  pub answer : compared r ≡ (answered_in area [] o).answer
  pub text : area' ≡ (answered_in area [] o).text

-- by the items alone, for any table with these labels
pub record Shows (s : List ℕ) (n count : ℕ) (labels area area' : List ℕ) (r : Option Difference) : Type 0 where
  pub shows : (t : Table) → t.labels ≡ labels → Answers (gives (first_differing t (drop 1 (items_of s n count)))) area area' (Ok r)
