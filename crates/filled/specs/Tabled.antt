-- What the code that fills a table area asks and leaves: all rows, the labels, and a whole table.
-- A table stands at the front of the area; what a refused walk has left there is not told.
use Rattle.std.specs.Prelude.{ℕ, ◌*◌, ◌<◌, ◌≤◌, ◌≡◌, List, map, length, take, Result, Ok, Err}
use Rattle.number.specs.declared.Refusal.{Refusal}
use Rattle.number.specs.Limits.{bytes, states}
use Rattle.number.specs.Refused.{Outcome}
use Rattle.number.specs.Refused.Outcome.{gives, refuses}
use Rattle.meaning.specs.Rules.{label}
use Rattle.table.specs.Table.{Table}
use Rattle.walk.specs.Walk.{Item, Walked, rows}
use Rattle.walk.specs.Walk.Walked.{halted}
use Rattle.vector.specs.Layout.{work_length}
use Rattle.vector.specs.Memory.{numbers_at, held_of}
use Rattle.vector.specs.Promises.{Reads}
use Rattle.steps.specs.declared.Extent.{Extent}
use Rattle.built.specs.Build.{alone}
use Rattle.row.specs.Fill.{Laid}

-- ---- rows

-- all rows
abbrev pub RowsComes : List ℕ → ℕ → ℕ → Walked → List ℕ → List ℕ → Result Extent Refusal → Type 0
RowsComes s n before w t t' (Ok held) = Laid s n before held.top held.count w t 0 t' (held.count * bytes)
RowsComes s n before w t t' (Err r) = w ≡ halted r

pub record RowsFilled (s : List ℕ) (n top count : ℕ) (t s' t' : List ℕ) (r : Result Extent Refusal) : Type 0 where
  pub comes : RowsComes s' n count (rows alone states 0 (held_of s n top count)) t t' r

-- ---- labels

-- the items can be read, and the labels have room for one each
pub record Labelled (s : List ℕ) (n count : ℕ) (l : List ℕ) : Type 0 where
  pub long : work_length ≤ length s
  pub few : count ≤ states
  pub reads : (k : ℕ) → k < count → Reads s n (numbers_at s k)
  pub room : states ≤ length l

abbrev pub labels_of : List Item → List ℕ
labels_of items = map (λ x. label x.vector) items

-- ---- tables

-- the table area has a table's labels and targets at its front
pub record Fronted (o : Outcome Table) (l t : List ℕ) (m : ℕ) : Type 0 where
  pub table : Table
  pub built : o ≡ gives table
  pub many : table.count ≡ m
  pub few : m ≤ states
  pub labels : take m l ≡ table.labels
  pub targets : take (m * bytes) t ≡ table.targets

abbrev pub TableComes : Outcome Table → List ℕ → List ℕ → Result ℕ Refusal → Type 0
TableComes o l t (Ok m) = Fronted o l t m
TableComes o l t (Err r) = o ≡ refuses r

-- the answer is the outcome's
pub record Tabled (o : Outcome Table) (l t : List ℕ) (r : Result ℕ Refusal) : Type 0 where
  pub comes : TableComes o l t r
