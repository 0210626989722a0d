-- What the readers of a sheet promise: what each adds to lent memory, and that it answers as its definition of table's Sheet.
-- One record a promise, so that a proof reads its parts by name; load itself promises what table's Promises say.
use Rattle.std.specs.Prelude.{ℕ, ◌*◌, ◌≡◌, Result, List}
use Rattle.number.specs.declared.Refusal.{Refusal}
use Rattle.number.specs.Limits.{bytes}
use Rattle.number.specs.Refused.{Answer}
use Rattle.number.specs.Refused.Answer.{got, refused}
use Rattle.number.specs.Numbers.{taken}
use Rattle.number.specs.Reading.{map_answer}
use Rattle.number.specs.Lists.{written}
use Rattle.table.specs.Table.{Table}
use Rattle.table.specs.Sheet.{Rows}

-- a reader that lays what it got into memory at a place; what a refused one has left there is not told
abbrev pub Laid : Answer (List ℕ) → List ℕ → ℕ → List ℕ → Type 0
Laid (got row next) before at after = after ≡ written before at row
Laid (refused r) before at after = Unit {0}

-- the reader of a row's runs answers s, which it was given, and the place after them
pub record LaysRow (x : Answer (List ℕ)) (s : ℕ) (t : List ℕ) (cell : ℕ) (t' : List ℕ) (r : Result (ℕ × ℕ) Refusal) : Type 0 where
  pub answer : taken r ≡ map_answer (λ (row : List ℕ). s) x
  pub cells : Laid x t cell t'

-- the same for the states from i on: one label and 256 targets each
abbrev pub LaidRows : Answer Rows → ℕ → List ℕ → List ℕ → List ℕ → List ℕ → Type 0
LaidRows (got rows next) i l t l' t' = (l' ≡ written l i rows.labels) × (t' ≡ written t (i * bytes) rows.targets)
LaidRows (refused r) i l t l' t' = Unit {0}

pub record LaysRows (x : Answer Rows) (s i : ℕ) (l t l' t' : List ℕ) (r : Result (ℕ × ℕ) Refusal) : Type 0 where
  pub answer : taken r ≡ map_answer (λ (rows : Rows). s) x
  pub cells : LaidRows x i l t l' t'

-- and for a whole sheet, which answers its count of states
abbrev pub LaidTable : Answer Table → List ℕ → List ℕ → List ℕ → List ℕ → Type 0
LaidTable (got table next) l t l' t' = (l' ≡ written l 0 table.labels) × (t' ≡ written t 0 table.targets)
LaidTable (refused r) l t l' t' = Unit {0}

pub record LaysTable (x : Answer Table) (l t l' t' : List ℕ) (r : Result (ℕ × ℕ) Refusal) : Type 0 where
  pub answer : taken r ≡ map_answer (λ (table : Table). table.count) x
  pub cells : LaidTable x l t l' t'
