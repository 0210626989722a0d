-- What the code that fills a row of the targets asks and leaves.
-- A row that is refused on the way leaves its refusal; what it has written by then is not told.
use Rattle.std.specs.Prelude.{ℕ, ◌+◌, ◌*◌, ◌≤◌, ◌≡◌, List, length, Result, Ok, Err}
use Rattle.number.specs.declared.Refusal.{Refusal}
use Rattle.number.specs.Limits.{bytes, states, table_cells, pool}
use Rattle.number.specs.Lists.{written}
use Rattle.walk.specs.Walk.{Walked, row}
use Rattle.walk.specs.Walk.Walked.{halted, walked}
use Rattle.vector.specs.Memory.{held_of, Kept}
use Rattle.steps.specs.declared.Extent.{Extent}
use Rattle.built.specs.Build.{alone}

-- rows can be filled: what is held is in order, and the targets have room for every row
pub record Fillable (s : List ℕ) (n top count : ℕ) (t : List ℕ) : Type 0 where
  pub kept : Kept s n top count
  pub low : top ≤ pool
  pub few : count ≤ states
  pub room : table_cells ≤ length t

-- a walk came to numbers, which stand in the targets from one cell up to another, and what it holds then is what the work area holds
pub record Laid (s : List ℕ) (n before top count : ℕ) (w : Walked) (t : List ℕ) (at : ℕ) (t' : List ℕ) (end : ℕ) : Type 0 where
  pub numbers : List ℕ
  pub walks : w ≡ walked (held_of s n top count) numbers
  pub laid : t' ≡ written t at numbers
  pub ends : at + length numbers ≡ end
  pub kept : Kept s n top count
  pub low : top ≤ pool
  pub few : count ≤ states
  pub up : before ≤ count

-- the row of item i; what a refused one has left in the targets is not told
abbrev pub RowComes : List ℕ → ℕ → ℕ → Walked → List ℕ → ℕ → List ℕ → Result Extent Refusal → Type 0
RowComes s n before w t i t' (Ok held) = Laid s n before held.top held.count w t (i * bytes) t' (i * bytes + bytes)
RowComes s n before w t i t' (Err r) = w ≡ halted r

pub record RowFilled (s : List ℕ) (n top count i : ℕ) (t s' t' : List ℕ) (r : Result Extent Refusal) : Type 0 where
  pub comes : RowComes s' n count (row alone i bytes 0 (held_of s n top count)) t i t' r
