-- The walk for a first word in lent memory: where a walk stays, its dead state, its runs, and its answer as code gives it.
-- What a cut makes of the words, whatever finds them, is specs/Turns.antt's.
use Rattle.std.specs.Prelude.{ℕ, ◌+◌, ◌*◌, ◌<◌, ◌≤◌, ◌≡◌, List, length, get_or, Option, Some, None}
use Rattle.number.specs.Limits.{bytes}
use Rattle.meaning.specs.Re.{Text}
use Rattle.meaning.specs.Words.{Found}
use Rattle.meaning.specs.Words.Found.{Stuck as Found·stuck, Word as Found·word}
use Rattle.cutting.specs.declared.Run.{Run}
use Rattle.cutting.specs.Dead.{dead_of}

-- lent memory in which a walk stays: room for the states, a first state, and targets that are states
pub record Walkable (count : ℕ) (labels targets : List ℕ) : Type 0 where
  pub some : 0 < count
  pub labelled : count ≤ length labels
  pub filled : count * bytes ≤ length targets
  pub target : (i : ℕ) → i < count * bytes → get_or targets i 0 < count

-- and its dead state at hand
pub record Ready (count : ℕ) (labels targets : List ℕ) (dead : ℕ) : Type 0 where
  pub walkable : Walkable count labels targets
  pub found : dead ≡ dead_of count labels targets

-- the state that the byte at a place leads to
abbrev pub led : List ℕ → Text → ℕ → ℕ → ℕ
led targets text state i = get_or targets (state * bytes + get_or text i 0) 0

-- a run: the bytes from a place on that stay in a state, and what the first other one leads to; dead where there is none
pub record Ran (targets : List ℕ) (text : Text) (state from dead : ℕ) (r : Run) : Type 0 where
  pub onward : from ≤ r.end
  pub within : r.end ≤ length text
  pub stays : (i : ℕ) → from ≤ i → i < r.end → led targets text state i ≡ state
  pub leaves : r.end < length text → (r.then ≡ led targets text state r.end) × (led targets text state r.end ≡ state → ⊥)
  pub over : r.end ≡ length text → r.then ≡ dead

-- what the walk found: a word's length and its rule
abbrev pub next : Option (ℕ × ℕ) → Found
next (Some (n, r)) = Found·word n r
next None = Found·stuck
