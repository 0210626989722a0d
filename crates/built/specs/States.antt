-- The states of a build, told of texts alone: a state is a vector that a text leads to, and states are numbered from 0 in the order of their first texts.
-- No walk stands here. What numbers and limits are, Passing in walk tells for whatever texts lead to.
use Rattle.std.specs.Prelude.{ℕ, ◌<◌, ◌≡◌, List}
use Rattle.number.specs.Limits.{states}
use Rattle.number.specs.Numbers.{Bytes}
use Rattle.meaning.specs.Re.{Re, Text}
use Rattle.meaning.specs.Words.{reach}
use Rattle.table.specs.Table.{Table}
use Rattle.cutting.specs.Steps.{step_in}
use Rattle.walk.specs.Passing.{vector_after, Firsts, Holding}

-- a build holds the vectors that texts lead to, the empty text too; row 8, States, is for one more than there may be
abbrev pub held_states : List Re → Holding (List Re)
held_states rs = record { rules = rs; goal = vector_after rs; from = 0; most = states; full = 8 }

-- a table has just these states: each of its states has a first text, which leads there by the table, and so does every text to its vector's state
pub record HasStates (rs : List Re) (t : Table) : Type 0 where
  pub text : ℕ → Text
  pub firsts : Firsts (vector_after rs) text t.count
  pub leads : (n : ℕ) → n < t.count → reach (step_in t) 0 (text n) ≡ n
  pub every : (w : Text) → Bytes w
      → (reach (step_in t) 0 w < t.count) × (vector_after rs w ≡ vector_after rs (text (reach (step_in t) 0 w)))
