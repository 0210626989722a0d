-- A loaded table: a count of states, one label a state and 256 targets a state, in lent memory for 255 states.
-- Only the first states of the lent memory are the table; what stands past them is not looked at.
use Rattle.std.specs.Prelude.{ℕ, ◌*◌, Bool, true, ◌&&◌, List, [], ◌∷◌, leb, ltb, length, take}
use Rattle.number.specs.Limits.{rules, states, bytes}

pub record Table : Type 0 where
  pub count : ℕ
  pub labels : List ℕ
  pub targets : List ℕ

-- the table that lent memory holds
abbrev pub lent : ℕ → List ℕ → List ℕ → Table
lent s labels targets = record { count = s; labels = take s labels; targets = take (s * bytes) targets }

-- a test that each number of a list passes
unfoldable pub all : (ℕ → Bool) → List ℕ → Bool
all test [] = true
all test (x ∷ xs) = test x && all test xs

-- well formed (refusal 10): s is 1 to 255, memory enough for s, each label at most 32, each target below s
unfoldable pub well_formed : ℕ → List ℕ → List ℕ → Bool
well_formed s labels targets =
    leb 1 s
    && (leb s states
    && (leb s (length labels)
    && (leb (s * bytes) (length targets)
    && (all (λ l. leb l rules) (take s labels)
    && all (λ t. ltb t s) (take (s * bytes) targets)))))
