-- The pool: cells 0 up to its top hold terms, no two of them equal, in the order in which walk's Parts adds them.
-- So equal terms have equal numbers, and the top is the number of distinct parts.
use Rattle.std.specs.Prelude.{ℕ, zero, suc, ◌<◌, ◌≡◌, List, [], ◌∷◌, ◌++◌}
use Rattle.meaning.specs.Re.{Re}
use Rattle.term.specs.Cells.{term, Sound}

-- the terms in the cells below top, in order
unfoldable pub terms_of : List ℕ → ℕ → List Re
terms_of s zero = []
terms_of s (suc top) = terms_of s top ++ (term s top ∷ [])

-- cells below top are a pool that holds these terms, each once
pub record Pool (s : List ℕ) (top : ℕ) (terms : List Re) : Type 0 where
  pub sound : Sound s top
  pub holds : terms_of s top ≡ terms
  pub once : (i j : ℕ) → i < j → j < top → term s i ≡ term s j → ⊥

-- cells below top are a pool, of whatever terms stand in it
abbrev pub Pooled : List ℕ → ℕ → Type 0
Pooled s top = Pool s top (terms_of s top)
