-- The first word of a text: its longest non-empty prefix that has a label, under that label (source documents 000, 1.6.3, and 003).
-- As a relation, for anything that says what label a text has; and as a walk that keeps the last labelled place.
use Rattle.std.specs.Prelude.{ℕ, zero, suc, ◌<◌, ◌≤◌, List, [], ◌∷◌, length, take}
use Rattle.meaning.specs.Re.{Re, Text}
use Rattle.meaning.specs.Rules.{label, derive_all, start, Names}

-- a word's length and rule, or that there is none
pub data Found : Type 0 where
  Stuck : Found
  Word : ℕ → ℕ → Found

-- N w l says that l is the label of w: 1 plus a rule, or 0
module _ (N : Text → ℕ → Type 0) (text : Text) where
  -- no prefix with more than n bytes has a label
  abbrev pub NoneLonger : ℕ → Type 0
  NoneLonger n = (m : ℕ) → n < m → m ≤ length text → N (take m text) 0

  -- stuck: no non-empty prefix has a label; a word: it has one, it is not empty, and none longer has
  abbrev pub First : Found → Type 0
  First Stuck = NoneLonger 0
  First (Word len r) = (0 < len) × (len ≤ length text) × N (take len text) (suc r) × NoneLonger len

-- by the textbook, for a row of rules
abbrev pub FirstWord : List Re → Text → Found → Type 0
FirstWord rs text found = First (Names rs) text found

-- the last labelled place: the one reached after n bytes if it has a label, else the best so far
abbrev pub better : ℕ → ℕ → Found → Found
better n zero best = best
better n (suc r) best = Word n r

-- where a walk by any kind of state leads
module _ {S : Type 0} (go : S → ℕ → S) where
  abbrev pub reach : S → Text → S
  reach s [] = s
  reach s (c ∷ w) = reach (go s c) w

-- the walk over a text, n bytes on the way, with the best word so far; a state's mark is the label of what was read
module _ {S : Type 0} (go : S → ℕ → S) (mark : S → ℕ) where
  unfoldable pub scan : S → Text → ℕ → Found → Found
  scan s [] n best = best
  scan s (c ∷ w) n best = scan (go s c) w (suc n) (better (suc n) (mark (go s c)) best)

-- the first word of a text by derivatives
abbrev pub first_word : List Re → Text → Found
first_word rs text = scan (λ v c. derive_all c v) label (start rs) text 0 Stuck
