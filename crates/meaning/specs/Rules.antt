-- Rules in a row: which of them a text is named by, as the textbook says it, and the label that derivatives work out.
-- RulesMean proves that the label after a text is the one that names it.
use Rattle.std.specs.Prelude.{ℕ, zero, suc, ◌<◌, cond, List, [], ◌∷◌, map, length, get_or}
use Rattle.meaning.specs.Re.{Re, Text}
use Rattle.meaning.specs.Re.Re.{Nothing}
use Rattle.meaning.specs.Means.{Matches}
use Rattle.meaning.specs.Normal.{normal}
use Rattle.meaning.specs.Derive.{nullable, deriv}

-- rule k of a row; past its end a rule that matches no text
abbrev pub rule : List Re → ℕ → Re
rule rs k = get_or rs k Nothing

-- l names w: 1 plus the first rule that matches it, or 0 where none does
abbrev pub Names : List Re → Text → ℕ → Type 0
Names rs w zero = (k : ℕ) → k < length rs → Matches (rule rs k) w → ⊥
Names rs w (suc i) = (i < length rs) × Matches (rule rs i) w × ((k : ℕ) → k < i → Matches (rule rs k) w → ⊥)

-- a vector is one term for each rule; its label is 1 plus the first rule whose term matches the empty text, or 0
unfoldable pub label_from : ℕ → List Re → ℕ
label_from i [] = 0
label_from i (r ∷ rs) = cond (nullable r) (suc i) (label_from (suc i) rs)

abbrev pub label : List Re → ℕ
label rs = label_from 0 rs

-- all terms of a vector after a byte, and the vector after a text
abbrev pub derive_all : ℕ → List Re → List Re
derive_all c rs = map (deriv c) rs

abbrev pub derive_by : List Re → Text → List Re
derive_by rs [] = rs
derive_by rs (c ∷ w) = derive_by (derive_all c rs) w

-- the rules in normal form: the vector of state 0
abbrev pub start : List Re → List Re
start rs = map normal rs

-- the label that derivatives work out for a text
abbrev pub label_after : List Re → Text → ℕ
label_after rs w = label (derive_by (start rs) w)
