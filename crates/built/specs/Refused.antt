-- Builds that are refused, and builds that just fit: small rules with small limits, each with the row of the refusals that it comes to.
-- The checker computes each line: Long before States, States before Pool, and the state being left for a place.
use Rattle.std.specs.Prelude.{ℕ, zero, suc, ◌+◌, ◌≡◌, refl, List, [], ◌∷◌, map}
use Rattle.number.specs.Limits.{states, pool}
use Rattle.number.specs.Refused.{Row, row_of}
use Rattle.number.specs.Refused.Row.{no_row, row}
use Rattle.meaning.specs.Re.{Re, size}
use Rattle.meaning.specs.Re.Re.{Range, Cat, Star}
use Rattle.meaning.specs.Order.{order}
use Rattle.meaning.specs.Normal.{chain, cat, gathered, kept, placed, sorted, nested, alt, star, normal}
use Rattle.meaning.specs.Derive.{nullable, deriv}
use Rattle.meaning.specs.Limited.{deriv_fit, normal_fit}
use Rattle.meaning.specs.Rules.{label_from}
use Rattle.walk.specs.Vectors.{derived, normalised, same_vector}
use Rattle.walk.specs.Parts.{holds, with_term, with_parts, with_vector}
use Rattle.walk.specs.Walk.{number_in, come, step, row as walk_row, rows, walk_from}
use Rattle.built.specs.Build.{build_rules_to}

abbrev a : Re
a = Range 97 97

abbrev b : Re
b = Range 98 98

-- the bytes from 100 + n down to 100: n + 1 of them, and 2n + 1 nodes
unfoldable pub falling : ℕ → Re
falling zero = Range 100 100
falling (suc n) = Cat (Range (101 + n) (101 + n)) (falling n)

-- `ab`: 4 states, the start, the dead one, after `a` and after `ab`; 5 terms, `ab`, its two parts, Nothing and, from state 2 on, Empty
abbrev ab : List Re
ab = Cat a b ∷ []

-- after `b` repetitions of `a` with 50 bytes, and 50 bytes more: after `ba` a term of more than 255 nodes is due
abbrev growing : List Re
growing = Cat b (Cat (Star (Cat a (falling 49))) (falling 49)) ∷ []

-- so many states and terms are allowed to the build of these rules, and it comes to this
pub record Line : Type 0 where
  pub most : ℕ
  pub terms : ℕ
  pub rules : List Re
  pub comes : Row

abbrev pub refused_lines : List Line
refused_lines =
    record { most = states; terms = pool; rules = ab; comes = no_row } ∷
    record { most = 4; terms = 5; rules = ab; comes = no_row } ∷
    record { most = 3; terms = 5; rules = ab; comes = row 8 2 } ∷
    record { most = 2; terms = 5; rules = ab; comes = row 8 0 } ∷
    record { most = 4; terms = 4; rules = ab; comes = row 7 2 } ∷
    record { most = 4; terms = 3; rules = ab; comes = row 7 0 } ∷
    record { most = 4; terms = 2; rules = ab; comes = row 7 0 } ∷
    record { most = 3; terms = 4; rules = ab; comes = row 8 2 } ∷
    record { most = 3; terms = pool; rules = growing; comes = row 6 2 } ∷
    record { most = states; terms = pool; rules = falling 128 ∷ []; comes = row 6 0 } ∷
    record { most = 1; terms = pool; rules = falling 127 ∷ []; comes = row 8 0 } ∷
    []

pub refused_lines_lem : map (λ (x : Line). row_of (build_rules_to x.most x.terms x.rules)) refused_lines ≡ map (λ (x : Line). x.comes) refused_lines
unfolding falling walk_from rows walk_row step come number_in with_vector with_parts with_term holds same_vector derived normalised label_from deriv_fit normal_fit deriv nullable normal star alt nested sorted placed kept gathered cat chain order size
refused_lines_lem = refl
