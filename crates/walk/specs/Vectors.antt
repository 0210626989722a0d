-- Vectors of terms, one for each rule: derived place by place, and compared place by place.
-- One term that is Long makes the whole vector Long.
use Rattle.std.specs.Prelude.{ℕ, Bool, true, false, ◌&&◌, List, [], ◌∷◌}
use Rattle.std.proofs.Math.Dec.{compare_is_eq}
use Rattle.meaning.specs.Re.{Re}
use Rattle.meaning.specs.Order.{order}
use Rattle.meaning.specs.Limited.{Fit, deriv_fit, normal_fit}
use Rattle.meaning.specs.Limited.Fit.{Long, Fits}

-- a vector, or that one of its terms was too long
pub data Vector : Type 0 where
  TooLong : Vector
  Terms : List Re → Vector

-- one term more in front
abbrev pub front : Fit → Vector → Vector
front Long v = TooLong
front (Fits r) TooLong = TooLong
front (Fits r) (Terms rs) = Terms (r ∷ rs)

-- every term after byte c
unfoldable pub derived : ℕ → List Re → Vector
derived c [] = Terms []
derived c (r ∷ rs) = front (deriv_fit c r) (derived c rs)

-- every rule in normal form
unfoldable pub normalised : List Re → Vector
normalised [] = Terms []
normalised (r ∷ rs) = front (normal_fit r) (normalised rs)

-- equal terms, and vectors that are equal at every place
abbrev pub same_term : Re → Re → Bool
same_term x y = compare_is_eq (order x y)

unfoldable pub same_vector : List Re → List Re → Bool
same_vector [] [] = true
same_vector [] (y ∷ ys) = false
same_vector (x ∷ xs) [] = false
same_vector (x ∷ xs) (y ∷ ys) = same_term x y && same_vector xs ys
