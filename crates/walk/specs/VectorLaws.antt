-- Vectors: where a derived or normalised vector is no refusal, it is the unlimited one; the tests of sameness say equality.
-- The limited and the unlimited forms of a term are meaning's LimitedLaws.
use Prim.Native.Nat.{ℕ, Ordering}
use Rattle.std.specs.Prelude.{◌≡◌, refl, true, List, [], ◌∷◌, map}
use Rattle.std.proofs.Common.{ap, arith}
use Rattle.std.proofs.Math.Dec.{compare_is_eq}
use Rattle.meaning.specs.Re.{Re}
use Rattle.meaning.specs.Order.{order}
use Rattle.meaning.specs.OrderLaws.{order_self, order_equal}
use Rattle.meaning.specs.Normal.{normal}
use Rattle.meaning.specs.Derive.{deriv}
use Rattle.meaning.specs.Limited.{Fit, deriv_fit, normal_fit}
use Rattle.meaning.specs.Limited.Fit.{Long, Fits}
use Rattle.meaning.proofs.LimitedLaws.{deriv_short, normal_short}
use Rattle.meaning.specs.Tests.{clash, and_true, true_and}
use Rattle.walk.specs.Vectors.{Vector, front, derived, normalised, same_term, same_vector}
use Rattle.walk.specs.Vectors.Vector.{TooLong, Terms}

-- a vector that is no refusal is this row
abbrev pub Is : Vector → List Re → Type 0
Is TooLong rs = Unit
Is (Terms v) rs = v ≡ rs

pub no_terms : {v : List Re} → TooLong ≡ Terms v → ⊥
no_terms e = let z : ◌≡◌ {A = ℕ} 0 1 = cc in omega arith

front_is : (f : Fit) (v : Vector) (r : Re) (rs : List Re) → ((x : Re) → f ≡ Fits x → x ≡ r) → Is v rs → Is (front f v) (r ∷ rs)
front_is Long v r rs p q = tt
front_is (Fits x) TooLong r rs p q = tt
front_is (Fits x) (Terms xs) r rs p q = let e = p x refl in cc

pub derived_is : (c : ℕ) (v : List Re) → Is (derived c v) (map (deriv c) v)
unfolding derived
derived_is c [] = refl
derived_is c (r ∷ rs) = front_is (deriv_fit c r) (derived c rs) (deriv c r) (map (deriv c) rs) (deriv_short c r) (derived_is c rs)

pub normalised_is : (v : List Re) → Is (normalised v) (map normal v)
unfolding normalised
normalised_is [] = refl
normalised_is (r ∷ rs) = front_is (normal_fit r) (normalised rs) (normal r) (map normal rs) (normal_short r) (normalised_is rs)

-- sameness is equality
eq_only : (o : Ordering) → compare_is_eq o ≡ true → o ≡ Ordering.eq
eq_only Ordering.lt e = absurd (clash e refl)
eq_only Ordering.eq e = refl
eq_only Ordering.gt e = absurd (clash e refl)

pub term_same : (x y : Re) → same_term x y ≡ true → x ≡ y
term_same x y e = order_equal x y (eq_only (order x y) e)

pub term_self : (x : Re) → same_term x x ≡ true
term_self x = ap compare_is_eq (order_self x)

pub vector_same : (v w : List Re) → same_vector v w ≡ true → v ≡ w
unfolding same_vector
vector_same [] [] e = refl
vector_same [] (y ∷ ys) e = absurd (clash e refl)
vector_same (x ∷ xs) [] e = absurd (clash e refl)
vector_same (x ∷ xs) (y ∷ ys) e =
    let b = and_true (same_term x y) (same_vector xs ys) e in
    let p = term_same x y b.0 in
    let q = vector_same xs ys b.1 in
    cc

pub vector_self : (v : List Re) → same_vector v v ≡ true
unfolding same_vector
vector_self [] = refl
vector_self (x ∷ xs) = true_and (term_self x) (vector_self xs)
