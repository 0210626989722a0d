-- From a Boolean test to what it says, for proofs: conjunction, disjunction, and the tests that the normal form asks.
-- Nothing here is about meaning.
use Rattle.std.specs.Prelude.{ℕ, ◌≡◌, refl, Bool, true, false, not, ◌&&◌, ◌||◌, ◌⊎◌}
use Rattle.std.proofs.Common.{inl, inr, arith}
use Rattle.meaning.specs.Re.{Re, is_nothing, is_empty}
use Rattle.meaning.specs.Re.Re.{Nothing, Empty, Range, Cat, Alt, Star, And, Not}

-- true is not false
pub clash : {b : Bool} → b ≡ true → b ≡ false → ⊥
clash p q = let z : ◌≡◌ {A = ℕ} 0 1 = cc in omega arith

pub and_true : (a b : Bool) → (a && b) ≡ true → (a ≡ true) × (b ≡ true)
and_true true b e = (refl, e)
and_true false b e = absurd (clash e refl)

pub true_and : {a b : Bool} → a ≡ true → b ≡ true → (a && b) ≡ true
true_and p q = rw (p, q)

pub or_true : (a b : Bool) → (a || b) ≡ true → (a ≡ true) ⊎ (b ≡ true)
or_true true b e = inl refl
or_true false b e = inr e

pub true_or : {a : Bool} (b : Bool) → a ≡ true → (a || b) ≡ true
true_or b p = rw p

pub or_of_true : (a : Bool) {b : Bool} → b ≡ true → (a || b) ≡ true
or_of_true true p = refl
or_of_true false p = p

-- turned
pub not-true : (a : Bool) → not a ≡ true → a ≡ true → ⊥
not-true true e p = clash e refl
not-true false e p = clash p refl

pub true_not : (a : Bool) → (a ≡ true → ⊥) → not a ≡ true
true_not true f = absurd (f refl)
true_not false f = refl

pub is_nothing_lem : (r : Re) → is_nothing r ≡ true → r ≡ Nothing
is_nothing_lem Nothing e = refl
is_nothing_lem Empty e = absurd (clash e refl)
is_nothing_lem (Range lo hi) e = absurd (clash e refl)
is_nothing_lem (Cat a b) e = absurd (clash e refl)
is_nothing_lem (Alt a b) e = absurd (clash e refl)
is_nothing_lem (Star a) e = absurd (clash e refl)
is_nothing_lem (And a b) e = absurd (clash e refl)
is_nothing_lem (Not a) e = absurd (clash e refl)

pub is_empty_lem : (r : Re) → is_empty r ≡ true → r ≡ Empty
is_empty_lem Nothing e = absurd (clash e refl)
is_empty_lem Empty e = refl
is_empty_lem (Range lo hi) e = absurd (clash e refl)
is_empty_lem (Cat a b) e = absurd (clash e refl)
is_empty_lem (Alt a b) e = absurd (clash e refl)
is_empty_lem (Star a) e = absurd (clash e refl)
is_empty_lem (And a b) e = absurd (clash e refl)
is_empty_lem (Not a) e = absurd (clash e refl)
