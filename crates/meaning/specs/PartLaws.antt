-- What goes by the parts of an expression, whatever its kind: an induction, what is worked out upward, and the size.
-- A kind more is a line more here, and none in what is proved by these.
use Rattle.std.specs.Prelude.{◌+◌, ◌≤◌, ◌≡◌, refl, List, [], ◌∷◌, map}
use Rattle.std.proofs.Common.{arith}
use Rattle.meaning.specs.Re.{Re, parts, upward, size, sizes}
use Rattle.meaning.specs.Re.Re.{Nothing, Empty, Range, Cat, Alt, Star, And, Not}

-- P holds of all of them
abbrev pub All : {A : Type 0} → (A → Type 0) → List A → Type 0
All P [] = Unit
All P (x ∷ xs) = P x × All P xs

pub all : {A : Type 0} (P : A → Type 0) → ((x : A) → P x) → (xs : List A) → All P xs
all P f [] = tt
all P f (x ∷ xs) = (f x, all P f xs)

-- what holds of an expression where it holds of its parts, holds of every one
pub by_parts : (P : Re → Type 0) → ((r : Re) → All P (parts r) → P r) → (r : Re) → P r
by_parts P f Nothing = f Nothing tt
by_parts P f Empty = f Empty tt
by_parts P f (Range lo hi) = f (Range lo hi) tt
by_parts P f (Cat a b) = f (Cat a b) (by_parts P f a, (by_parts P f b, tt))
by_parts P f (Alt a b) = f (Alt a b) (by_parts P f a, (by_parts P f b, tt))
by_parts P f (Star a) = f (Star a) (by_parts P f a, tt)
by_parts P f (And a b) = f (And a b) (by_parts P f a, (by_parts P f b, tt))
by_parts P f (Not a) = f (Not a) (by_parts P f a, tt)

pub upward_parts : {A : Type 0} (f : Re → List A → A) (r : Re) → upward f r ≡ f r (map (upward f) (parts r))
unfolding upward
upward_parts f Nothing = refl
upward_parts f Empty = refl
upward_parts f (Range lo hi) = refl
upward_parts f (Cat a b) = refl
upward_parts f (Alt a b) = refl
upward_parts f (Star a) = refl
upward_parts f (And a b) = refl
upward_parts f (Not a) = refl

pub size_parts : (r : Re) → size r ≡ 1 + sizes (parts r)
unfolding size sizes
size_parts Nothing = refl
size_parts Empty = refl
size_parts (Range lo hi) = refl
size_parts (Cat a b) = omega arith
size_parts (Alt a b) = omega arith
size_parts (Star a) = omega arith
size_parts (And a b) = omega arith
size_parts (Not a) = omega arith

pub size_some : (r : Re) → 1 ≤ size r
size_some r = omega (arith, size_parts r)
