-- What a term in normal form looks like, and its members; also the merge of two terms with sorted members, for the code that builds terms node by node.
-- ShapeLaws and FormLaws prove that exactly the normal forms have this shape, and that merging two terms in this shape is alt, or both.
use Prim.Native.Nat.{Ordering}
use Rattle.std.specs.Prelude.{◌≡◌, Bool, true, false}
use mathlib.Core.List.{List, [], ◌∷◌, head_d}
use Rattle.meaning.specs.Re.{Re, is_nothing, is_empty}
use Rattle.meaning.specs.Re.Re.{Nothing, Empty, Range, Cat, Alt, Star, And, Not}
use Rattle.meaning.specs.Order.{order}
use Rattle.meaning.specs.Normal.{joined, joins, gathered, nested, Before}
use Rattle.meaning.specs.declared.Join.{Join}
use Rattle.meaning.specs.declared.Join.TheVariants.{Then, Or, Both}

abbrev pub is_star : Re → Bool
is_star Nothing = false
is_star Empty = false
is_star (Range lo hi) = false
is_star (Cat a b) = false
is_star (Alt a b) = false
is_star (Star a) = true
is_star (And a b) = false
is_star (Not a) = false

abbrev pub is_not : Re → Bool
is_not Nothing = false
is_not Empty = false
is_not (Range lo hi) = false
is_not (Cat a b) = false
is_not (Alt a b) = false
is_not (Star a) = false
is_not (And a b) = false
is_not (Not a) = true

-- the first of a chain is no chain itself, and neither side is Nothing or Empty
pub record Chained (a b : Re) : Type 0 where
  pub no_chain : joins Then a ≡ false
  pub left_some : is_nothing a ≡ false
  pub left_long : is_empty a ≡ false
  pub right_some : is_nothing b ≡ false
  pub right_long : is_empty b ≡ false

-- the operators whose members are sorted
abbrev pub Sorts : Join → Type 0
Sorts Then = ⊥
Sorts Or = Unit
Sorts Both = Unit

-- a member and the others: it is not joined so itself, neither side is Nothing, and it stands before the others
pub record Ordered (j : Join) (a b : Re) : Type 0 where
  pub single : joins j a ≡ false
  pub left_some : is_nothing a ≡ false
  pub right_some : is_nothing b ≡ false
  pub before : Before a (gathered j b)

-- what is repeated is not Nothing, Empty or a Star
pub record Repeated (a : Re) : Type 0 where
  pub some : is_nothing a ≡ false
  pub long : is_empty a ≡ false
  pub no_star : is_star a ≡ false

abbrev pub InShape : Re → Type 0
InShape Nothing = Unit
InShape Empty = Unit
InShape (Range lo hi) = Unit
InShape (Cat a b) = InShape a × InShape b × Chained a b
InShape (Alt a b) = InShape a × InShape b × Ordered Or a b
InShape (Star a) = InShape a × Repeated a
InShape (And a b) = InShape a × InShape b × Ordered Both a b
InShape (Not a) = InShape a × (is_not a ≡ false)

-- x is a member of a term: neither joined so itself nor Nothing, it stands in it behind nodes of that operator alone
pub data MemberOf (j : Join) (x : Re) : Re → Type 0 where
  itself : joins j x ≡ false → is_nothing x ≡ false → MemberOf j x x
  from_left : {a : Re} (b : Re) → MemberOf j x a → MemberOf j x (joined j a b)
  from_right : (a : Re) {b : Re} → MemberOf j x b → MemberOf j x (joined j a b)

-- the first member
abbrev pub head_of : Join → Re → Re
head_of j r = head_d (gathered j r) Nothing

-- two sorted lists of members, merged; of equal members one is kept
unfoldable pub merge : List Re → List Re → List Re
merge [] ys = ys
merge (x ∷ xs) [] = x ∷ xs
merge (x ∷ xs) (y ∷ ys) = elim (order x y) [ Ordering.lt ↦ x ∷ merge xs (y ∷ ys) | Ordering.eq ↦ y ∷ merge xs ys | Ordering.gt ↦ y ∷ merge (x ∷ xs) ys ]

-- of Nothing and another term: as a choice the other one, else Nothing
abbrev pub beside : {A : Type 0} → Join → A → A → A
beside Then nothing other = nothing
beside Or nothing other = other
beside Both nothing other = nothing

-- two terms with such members, merged
unfoldable pub united : Join → Re → Re → Re
united j a b = nested j (merge (gathered j a) (gathered j b))
