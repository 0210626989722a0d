-- The order of terms: Nothing, Empty, Range, Cat, Alt, Star, And, Not; within a kind, parts from left to right, lo before hi.
-- That it is a total order whose "equal" is equality is proved in OrderLaws.
use Prim.Native.Nat.{ℕ, compare, Ordering}
use Rattle.std.specs.Prelude.{List, [], ◌∷◌, map}
use Rattle.meaning.specs.Re.{Re, bounds, parts, upward}
use Rattle.meaning.specs.Re.Re.{Nothing, Empty, Range, Cat, Alt, Star, And, Not}

-- the place of its kind in the order
abbrev pub rank : Re → ℕ
rank Nothing = 0
rank Empty = 1
rank (Range lo hi) = 2
rank (Cat a b) = 3
rank (Alt a b) = 4
rank (Star a) = 5
rank (And a b) = 6
rank (Not a) = 7

-- the first comparison decides, and where it finds no difference, the second
abbrev pub also : Ordering → Ordering → Ordering
also Ordering.lt o = Ordering.lt
also Ordering.eq o = o
also Ordering.gt o = Ordering.gt

-- two lists from left to right, of the first what compares each of its items: the first difference decides; a list that ends before the other is less
abbrev pub in_turn : {A : Type 0} → List (A → Ordering) → List A → Ordering
in_turn [] [] = Ordering.eq
in_turn [] (y ∷ ys) = Ordering.lt
in_turn (c ∷ cs) [] = Ordering.gt
in_turn (c ∷ cs) (y ∷ ys) = also (c y) (in_turn cs ys)

-- x and y by their kinds, then by their bounds, then by their parts; cs are what compares with the parts of x, one by one
abbrev pub decided : Re → List (Re → Ordering) → Re → Ordering
decided x cs y = also (compare (rank x) (rank y)) (also (in_turn (map compare (bounds x)) (bounds y)) (in_turn cs (parts y)))

unfoldable pub order : Re → Re → Ordering
unfolding upward
order = upward decided

-- a comparison the other way round
abbrev pub turned : Ordering → Ordering
turned Ordering.lt = Ordering.gt
turned Ordering.eq = Ordering.eq
turned Ordering.gt = Ordering.lt
