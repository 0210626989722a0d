-- Normal form, as documents 01 and 02 (K6) word it: cat, alt, star, both and negated join terms in normal form, normal builds a term upward.
-- NormalMeans proves that none of them changes what is matched.
use Rattle.std.specs.Prelude.{◌≡◌, Bool, true, false, cond, ◌||◌}
use mathlib.Core.List.{List, [], ◌∷◌, ◌++◌, flat_map}
use Prim.Native.Nat.{Ordering}
use Rattle.meaning.specs.Re.{Re, upward, is_nothing, is_empty}
use Rattle.meaning.specs.Re.Re.{Nothing, Empty, Range, Cat, Alt, Star, And, Not}
use Rattle.meaning.specs.Order.{order}
use Rattle.meaning.specs.declared.Join.{Join}
use Rattle.meaning.specs.declared.Join.TheVariants.{Then, Or, Both}

-- two terms joined: one after the other, as a choice, or both at once
abbrev pub joined : Join → Re → Re → Re
joined Then a b = Cat a b
joined Or a b = Alt a b
joined Both a b = And a b

-- whether a term is joined so: a Cat is one after the other, an Alt as a choice, an And both at once
abbrev pub joins : Join → Re → Bool
joins j Nothing = false
joins j Empty = false
joins j (Range lo hi) = false
joins j (Cat a b) = elim j [ Then ↦ true | Or ↦ false | Both ↦ false ]
joins j (Alt a b) = elim j [ Then ↦ false | Or ↦ true | Both ↦ false ]
joins j (Star a) = false
joins j (And a b) = elim j [ Then ↦ false | Or ↦ false | Both ↦ true ]
joins j (Not a) = false

-- Cat(Cat(x,y),z) is Cat(x,Cat(y,z))
unfoldable pub chain : Re → Re → Re
chain Nothing z = Cat Nothing z
chain Empty z = Cat Empty z
chain (Range lo hi) z = Cat (Range lo hi) z
chain (Cat x y) z = Cat x (chain y z)
chain (Alt x y) z = Cat (Alt x y) z
chain (Star x) z = Cat (Star x) z
chain (And x y) z = Cat (And x y) z
chain (Not x) z = Cat (Not x) z

-- Nothing on either side gives Nothing; Empty on a side gives the other side
unfoldable pub cat : Re → Re → Re
cat a b =
    cond (is_nothing a || is_nothing b) Nothing
    (cond (is_empty a) b
    (cond (is_empty b) a
    (chain a b)))

-- the members of a term that is joined so are those of its parts, of anything else itself
unfoldable pub gathered : Join → Re → List Re
unfolding upward flat_map
gathered j = upward (λ r ms. cond (joins j r) (flat_map (λ m. m) ms) (r ∷ []))

-- a choice: Nothing dropped
unfoldable pub kept : List Re → List Re
kept [] = []
kept (x ∷ xs) = cond (is_nothing x) (kept xs) (x ∷ kept xs)

-- both at once: Nothing among them spoils all
unfoldable pub spoilt : List Re → Bool
spoilt [] = false
spoilt (x ∷ xs) = is_nothing x || spoilt xs

-- a member put in its place, or not at all where an equal one stands there
unfoldable pub placed : Re → List Re → List Re
placed x [] = x ∷ []
placed x (y ∷ ys) = elim (order x y) [ Ordering.lt ↦ x ∷ y ∷ ys | Ordering.eq ↦ y ∷ ys | Ordering.gt ↦ y ∷ placed x ys ]

-- sorted, equal members kept once
unfoldable pub sorted : List Re → List Re
sorted [] = []
sorted (x ∷ xs) = placed x (sorted xs)

-- nested to the right; none gives Nothing, one gives itself
unfoldable pub nested : Join → List Re → Re
nested j [] = Nothing
nested j (x ∷ []) = x
nested j (x ∷ y ∷ ys) = joined j x (nested j (y ∷ ys))

unfoldable pub alt : Re → Re → Re
alt a b = nested Or (sorted (kept (gathered Or a ++ gathered Or b)))

-- And: gathered, sorted and kept once like Alt; Nothing if a member is Nothing
unfoldable pub both : Re → Re → Re
both a b = cond (spoilt (gathered Both a ++ gathered Both b)) Nothing (nested Both (sorted (gathered Both a ++ gathered Both b)))

-- two terms in normal form joined so, in normal form
abbrev pub formed : Join → Re → Re → Re
formed Then a b = cat a b
formed Or a b = alt a b
formed Both a b = both a b

-- Star of Nothing or Empty is Empty; Star of a Star is that Star
unfoldable pub star : Re → Re
star Nothing = Empty
star Empty = Empty
star (Range lo hi) = Star (Range lo hi)
star (Cat a b) = Star (Cat a b)
star (Alt a b) = Star (Alt a b)
star (Star a) = Star a
star (And a b) = Star (And a b)
star (Not a) = Star (Not a)

-- Not of Not is the inner term
unfoldable pub negated : Re → Re
negated Nothing = Not Nothing
negated Empty = Not Empty
negated (Range lo hi) = Not (Range lo hi)
negated (Cat a b) = Not (Cat a b)
negated (Alt a b) = Not (Alt a b)
negated (Star a) = Not (Star a)
negated (And a b) = Not (And a b)
negated (Not a) = a

-- the normal form, built upward
unfoldable pub normal : Re → Re
normal Nothing = Nothing
normal Empty = Empty
normal (Range lo hi) = Range lo hi
normal (Cat a b) = cat (normal a) (normal b)
normal (Alt a b) = alt (normal a) (normal b)
normal (Star a) = star (normal a)
normal (And a b) = both (normal a) (normal b)
normal (Not a) = negated (normal a)

-- x stands before the first of a list, if there is one
abbrev pub Before : Re → List Re → Type 0
Before x [] = Unit
Before x (y ∷ ys) = order x y ≡ Ordering.lt
