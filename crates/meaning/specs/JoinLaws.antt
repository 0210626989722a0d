-- What an operator joins, by kind once: which terms they are, an induction by members, and what gathering and nesting do to one term more.
-- A kind more or an operator more is a line more here, and none in what is proved by these.
use Rattle.std.specs.Prelude.{◌+◌, ◌≡◌, refl, cond, false, List, [], ◌∷◌, ◌++◌, flat_map}
use Rattle.std.proofs.Common.{arith, ap, ◌∙◌, append-nil}
use Rattle.meaning.specs.Re.{Re, parts, size, sizes, is_nothing}
use Rattle.meaning.specs.Re.Re.{Nothing, Empty, Range, Cat, Alt, Star, And, Not}
use Rattle.meaning.specs.PartLaws.{All, by_parts, upward_parts, size_parts}
use Rattle.meaning.specs.declared.Join.{Join}
use Rattle.meaning.specs.declared.Join.TheVariants.{Then, Or, Both}
use Rattle.meaning.specs.Tests.{clash}
use Rattle.meaning.specs.Normal.{joined, joins, chain, gathered, nested}

-- a term is joined so, or it is not
pub data View (j : Join) : Re → Type 0 where
  alone : {r : Re} → joins j r ≡ false → View j r
  both : (a b : Re) → View j (joined j a b)

cat_view : (j : Join) (a b : Re) → View j (Cat a b)
cat_view Then a b = both a b
cat_view Or a b = alone refl
cat_view Both a b = alone refl

alt_view : (j : Join) (a b : Re) → View j (Alt a b)
alt_view Then a b = alone refl
alt_view Or a b = both a b
alt_view Both a b = alone refl

and_view : (j : Join) (a b : Re) → View j (And a b)
and_view Then a b = alone refl
and_view Or a b = alone refl
and_view Both a b = both a b

pub view : (j : Join) (r : Re) → View j r
view j Nothing = alone refl
view j Empty = alone refl
view j (Range lo hi) = alone refl
view j (Cat a b) = cat_view j a b
view j (Alt a b) = alt_view j a b
view j (Star a) = alone refl
view j (And a b) = and_view j a b
view j (Not a) = alone refl

-- what is joined has these parts, and is not Nothing
parts_joined : (j : Join) (a b : Re) → parts (joined j a b) ≡ a ∷ b ∷ []
parts_joined Then a b = refl
parts_joined Or a b = refl
parts_joined Both a b = refl

pub joined_some : (j : Join) (a b : Re) → is_nothing (joined j a b) ≡ false
joined_some Then a b = refl
joined_some Or a b = refl
joined_some Both a b = refl

pub joined_size : (j : Join) (a b : Re) → size (joined j a b) ≡ 1 + size a + size b
unfolding sizes
joined_size j a b = rw (size_parts (joined j a b), parts_joined j a b) (omega arith)

-- what holds of each term that is not joined so, and of two joined where it holds of both, holds of every term
pub by_members : (j : Join) (P : Re → Type 0) → ((r : Re) → joins j r ≡ false → P r) → ((a b : Re) → P a → P b → P (joined j a b))
    → (r : Re) → P r
by_members j P f g = by_parts P (λ r. go (view j r))
  where
    go : {r : Re} → View j r → All P (parts r) → P r
    go (alone {r} e) h = f r e
    go (both a b) h = let p = rw (parts_joined j a b) at h in g a b p.0 p.1.0

-- gathering
pub gathered_joined : (j : Join) (a b : Re) → gathered j (joined j a b) ≡ gathered j a ++ gathered j b
unfolding gathered
gathered_joined Then a b = ap (λ (xs : List Re). gathered Then a ++ xs) (append-nil (gathered Then b))
gathered_joined Or a b = ap (λ (xs : List Re). gathered Or a ++ xs) (append-nil (gathered Or b))
gathered_joined Both a b = ap (λ (xs : List Re). gathered Both a ++ xs) (append-nil (gathered Both b))

pub gathered_alone : (j : Join) (r : Re) → joins j r ≡ false → gathered j r ≡ r ∷ []
unfolding gathered
gathered_alone j r e = upward_parts (λ (x : Re) (ms : List (List Re)). cond (joins j x) (flat_map (λ (m : List Re). m) ms) (x ∷ [])) r ∙ rw e

pub gathered_more : (j : Join) (x xs : Re) → joins j x ≡ false → gathered j (joined j x xs) ≡ x ∷ gathered j xs
gathered_more j x xs e = rw (gathered_joined j x xs, gathered_alone j x e)

-- a list with something in it: what is gathered is one
abbrev pub Full : List Re → Type 0
Full [] = ⊥
Full (x ∷ xs) = Unit

pub full_append : (xs ys : List Re) → Full xs → Full (xs ++ ys)
full_append [] ys f = absurd f
full_append (x ∷ xs) ys f = tt

pub gathered_full : (j : Join) (r : Re) → Full (gathered j r)
gathered_full j =
    by_members j (λ r. Full (gathered j r)) (λ r e. rw (gathered_alone j r e) tt)
    (λ a b f g. rw (gathered_joined j a b) (full_append (gathered j a) (gathered j b) f))

-- nesting
pub nested_more : (j : Join) (x : Re) (ys : List Re) → Full ys → nested j (x ∷ ys) ≡ joined j x (nested j ys)
unfolding nested
nested_more j x [] f = absurd f
nested_more j x (y ∷ ys) f = refl

-- a chain of one that is no chain itself
pub chain_one : (a b : Re) → joins Then a ≡ false → chain a b ≡ Cat a b
unfolding chain
chain_one Nothing b e = refl
chain_one Empty b e = refl
chain_one (Range lo hi) b e = refl
chain_one (Cat x y) b e = absurd (clash refl e)
chain_one (Alt x y) b e = refl
chain_one (Star x) b e = refl
chain_one (And x y) b e = refl
chain_one (Not x) b e = refl
