-- Laws for the functions that read a term off its nodes, one for each of their returns: size, order.
-- Each says what the term's answer is by the answers of its children, over what reading the node told.
use Prim.Native.Nat.{Ordering}
use Prim.Native.Nat.{ℕ, ◌+◌, ◌<◌, ◌≤◌, compare}
use Rattle.std.proofs.Common.{arith, sym, ap, ◌∙◌}
use Rattle.std.specs.Prelude.{◌≡◌, refl, List, [], ◌∷◌, map, take}
use Rattle.meaning.specs.Re.{Re, parts, size, sizes}
use Rattle.meaning.specs.PartLaws.{All, size_parts}
use Rattle.meaning.specs.Order.{order, also, rank}
use Rattle.meaning.specs.OrderLaws.{also_eq, order_no_parts, order_one_part, order_two_parts, order_self}
use Rattle.term.specs.declared.Term.{Term}
use Rattle.term.specs.declared.Term.TheVariants.{Nothing, Empty, Range, Cat, Alt, Star, And, Not}
use Rattle.term.specs.Cells.{kind_size, rebuilt, grow, term, Below}
use Rattle.term.specs.Nodes.{kind_of, first_of, second_of, arity_of, children_of, Found, OnePart, TwoParts}

-- ---- a node, whatever its kind: one more adds a line to each of these

pub kind_most : (u : Term) → kind_of u < kind_size
kind_most Nothing = omega arith
kind_most Empty = omega arith
kind_most (Range lo hi) = omega arith
kind_most (Cat a b) = omega arith
kind_most (Alt a b) = omega arith
kind_most (Star a) = omega arith
kind_most (And a b) = omega arith
kind_most (Not a) = omega arith

pub rank_grow : (u : Term) (f : ℕ → Re) → rank (grow u f) ≡ kind_of u
rank_grow Nothing f = refl
rank_grow Empty f = refl
rank_grow (Range lo hi) f = refl
rank_grow (Cat a b) f = refl
rank_grow (Alt a b) f = refl
rank_grow (Star a) f = refl
rank_grow (And a b) f = refl
rank_grow (Not a) f = refl

-- a node is the one of its kind over its fields
pub rebuild : (u : Term) → u ≡ rebuilt (kind_of u) (first_of u) (second_of u)
rebuild Nothing = refl
rebuild Empty = refl
rebuild (Range lo hi) = refl
rebuild (Cat a b) = refl
rebuild (Alt a b) = refl
rebuild (Star a) = refl
rebuild (And a b) = refl
rebuild (Not a) = refl

pub of_kind : (u : Term) (k : ℕ) → kind_of u ≡ k → u ≡ rebuilt k (first_of u) (second_of u)
of_kind u k e = rw (← e) (rebuild u)

-- how many children it has, which its kind tells
arity_most : (u : Term) → arity_of u ≤ 2
arity_most Nothing = omega arith
arity_most Empty = omega arith
arity_most (Range lo hi) = omega arith
arity_most (Cat a b) = omega arith
arity_most (Alt a b) = omega arith
arity_most (Star a) = omega arith
arity_most (And a b) = omega arith
arity_most (Not a) = omega arith

pub arity_kind : (u : Term) → arity_of u ≡ arity_of (rebuilt (kind_of u) 0 0)
arity_kind Nothing = refl
arity_kind Empty = refl
arity_kind (Range lo hi) = refl
arity_kind (Cat a b) = refl
arity_kind (Alt a b) = refl
arity_kind (Star a) = refl
arity_kind (And a b) = refl
arity_kind (Not a) = refl

-- the terms of its children are the parts of its term
pub parts_grow : (u : Term) (f : ℕ → Re) → parts (grow u f) ≡ map f (children_of u)
parts_grow Nothing f = refl
parts_grow Empty f = refl
parts_grow (Range lo hi) f = refl
parts_grow (Cat a b) f = refl
parts_grow (Alt a b) f = refl
parts_grow (Star a) f = refl
parts_grow (And a b) f = refl
parts_grow (Not a) f = refl

-- where it may stand, they stand below
pub below_children : (u : Term) (i : ℕ) → Below u i → All (λ j. j < i) (children_of u)
below_children Nothing i b = tt
below_children Empty i b = tt
below_children (Range lo hi) i b = tt
below_children (Cat l r) i b = (b.0, (b.1, tt))
below_children (Alt l r) i b = (b.0, (b.1, tt))
below_children (Star l) i b = (b, tt)
below_children (And l r) i b = (b.0, (b.1, tt))
below_children (Not l) i b = (b, tt)

-- x and y in place of its children, and of a leaf the fields themselves
abbrev InPlace : Term → ℕ → ℕ → Type 0
InPlace u x y = arity_of u ≡ 0 → (x ≡ first_of u) × (y ≡ second_of u)

-- the same node over these: its term where their terms are those of the children, and where it may stand
pub grow_rebuilt : (u : Term) (x y : ℕ) (f g : ℕ → Re) → InPlace u x y → map g (take (arity_of u) (x ∷ y ∷ [])) ≡ map f (children_of u)
    → grow (rebuilt (kind_of u) x y) g ≡ grow u f
grow_rebuilt Nothing x y f g p e = refl
grow_rebuilt Empty x y f g p e = refl
grow_rebuilt (Range lo hi) x y f g p e = let q = p refl in cc (q.0, q.1)
grow_rebuilt (Cat a b) x y f g p e = cc
grow_rebuilt (Alt a b) x y f g p e = cc
grow_rebuilt (Star a) x y f g p e = cc
grow_rebuilt (And a b) x y f g p e = cc
grow_rebuilt (Not a) x y f g p e = cc

pub below_rebuilt : (u : Term) (x y i j : ℕ) → InPlace u x y → Below u i → All (λ k. k < j) (take (arity_of u) (x ∷ y ∷ []))
    → Below (rebuilt (kind_of u) x y) j
below_rebuilt Nothing x y i j p b h = tt
below_rebuilt Empty x y i j p b h = tt
below_rebuilt (Range lo hi) x y i j p b h = let q = p refl in rw (q.0, q.1) b
below_rebuilt (Cat l r) x y i j p b h = (h.0, h.1.0)
below_rebuilt (Alt l r) x y i j p b h = (h.0, h.1.0)
below_rebuilt (Star l) x y i j p b h = h.0
below_rebuilt (And l r) x y i j p b h = (h.0, h.1.0)
below_rebuilt (Not l) x y i j p b h = h.0

-- so it is the same term wherever its children are, and may stand wherever they are below
own : (u : Term) → InPlace u (first_of u) (second_of u)
own u e = (refl, refl)

children_agree : (i : ℕ) (f g : ℕ → Re) (js : List ℕ) → All (λ j. j < i) js → ((j : ℕ) → j < i → f j ≡ g j) → map f js ≡ map g js
children_agree i f g [] b h = refl
children_agree i f g (j ∷ js) b h = cc (h j b.0, children_agree i f g js b.1 h)

pub grow_agree : (u : Term) (i : ℕ) (f g : ℕ → Re) → Below u i → ((j : ℕ) → j < i → f j ≡ g j) → grow u f ≡ grow u g
grow_agree u i f g b h =
    rw (← rebuild u) at (grow_rebuilt u (first_of u) (second_of u) g f (own u) (children_agree i f g (children_of u) (below_children u i b) h))

pub below_again : (u : Term) (i j : ℕ) → Below u i → All (λ k. k < j) (children_of u) → Below u j
below_again u i j b h = rw (← rebuild u) at (below_rebuilt u (first_of u) (second_of u) i j (own u) b h)

-- ---- what a node tells of its term, by the number of its children

pub arity_same : (u v : Term) → kind_of u ≡ kind_of v → arity_of v ≡ arity_of u
arity_same u v e = rw (arity_kind u, arity_kind v, e)

pub arity_two : (u : Term) → (arity_of u ≡ 0 → ⊥) → (arity_of u ≡ 1 → ⊥) → arity_of u ≡ 2
arity_two u h k = omega (arith, arity_most u)

module _ {s : List ℕ} {i : ℕ} {u : Term} (f : Found s i u) where
  found_parts : parts (term s i) ≡ map (term s) (children_of u)
  found_parts = ap parts f.is ∙ parts_grow u (term s)

  found_below : All (λ j. j < i) (children_of u)
  found_below = below_children u i f.below

  pub no_parts : arity_of u ≡ 0 → parts (term s i) ≡ []
  no_parts e = rw e at found_parts

  pub leaf_below : arity_of u ≡ 0 → (j : ℕ) → Below u j
  leaf_below e j = below_again u i j f.below (rw e tt)

  pub one_part : arity_of u ≡ 1 → {a : ℕ} → a ≡ first_of u → OnePart s i a
  one_part e p = let b = rw e at found_below in record { is = rw (← p, e) at found_parts; below = rw p b.0 }

  pub two_parts : arity_of u ≡ 2 → {a b : ℕ} → a ≡ first_of u → b ≡ second_of u → TwoParts s i a b
  two_parts e p q =
      let b = rw e at found_below in
      record { is = rw (← p, ← q, e) at found_parts; first = rw p b.0; second = rw q b.1.0 }

-- a node that was told apart
found_as : {s : List ℕ} {i : ℕ} {u : Term} (v : Term) → Found s i u → u ≡ v → Found s i v
found_as v f e = rw e at f

-- ---- size

pub leaf_size : (r : Re) → parts r ≡ [] → size r ≡ 1
unfolding sizes
leaf_size r e = rw e at (size_parts r)

module _ {s : List ℕ} {i a : ℕ} where
  pub one_size : OnePart s i a → size (term s i) ≡ 1 + size (term s a)
  unfolding sizes
  one_size p = omega (arith, rw (p.is, sizes) at (size_parts (term s i)))

  pub two_size : {b : ℕ} → TwoParts s i a b → size (term s i) ≡ 1 + size (term s a) + size (term s b)
  unfolding sizes
  two_size p = omega (arith, rw (p.is, sizes) at (size_parts (term s i)))

-- a node whose kind was told is the one of that kind over its fields
pub found_kind : {s : List ℕ} {i : ℕ} {u : Term} {k x y : ℕ} → Found s i u → kind_of u ≡ k → x ≡ first_of u → y ≡ second_of u → Found s i (rebuilt k x y)
found_kind {s} {i} {u} {k} {x} {y} f e p q = found_as (rebuilt k x y) f (rw (p, q) (of_kind u k e))

-- ---- order

-- leaves of one kind by their fields, which are 0 where they have no bounds
order_leaves : (u v : Term) (f : ℕ → Re) (a b a' b' : ℕ) → kind_of u ≡ kind_of v → arity_of u ≡ 0
    → a ≡ first_of u → b ≡ second_of u → a' ≡ first_of v → b' ≡ second_of v
    → order (grow u f) (grow v f) ≡ also (compare a a') (compare b b')
order_leaves Nothing v f a b a' b' e h p q p' q' = let d : v ≡ Nothing = of_kind v 0 (sym e) in rw (p, q, p', q', d) (order_self Re.Nothing)
order_leaves Empty v f a b a' b' e h p q p' q' = let d : v ≡ Empty = of_kind v 1 (sym e) in rw (p, q, p', q', d) (order_self Re.Empty)
order_leaves (Range lo hi) v f a b a' b' e h p q p' q' =
    let d : v ≡ Range a' b' = rw (p', q') (of_kind v 2 (sym e)) in
    rw (p, q, d) (order_no_parts (Re.Range lo hi) (Re.Range a' b') refl refl refl ∙ rw (also_eq (compare hi b')))
order_leaves (Cat l r) v f a b a' b' e h p q p' q' = absurd (omega arith)
order_leaves (Alt l r) v f a b a' b' e h p q p' q' = absurd (omega arith)
order_leaves (Star l) v f a b a' b' e h p q p' q' = absurd (omega arith)
order_leaves (And l r) v f a b a' b' e h p q p' q' = absurd (omega arith)
order_leaves (Not l) v f a b a' b' e h p q p' q' = absurd (omega arith)

-- a term by itself
pub order_one : (s : List ℕ) (i j : ℕ) → i ≡ j → order (term s i) (term s j) ≡ Ordering.eq
order_one s i j e = rw e (order_self (term s j))

-- what two nodes tell: of two kinds, and of one kind by the number of their children
module _ {s : List ℕ} {i j : ℕ} {u v : Term} (x : Found s i u) (y : Found s j v) where
  pub ranks : compare (rank (term s i)) (rank (term s j)) ≡ compare (kind_of u) (kind_of v)
  ranks = rw (x.is, y.is, rank_grow u (term s), rank_grow v (term s))

  module _ (e : kind_of u ≡ kind_of v) where
    same_rank : rank (term s i) ≡ rank (term s j)
    same_rank = rw (x.is, y.is, rank_grow u (term s), rank_grow v (term s)) e

    -- the fields come as the code has them, each with what it is
    pub order_leaf : arity_of u ≡ 0 → {a b a' b' : ℕ} → a ≡ first_of u → b ≡ second_of u → a' ≡ first_of v → b' ≡ second_of v
        → order (term s i) (term s j) ≡ also (compare a a') (compare b b')
    order_leaf h {a} {b} {a'} {b'} p q p' q' = rw (x.is, y.is) (order_leaves u v (term s) a b a' b' e h p q p' q')

    pub order_only : {a b : ℕ} → OnePart s i a → OnePart s j b → order (term s i) (term s j) ≡ order (term s a) (term s b)
    order_only p q = order_one_part (term s i) (term s j) same_rank p.is q.is

    pub order_both : {a b c d : ℕ} → TwoParts s i a c → TwoParts s j b d
        → order (term s i) (term s j) ≡ also (order (term s a) (term s b)) (order (term s c) (term s d))
    order_both p q = order_two_parts (term s i) (term s j) same_rank p.is q.is
