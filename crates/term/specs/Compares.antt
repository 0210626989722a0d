-- What a look at two nodes tells of the order of their terms, and how two terms are gone through in step.
-- The pairs of places that wait stand in a list, of which the places in one term and those in the other are two; the last listed comes first.
use Prim.Native.Nat.{ℕ, zero, suc, ◌+◌, ◌<◌, ◌≤◌, Ordering}
use Rattle.std.specs.Prelude.{◌≡◌, Bool, true, false, List, get_or, map}
use Rattle.number.specs.Limits.{tree_nodes}
use Rattle.meaning.specs.Re.{size}
use Rattle.meaning.specs.Order.{order, also}
use Rattle.term.specs.declared.Glance.{Glance}
use Rattle.term.specs.declared.Glance.TheVariants.{Told, One, Two}
use Rattle.term.specs.Cells.{term}
use Rattle.term.specs.Nodes.{ordering}
use Rattle.term.specs.Places.{ahead, Listed}

-- whether a comparison found a difference
abbrev pub decides : Ordering → Bool
decides Ordering.lt = true
decides Ordering.eq = false
decides Ordering.gt = true

-- the only children decide
pub record Only (s : List ℕ) (i j a b : ℕ) : Type 0 where
  pub is : order (term s i) (term s j) ≡ order (term s a) (term s b)
  pub left : a < i
  pub right : b < j
  pub smaller : size (term s a) < size (term s i)

-- the first children decide, and where they are equal the second
pub record Both (s : List ℕ) (i j a b c d : ℕ) : Type 0 where
  pub is : order (term s i) (term s j) ≡ also (order (term s a) (term s b)) (order (term s c) (term s d))
  pub left : a < i
  pub right : b < j
  pub second_left : c < i
  pub second_right : d < j
  pub smaller : size (term s i) ≡ 1 + size (term s a) + size (term s c)

abbrev pub Shown : List ℕ → ℕ → ℕ → Glance → Type 0
Shown s i j (Told o) = ordering o ≡ order (term s i) (term s j)
Shown s i j (One a b) = Only s i j a b
Shown s i j (Two a b c d) = Both s i j a b c d

pub record Glanced (s : List ℕ) (i j : ℕ) (r : Glance) : Type 0 where
  pub shown : Shown s i j r

-- the places of the first term in a list of pairs, and those of the second
abbrev pub lefts : List (ℕ × ℕ) → List ℕ
lefts ps = map (λ p. p.0) ps

abbrev pub rights : List (ℕ × ℕ) → List ℕ
rights ps = map (λ p. p.1) ps

-- the order of the pairs in the first n places of two lists, the last first
unfoldable pub orders : List ℕ → List ℕ → List ℕ → ℕ → Ordering
orders s l r zero = Ordering.eq
orders s l r (suc n) = also (order (term s (get_or l n 0)) (term s (get_or r n 0))) (orders s l r n)

-- on the way: the terms at a and b are compared next, and n pairs wait in the lists. A pair is listed when a node of the first term is
-- seen, so that the pairs and its nodes that are still to be seen are together no more than a short term has
pub record Comparing (s : List ℕ) (i j : ℕ) (l r : List ℕ) (n a b : ℕ) : Type 0 where
  pub left_held : a ≤ i
  pub right_held : b ≤ j
  pub left : Listed l n i
  pub right : Listed r n j
  pub few : n + ahead s l n a ≤ tree_nodes
  pub is : order (term s i) (term s j) ≡ also (order (term s a) (term s b)) (orders s l r n)
