-- The order of terms as document 01 tells it: the kinds in their row, and within a kind the parts from left to right.
-- With that it is a total order (OrderLaws) this leaves no other order.
use Prim.Native.Nat.{ℕ, ◌<◌, compare, Ordering}
use Rattle.std.specs.Prelude.{◌≡◌, refl, ◌↔◌, ◌⊎◌}
use Rattle.std.proofs.Common.{inl, inr, arith}
use Rattle.meaning.specs.Re.{Re}
use Rattle.meaning.specs.Re.Re.{Nothing, Empty, Range, Cat, Alt, Star, And, Not}
use Rattle.meaning.specs.Order.{also, order}
use Rattle.meaning.specs.OrderLaws.{compared, compare_is, compare_lt, compare_eq, also_eq, order_no_parts, order_one_part, order_two_parts, order_self, order_equal}
use Rattle.meaning.specs.OrderLaws.Compared.{less, equal}

-- below: the first comparison says so, or it finds no difference and the second says so
also_less : (o p : Ordering) → (also o p ≡ Ordering.lt) ↔ ((o ≡ Ordering.lt) ⊎ ((o ≡ Ordering.eq) × (p ≡ Ordering.lt)))
also_less Ordering.lt p = (λ e. inl refl, λ s. refl)
also_less Ordering.eq p = (λ e. inr (refl, e), elim [ inl d ↦ absurd (let z : ◌≡◌ {A = ℕ} 0 1 = cc in omega arith) | inr s ↦ s.1 ])
also_less Ordering.gt p = (
  λ e. absurd (let z : ◌≡◌ {A = ℕ} 0 1 = cc in omega arith),
  elim [
    | inl d ↦ d
    | inr s ↦ absurd (let d = s.0 in let z : ◌≡◌ {A = ℕ} 0 1 = cc in omega arith)
  ],
)

-- the kinds, whatever their parts
pub nothing_empty : order Nothing Empty ≡ Ordering.lt
unfolding order
nothing_empty = refl

pub empty_range : (lo hi : ℕ) → order Empty (Range lo hi) ≡ Ordering.lt
unfolding order
empty_range lo hi = refl

pub range_cat : (lo hi : ℕ) (a b : Re) → order (Range lo hi) (Cat a b) ≡ Ordering.lt
unfolding order
range_cat lo hi a b = refl

pub cat_alt : (a b c d : Re) → order (Cat a b) (Alt c d) ≡ Ordering.lt
unfolding order
cat_alt a b c d = refl

pub alt_star : (a b c : Re) → order (Alt a b) (Star c) ≡ Ordering.lt
unfolding order
alt_star a b c = refl

pub star_and : (a b c : Re) → order (Star a) (And b c) ≡ Ordering.lt
unfolding order
star_and a b c = refl

pub and_not : (a b c : Re) → order (And a b) (Not c) ≡ Ordering.lt
unfolding order
and_not a b c = refl

-- the parts
pub ranges_below : (lo hi lo' hi' : ℕ) → (order (Range lo hi) (Range lo' hi') ≡ Ordering.lt) ↔ ((lo < lo') ⊎ ((lo ≡ lo') × (hi < hi')))
ranges_below lo hi lo' hi' =
    rw (order_no_parts (Range lo hi) (Range lo' hi') refl refl refl, also_eq (compare hi hi'))
    let f = also_less (compare lo lo') (compare hi hi') in (
      λ e. elim (f.0 e) [
        | inl d ↦ inl (compare_lt (compared lo lo') d)
        | inr s ↦ inr (compare_eq (compared lo lo') s.0, compare_lt (compared hi hi') s.1)
      ],
      elim [
        | inl h ↦ f.1 (inl (compare_is (compared lo lo') (less h)))
        | inr s ↦ f.1 (inr (compare_is (compared lo lo') (equal s.0), compare_is (compared hi hi') (less s.1)))
      ],
    )

-- of two parts: the first is below, or it is the same and the second is below
abbrev PairBelow : Re → Re → Re → Re → Type 0
PairBelow a b c d = (order a c ≡ Ordering.lt) ⊎ ((a ≡ c) × (order b d ≡ Ordering.lt))

parts_below : (a b c d : Re) → (also (order a c) (order b d) ≡ Ordering.lt) ↔ PairBelow a b c d
parts_below a b c d =
    let f = also_less (order a c) (order b d) in (
      λ e. elim (f.0 e) [ inl h ↦ inl h | inr s ↦ inr (order_equal a c s.0, s.1) ],
      elim [ inl h ↦ f.1 (inl h) | inr s ↦ f.1 (inr (rw s.0 (order_self c), s.1)) ],
    )

pub cats_below : (a b c d : Re) → (order (Cat a b) (Cat c d) ≡ Ordering.lt) ↔ PairBelow a b c d
cats_below a b c d = rw (order_two_parts (Cat a b) (Cat c d) refl refl refl) (parts_below a b c d)

pub alts_below : (a b c d : Re) → (order (Alt a b) (Alt c d) ≡ Ordering.lt) ↔ PairBelow a b c d
alts_below a b c d = rw (order_two_parts (Alt a b) (Alt c d) refl refl refl) (parts_below a b c d)

pub stars_below : (a b : Re) → (order (Star a) (Star b) ≡ Ordering.lt) ↔ (order a b ≡ Ordering.lt)
stars_below a b = rw (order_one_part (Star a) (Star b) refl refl refl) (λ e. e, λ e. e)

pub ands_below : (a b c d : Re) → (order (And a b) (And c d) ≡ Ordering.lt) ↔ PairBelow a b c d
ands_below a b c d = rw (order_two_parts (And a b) (And c d) refl refl refl) (parts_below a b c d)

pub nots_below : (a b : Re) → (order (Not a) (Not b) ≡ Ordering.lt) ↔ (order a b ≡ Ordering.lt)
nots_below a b = rw (order_one_part (Not a) (Not b) refl refl refl) (λ e. e, λ e. e)
