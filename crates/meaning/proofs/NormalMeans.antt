-- Normal form keeps meaning: cat, alt, star, both and negated match what Cat, Alt, Star, And and Not match, and so normal matches what the term matches.
-- Each law is a law of languages (LangLaws), put to use at the branch that the definition takes.
use Prim.Native.Nat.{Ordering}
use Rattle.std.specs.Prelude.{◌≡◌, true, ◌||◌, ◌⊎◌}
use Rattle.std.proofs.Math.Path.{refl}
use mathlib.Core.List.{List, [], ◌∷◌, ◌++◌}
use Rattle.std.proofs.Common.{inl, inr}
use Rattle.meaning.specs.Re.{Re, is_nothing, is_empty}
use Rattle.meaning.specs.Re.Re.{Nothing, Empty, Range, Cat, Alt, Star, And, Not}
use Rattle.meaning.specs.Lang.{Lang, Same, Then, Many}
use Rattle.meaning.specs.LangLaws.{same_refl, same_sym, same_trans, then_same, many_same, none_then, then_none, empty_then, then_only, then_assoc, many_empty, many_none, many_many, None, either_same, both_same, not_same}
use Rattle.meaning.specs.Means.{Matches}
use Rattle.meaning.specs.Order.{order}
use Rattle.meaning.specs.OrderLaws.{order_equal}
use Rattle.meaning.specs.declared.Join.{Join}
use Rattle.meaning.specs.declared.Join.TheVariants.{Then as Join-as-Then, Or, Both}
use Rattle.meaning.specs.JoinLaws.{by_members, gathered_alone, gathered_joined, Full, full_append, gathered_full, chain_one}
use Rattle.meaning.specs.Normal.{joined, chain, cat, gathered, kept, placed, sorted, spoilt, nested, alt, star, both, negated, normal}
use Rattle.meaning.specs.PlainMeans.{decide}
use Rattle.number.specs.Branch.{by_cond}
use Rattle.meaning.proofs.NormalShape.{sorted_full}
use Rattle.meaning.specs.Tests.{clash, or_true, is_nothing_lem, is_empty_lem}

-- Cat
chain_means : (a b : Re) → Same (Matches (chain a b)) (Then (Matches a) (Matches b))
unfolding chain
chain_means a b =
    by_members Join-as-Then (λ r. Same (Matches (chain r b)) (Then (Matches r) (Matches b))) (λ r e. rw (chain_one r b e) (same_refl _))
    (λ x y _ ih. same_trans (then_same (same_refl (Matches x)) ih) (same_sym then_assoc)) a

pub cat_means : (a b : Re) → Same (Matches (cat a b)) (Then (Matches a) (Matches b))
unfolding cat
cat_means a b =
    by_cond Means (is_nothing a || is_nothing b) (λ e. none (or_true (is_nothing a) (is_nothing b) e))
    (λ _. by_cond Means (is_empty a) (λ e. rw (is_empty_lem a e) (same_sym empty_then))
    (λ _. by_cond Means (is_empty b) (λ e. rw (is_empty_lem b e) (same_sym then_only))
    (λ _. chain_means a b)))
  where
    Means : Re → Type 0
    Means r = Same (Matches r) (Then (Matches a) (Matches b))

    none : (is_nothing a ≡ true) ⊎ (is_nothing b ≡ true) → Means Nothing
    none (inl e) = rw (is_nothing_lem a e) (same_sym none_then)
    none (inr e) = rw (is_nothing_lem b e) (same_sym then_none)

-- what an operator makes of two languages where its members may stand in any order and once, and the language that adds nothing to another
record Gathers (j : Join) : Type 1 where
  op : Lang → Lang → Lang
  none : Lang
  means : (a b : Re) → Same (Matches (joined j a b)) (op (Matches a) (Matches b))
  same : {P P' Q Q' : Lang} → Same P P' → Same Q Q' → Same (op P Q) (op P' Q')
  regrouped : (P Q R : Lang) → Same (op (op P Q) R) (op P (op Q R))
  swapped : (P Q : Lang) → Same (op P Q) (op Q P)
  twice : (P : Lang) → Same (op P P) P
  alone : (P : Lang) → Same (op P none) P

module _ {j : Join} (l : Gathers j) where
  -- what members match together
  abbrev Together : List Re → Lang
  Together [] = l.none
  Together (r ∷ rs) = l.op (Matches r) (Together rs)

  behind : (P : Lang) {Q R : Lang} → Same Q R → Same (l.op P Q) (l.op P R)
  behind P e = l.same (same_refl P) e

  append_means : (xs ys : List Re) → Same (Together (xs ++ ys)) (l.op (Together xs) (Together ys))
  append_means [] ys = same_sym (same_trans (l.swapped l.none (Together ys)) (l.alone (Together ys)))
  append_means (x ∷ xs) ys =
      same_trans (behind (Matches x) (append_means xs ys)) (same_sym (l.regrouped (Matches x) (Together xs) (Together ys)))

  gathered_means : (r : Re) → Same (Together (gathered j r)) (Matches r)
  gathered_means =
      by_members j (λ r. Same (Together (gathered j r)) (Matches r)) (λ r e. rw (gathered_alone j r e) (l.alone (Matches r)))
      (λ a b f g.
      rw (gathered_joined j a b)
      (same_trans (append_means (gathered j a) (gathered j b)) (same_trans (l.same f g) (same_sym (l.means a b)))))

  -- of equal ones one is enough, and neighbours change places
  once : (P R : Lang) → Same (l.op P R) (l.op P (l.op P R))
  once P R = same_sym (same_trans (same_sym (l.regrouped P P R)) (l.same (l.twice P) (same_refl R)))

  moved : (P Q R : Lang) → Same (l.op P (l.op Q R)) (l.op Q (l.op P R))
  moved P Q R = same_trans (same_sym (l.regrouped P Q R)) (same_trans (l.same (l.swapped P Q) (same_refl R)) (l.regrouped Q P R))

  placed_means : (x : Re) (xs : List Re) → Same (Together (placed x xs)) (Together (x ∷ xs))
  unfolding placed
  placed_means x [] = same_refl _
  placed_means x (y ∷ ys) = go (order x y) refl (placed_means x ys)
    where
      go : (o : Ordering) → order x y ≡ o → Same (Together (placed x ys)) (Together (x ∷ ys))
          → Same (Together (placed x (y ∷ ys))) (Together (x ∷ y ∷ ys))
      go Ordering.lt e ih = rw (e, placed) (same_refl _)
      go Ordering.eq e ih = rw (e, placed, order_equal x y e) (once (Matches y) (Together ys))
      go Ordering.gt e ih = rw (e, placed) (same_trans (behind (Matches y) ih) (moved (Matches y) (Matches x) (Together ys)))

  sorted_means : (xs : List Re) → Same (Together (sorted xs)) (Together xs)
  unfolding sorted
  sorted_means [] = same_refl _
  sorted_means (x ∷ xs) = same_trans (placed_means x (sorted xs)) (behind (Matches x) (sorted_means xs))

  nested_means : (xs : List Re) → Full xs → Same (Matches (nested j xs)) (Together xs)
  unfolding nested
  nested_means [] f = absurd f
  nested_means (x ∷ []) f = same_sym (l.alone (Matches x))
  nested_means (x ∷ y ∷ ys) f = same_trans (l.means x (nested j (y ∷ ys))) (behind (Matches x) (nested_means (y ∷ ys) tt))

-- Alt
abbrev either : Gathers Or
either = record {
  op = λ P Q w. P w ⊎ Q w;
  none = None;
  means = λ a b. same_refl _;
  same = either_same;
  regrouped = λ P Q R w. (
    elim [ inl m ↦ elim m [ inl p ↦ inl p | inr q ↦ inr (inl q) ] | inr r ↦ inr (inr r) ],
    elim [ inl p ↦ inl (inl p) | inr m ↦ elim m [ inl q ↦ inl (inr q) | inr r ↦ inr r ] ],
  );
  swapped = λ P Q w. (elim [ inl p ↦ inr p | inr q ↦ inl q ], elim [ inl q ↦ inr q | inr p ↦ inl p ]);
  twice = λ P w. (elim [ inl p ↦ p | inr p ↦ p ], inl);
  alone = λ P w. (elim [ inl p ↦ p | inr n ↦ absurd n ], inl);
}

kept_means : (xs : List Re) → Same (Together either (kept xs)) (Together either xs)
unfolding kept
kept_means [] = same_refl _
kept_means (x ∷ xs) =
    by_cond (λ (ys : List Re). Same (Together either ys) (Together either (x ∷ xs))) (is_nothing x)
    (λ e. rw (is_nothing_lem x e) (same_trans (kept_means xs) (λ w. (inr, elim [ inl m ↦ absurd m | inr m ↦ m ]))))
    (λ _. either_same (same_refl (Matches x)) (kept_means xs))

pub alt_means : (a b : Re) → Same (Matches (alt a b)) (λ w. Matches a w ⊎ Matches b w)
unfolding alt nested
alt_means a b =
    let all = gathered Or a ++ gathered Or b in
    same_trans (go (sorted (kept all)))
    (same_trans (sorted_means either (kept all))
    (same_trans (kept_means all)
    (same_trans (append_means either (gathered Or a) (gathered Or b)) (either_same (gathered_means either a) (gathered_means either b)))))
  where
    go : (xs : List Re) → Same (Matches (nested Or xs)) (Together either xs)
    go [] = same_refl _
    go (x ∷ xs) = nested_means either (x ∷ xs) tt

-- And
abbrev every : Gathers Both
every = record {
  op = λ P Q w. P w × Q w;
  none = λ w. Unit;
  means = λ a b. same_refl _;
  same = both_same;
  regrouped = λ P Q R w. (λ m. (m.0.0, (m.0.1, m.1)), λ m. ((m.0, m.1.0), m.1.1));
  swapped = λ P Q w. (λ m. (m.1, m.0), λ m. (m.1, m.0));
  twice = λ P w. (λ m. m.0, λ m. (m, m));
  alone = λ P w. (λ m. m.0, λ m. (m, tt));
}

spoilt_means : (xs : List Re) → spoilt xs ≡ true → Same None (Together every xs)
unfolding spoilt
spoilt_means [] e = absurd (clash e refl)
spoilt_means (x ∷ xs) e = λ w. (
  λ m. absurd m,
  λ m. elim (or_true (is_nothing x) (spoilt xs) e) [
    | inl d ↦ rw (is_nothing_lem x d) at m.0
    | inr d ↦ (spoilt_means xs d w).1 m.1
  ],
)

pub both_means : (a b : Re) → Same (Matches (both a b)) (λ w. Matches a w × Matches b w)
unfolding both
both_means a b =
    let all = gathered Both a ++ gathered Both b in
    same_trans (by_cond (λ (r : Re). Same (Matches r) (Together every all)) (spoilt all) (spoilt_means all)
    (λ _. same_trans (nested_means every (sorted all) (sorted_full all (full_append (gathered Both a) (gathered Both b) (gathered_full Both a)))) (sorted_means every all)))
    (same_trans (append_means every (gathered Both a) (gathered Both b)) (both_same (gathered_means every a) (gathered_means every b)))

-- Not: that Not of Not goes needs that matching is decidable
pub negated_means : (a : Re) → Same (Matches (negated a)) (λ w. Matches a w → ⊥)
unfolding negated
negated_means Nothing = same_refl _
negated_means Empty = same_refl _
negated_means (Range lo hi) = same_refl _
negated_means (Cat a b) = same_refl _
negated_means (Alt a b) = same_refl _
negated_means (Star a) = same_refl _
negated_means (And a b) = same_refl _
negated_means (Not a) = λ w. (λ m f. f m, λ f. elim (decide a w) [ yes m ↦ m | no g ↦ absurd (f g) ])

-- Star
pub star_means : (a : Re) → Same (Matches (star a)) (Many (Matches a))
unfolding star
star_means Nothing = same_sym many_none
star_means Empty = same_sym many_empty
star_means (Range lo hi) = same_refl _
star_means (Cat a b) = same_refl _
star_means (Alt a b) = same_refl _
star_means (Star a) = same_sym many_many
star_means (And a b) = same_refl _
star_means (Not a) = same_refl _

-- the whole
pub normal_means : (r : Re) → Same (Matches (normal r)) (Matches r)
unfolding normal
normal_means Nothing = same_refl _
normal_means Empty = same_refl _
normal_means (Range lo hi) = same_refl _
normal_means (Cat a b) = same_trans (cat_means (normal a) (normal b)) (then_same (normal_means a) (normal_means b))
normal_means (Alt a b) = same_trans (alt_means (normal a) (normal b)) (either_same (normal_means a) (normal_means b))
normal_means (Star a) = same_trans (star_means (normal a)) (many_same (normal_means a))
normal_means (And a b) = same_trans (both_means (normal a) (normal b)) (both_same (normal_means a) (normal_means b))
normal_means (Not a) = same_trans (negated_means (normal a)) (not_same (normal_means a))
