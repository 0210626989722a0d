-- The textbook's derivative matches what is left after a byte, and nullable is matching the empty text; so matching is decidable.
-- No normal form occurs here: that Not of Not may go from a normal form rests on this.
use Rattle.std.specs.Prelude.{ℕ, ◌≤◌, ◌≡◌, refl, Bool, true, false, cond, ◌&&◌, [], ◌∷◌, ◌↔◌, ◌⊎◌, leb}
use Rattle.std.proofs.Common.{sym, subst, ap, inl, inr, leb-true, le-leb}
use Rattle.meaning.specs.Re.{Re, Text}
use Rattle.meaning.specs.Re.Re.{Nothing, Empty, Range, Cat, Alt, Star, And, Not}
use Rattle.meaning.specs.Lang.{Same, Then, Many, After}
use Rattle.meaning.specs.LangLaws.{cons_nil, same_refl, same_trans, then_same, then_cons, then_nil, many_nil, many_cons, either_same, both_same, not_same}
use Rattle.meaning.specs.Means.{Matches}
use Rattle.meaning.specs.Derive.{nullable, plain}
use Rattle.number.specs.Branch.{by_cond}
use Rattle.meaning.specs.Tests.{clash, and_true, true_and, or_true, true_or, or_of_true, not-true, true_not}

-- nullable is matching the empty text
pub nullable_means : (r : Re) → (nullable r ≡ true) ↔ Matches r []
unfolding nullable
nullable_means Nothing = (λ e. absurd (clash e refl), λ m. absurd m)
nullable_means Empty = (λ _. refl, λ _. refl)
nullable_means (Range lo hi) = (λ e. absurd (clash e refl), λ m. absurd (cons_nil (sym m.only)))
nullable_means (Cat a b) =
    let p = nullable_means a in
    let q = nullable_means b in (
      λ e. then_nil.1 (p.0 (and_true (nullable a) (nullable b) e).0, q.0 (and_true (nullable a) (nullable b) e).1),
      λ m. true_and (p.1 (then_nil.0 m).0) (q.1 (then_nil.0 m).1),
    )
nullable_means (Alt a b) =
    let p = nullable_means a in
    let q = nullable_means b in (
      λ e. elim (or_true (nullable a) (nullable b) e) [ inl x ↦ inl (p.0 x) | inr x ↦ inr (q.0 x) ],
      elim [ inl m ↦ true_or (nullable b) (p.1 m) | inr m ↦ or_of_true (nullable a) (q.1 m) ],
    )
nullable_means (Star a) = (λ _. many_nil, λ _. refl)
nullable_means (And a b) =
    let p = nullable_means a in
    let q = nullable_means b in (
      λ e. let t = and_true (nullable a) (nullable b) e in (p.0 t.0, q.0 t.1),
      λ m. true_and (p.1 m.0) (q.1 m.1),
    )
nullable_means (Not a) = let p = nullable_means a in (
  λ e m. not-true (nullable a) e (p.1 m),
  λ f. true_not (nullable a) (λ e. f (p.0 e)),
)

pub not_nullable : (r : Re) → nullable r ≡ false → Matches r [] → ⊥
not_nullable r e m = clash ((nullable_means r).1 m) e

-- a range after a byte is the empty text, if the byte lies in it
module _ (c lo hi : ℕ) where
  range_after : Same (Matches (cond (leb lo c && leb c hi) Empty Nothing)) (After c (Matches (Range lo hi)))
  range_after =
      by_cond (λ (r : Re). Same (Matches r) (After c (Matches (Range lo hi)))) (leb lo c && leb c hi)
      (λ e w. (
        λ m. record {
          byte = c;
          only = ap (λ (v : Text). c ∷ v) m;
          above = leb-true lo c (and_true (leb lo c) (leb c hi) e).0;
          below = leb-true c hi (and_true (leb lo c) (leb c hi) e).1;
        },
        λ m. let only = m.only in let t : w ≡ [] = cc in t,
      ))
      (λ e w. (
        λ m. absurd m,
        λ m.
            let only = m.only in
            let same : m.byte ≡ c = cc in
            clash (true_and (le-leb lo c (subst (λ (x : ℕ). lo ≤ x) same m.above)) (le-leb c hi (subst (λ (x : ℕ). x ≤ hi) same m.below))) e,
      ))

-- the textbook's derivative
then_after_null : (a b : Re) (c : ℕ) → nullable a ≡ true
    → Same (λ w. Then (After c (Matches a)) (Matches b) w ⊎ After c (Matches b) w) (After c (Then (Matches a) (Matches b)))
then_after_null a b c e w = (
  elim [ inl m ↦ then_cons.1 (inl m) | inr m ↦ then_cons.1 (inr ((nullable_means a).0 e, m)) ],
  λ m. elim (then_cons.0 m) [ inl x ↦ inl x | inr x ↦ inr x.1 ],
)

then_after_full : (a b : Re) (c : ℕ) → nullable a ≡ false → Same (Then (After c (Matches a)) (Matches b)) (After c (Then (Matches a) (Matches b)))
then_after_full a b c e w =
    (λ m. then_cons.1 (inl m), λ m. elim (then_cons.0 m) [ inl x ↦ x | inr x ↦ absurd (not_nullable a e x.0) ])

pub plain_means : (c : ℕ) (r : Re) → Same (Matches (plain c r)) (After c (Matches r))
unfolding plain
plain_means c Nothing = same_refl _
plain_means c Empty = λ w. (λ m. absurd m, λ m. cons_nil m)
plain_means c (Range lo hi) = range_after c lo hi
plain_means c (Cat a b) =
    by_cond (λ (r : Re). Same (Matches r) (After c (Matches (Cat a b)))) (nullable a)
    (λ e. same_trans (either_same (then_same (plain_means c a) (same_refl (Matches b))) (plain_means c b)) (then_after_null a b c e))
    (λ e. same_trans (then_same (plain_means c a) (same_refl (Matches b))) (then_after_full a b c e))
plain_means c (Alt a b) = either_same (plain_means c a) (plain_means c b)
plain_means c (Star a) = same_trans (then_same (plain_means c a) (same_refl (Many (Matches a)))) (λ w. (many_cons.1, many_cons.0))
plain_means c (And a b) = both_same (plain_means c a) (plain_means c b)
plain_means c (Not a) = not_same (plain_means c a)

-- so matching is decidable: read the bytes, then ask for the empty text
pub decide_empty : (r : Re) → Dec (Matches r [])
decide_empty r = go (nullable r) refl
  where
    go : (b : Bool) → nullable r ≡ b → Dec (Matches r [])
    go true e = yes ((nullable_means r).0 e)
    go false e = no (not_nullable r e)

pub decide : (r : Re) (w : Text) → Dec (Matches r w)
decide r [] = decide_empty r
decide r (c ∷ w) = elim (decide (plain c r) w) [ yes m ↦ yes ((plain_means c r w).0 m) | no f ↦ no (λ m. f ((plain_means c r w).1 m)) ]

-- a text is matched by a term, or by its Not
pub one_matches : (r : Re) (w : Text) → Matches r w ⊎ Matches (Not r) w
one_matches r w = elim (decide r w) [ yes m ↦ inl m | no f ↦ inr f ]
