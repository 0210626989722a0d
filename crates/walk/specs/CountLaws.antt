-- Counting: numbers that are all different and below m are at most m; so terms that are all different and stand in another pool are no more than it holds.
-- Comparing a book with its own table stays within the limits by this.
use Rattle.std.specs.Prelude.{ℕ, zero, suc, ◌<◌, ◌≤◌, ◌≡◌, Bool, cond, List, [], ◌∷◌, length, get_or}
use Rattle.std.proofs.Math.Path.{refl}
use Rattle.std.proofs.Common.{sym, ap, subst, ◌∙◌, inl, inr, arith, eqb-true}
use Rattle.std.proofs.Math.Bool.{true, false}
use Rattle.std.proofs.Math.Decide.{dec_lt}
use Rattle.std.proofs.lemmas.Bool.{eqb-false}
use Rattle.std.proofs.Math.Dec.{eqb}
use Rattle.meaning.specs.Re.{Re}
use Rattle.meaning.specs.Re.Re.{Nothing}
use Rattle.meaning.specs.Tests.{clash, or_true}
use Rattle.walk.specs.Vectors.{same_term}
use Rattle.walk.specs.VectorLaws.{term_same}
use Rattle.walk.specs.Parts.{holds, InPool, Once}
use Rattle.walk.specs.PartsLaws.{held_at}

-- the first n values of f are below m, and no two of them are equal
pub record Different (n m : ℕ) (f : ℕ → ℕ) : Type 0 where
  pub below : (i : ℕ) → i < n → f i < m
  pub apart : (i j : ℕ) → i < j → j < n → f i ≡ f j → ⊥

-- without the last value: whoever has the greatest takes the last one's
module _ (n m : ℕ) (f : ℕ → ℕ) (d : Different (suc n) (suc m) f) where
  moved : ℕ → ℕ
  moved i = cond (eqb (f i) m) (f n) (f i)

  -- a value that was moved, or not
  data Moves (i : ℕ) : ℕ → Type 0 where
    taken : f i ≡ m → Moves i (f n)
    kept : (f i ≡ m → ⊥) → Moves i (f i)

  moves : (i : ℕ) → Moves i (moved i)
  unfolding moved
  moves i = go (eqb (f i) m) refl
    where
      go : (b : Bool) → eqb (f i) m ≡ b → Moves i (cond b (f n) (f i))
      go true e = taken (eqb-true (f i) m e)
      go false e = kept (eqb-false (f i) m e)

  moved_below : {x : ℕ} (i : ℕ) → i < n → Moves i x → x < m
  moved_below i l h = go i l h
    where
      go : (i : ℕ) {x : ℕ} → i < n → Moves i x → x < m
      go i l (taken e) =
          let a = d.below n (omega arith) in
          let b : f n ≡ m → ⊥ = λ g. d.apart i n l (omega arith) (e ∙ sym g) in
          omega arith
      go i l (kept e) = let a = d.below i (omega arith) in omega arith

  moved_apart : {x y : ℕ} (i j : ℕ) → i < j → j < n → Moves i x → Moves j y → x ≡ y → ⊥
  moved_apart i j l k h g z = go i j l k h g z
    where
      go : (i j : ℕ) {x y : ℕ} → i < j → j < n → Moves i x → Moves j y → x ≡ y → ⊥
      go i j l k (taken e) (taken g) z = d.apart i j l (omega arith) (e ∙ sym g)
      go i j l k (taken e) (kept g) z = d.apart j n k (omega arith) (sym z)
      go i j l k (kept e) (taken g) z = d.apart i n (omega arith) (omega arith) z
      go i j l k (kept e) (kept g) z = d.apart i j l (omega arith) z

  different_less : Different n m moved
  different_less = record {
    below = λ i l. moved_below i l (moves i);
    apart = λ i j l k z. moved_apart i j l k (moves i) (moves j) z;
  }

pub at_most : (n m : ℕ) (f : ℕ → ℕ) → Different n m f → n ≤ m
at_most zero m f d = omega arith
at_most (suc n) zero f d = absurd (let a = d.below 0 (omega arith) in omega arith)
at_most (suc n) (suc m) f d = let a = at_most n m (moved n m f d) (different_less n m f d) in omega arith

-- the same of a relation: each i has a j below m, and no two have the same
module _ (n m : ℕ) (R : ℕ → ℕ → Type 0) (has : (i : ℕ) → i < n → (j : ℕ) × (j < m) × R i j)
    (apart : (i k : ℕ) → i < k → k < n → (j : ℕ) → R i j → R k j → ⊥) where
  data Chosen (i : ℕ) : Type 0 where
    chosen : (j : ℕ) → (i < n → (j < m) × R i j) → Chosen i

  choose : (i : ℕ) → Chosen i
  choose i =
      elim (dec_lt i n) [
        | yes l ↦ let (j, below, r) = has i l in chosen j (λ k. (below, r))
        | no f ↦ chosen 0 (λ l. absurd (omega arith))
      ]

  place_of : {i : ℕ} → Chosen i → ℕ
  place_of (chosen j f) = j

  chosen_is : {i : ℕ} (x : Chosen i) → i < n → (place_of x < m) × R i (place_of x)
  unfolding place_of
  chosen_is (chosen j f) l = f l

  pub at_most_by : n ≤ m
  at_most_by = at_most n m (λ i. place_of (choose i)) (record {
    below = λ i l. (chosen_is (choose i) l).0;
    apart = λ i k l h e.
        apart i k l h (place_of (choose k)) (subst (R i) e (chosen_is (choose i) (omega arith)).1) (chosen_is (choose k) h).1;
  })

-- ---- terms of one pool in another

-- where a term stands in a pool
unfoldable place_in : List Re → Re → ℕ
place_in [] x = 0
place_in (y ∷ ys) x = cond (same_term y x) 0 (suc (place_in ys x))

record Stands (p : List Re) (x : Re) (k : ℕ) : Type 0 where
  inside : k < length p
  is : get_or p k Nothing ≡ x

stands : (p : List Re) (x : Re) → InPool p x → Stands p x (place_in p x)
unfolding place_in holds
stands [] x h = absurd (clash h refl)
stands (y ∷ ys) x h = go (same_term y x) refl (stands ys x)
  where
    later : same_term y x ≡ false → InPool ys x
    later e = elim (or_true (same_term y x) (holds ys x) h) [ inl f ↦ absurd (clash f e) | inr f ↦ f ]

    go : (b : Bool) → same_term y x ≡ b → (InPool ys x → Stands ys x (place_in ys x)) → Stands (y ∷ ys) x (cond b 0 (suc (place_in ys x)))
    go true e ih = record { inside = omega arith; is = term_same y x e }
    go false e ih = let s = ih (later e) in record { inside = omega (arith, s.inside); is = s.is }

pub pool_most : (p q : List Re) → Once p → ((x : Re) → InPool p x → InPool q x) → length p ≤ length q
pool_most p q o f = at_most (length p) (length q) (λ i. place_in q (get_or p i Nothing)) (record {
  below = λ i l. (at i l).inside;
  apart = λ i j l k e. o.apart i j l k (sym (at i (omega arith)).is ∙ ap (λ (m : ℕ). get_or q m Nothing) e ∙ (at j k).is);
})
  where
    at : (i : ℕ) → i < length p → Stands q (get_or p i Nothing) (place_in q (get_or p i Nothing))
    at i l = stands q (get_or p i Nothing) (f (get_or p i Nothing) (held_at p i l))
