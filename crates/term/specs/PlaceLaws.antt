-- Laws of listed places: how many terms they have, the last one taken off, one put on, and the same terms where the places tell the same.
-- The same of the nodes that are to come: each place has at least one.
use Prim.Native.Nat.{ℕ, zero, suc, ◌+◌, ◌-◌, ◌<◌, ◌≤◌}
use native.Mathlib.Omega.{arith}
use Rattle.std.specs.Prelude.{◌≡◌, List, ◌∷◌, length, get_or, set}
use Rattle.std.proofs.Math.Path.{refl, ap}
use Rattle.std.proofs.Common.{◌∙◌, length-set, get_or-set_same, get_or-set_other, below_more}
use Rattle.meaning.specs.Re.{Re, size, sizes}
use Rattle.meaning.specs.PartLaws.{size_some}
use Rattle.term.specs.Cells.{term}
use Rattle.term.specs.Places.{terms_at, ahead, most_waiting, Listed}

-- ---- a place that is listed

module _ (l : List ℕ) (n b : ℕ) (h : n < length l) where
  pub set_there : get_or (set l n b) n 0 ≡ b
  set_there = get_or-set_same l n b 0 h

  pub set_other : (k : ℕ) → k < n → get_or (set l n b) k 0 ≡ get_or l k 0
  set_other k m = get_or-set_other l n k b 0 (λ z. omega arith)

pub listed_less : {l : List ℕ} {n i : ℕ} → Listed l n i → Listed l (n - 1) i
listed_less t = record { long = t.long; low = λ k h. t.low k (omega arith) }

pub listed_more : {l : List ℕ} {n i b : ℕ} → Listed l n i → n < most_waiting → b ≤ i → Listed (set l n b) (n + 1) i
listed_more {l} {n} {i} {b} t h m =
    let inside : n < length l = omega (arith, t.long) in
    record {
      long = length-set l n b ∙ t.long;
      low = below_more (λ (k : ℕ). get_or (set l n b) k 0 ≤ i) n (λ k o. rw (set_other l n b inside k o) (t.low k o))
          (rw (set_there l n b inside) m);
    }

-- ---- their terms

pub terms_same : (f g : ℕ → Re) (l l' : List ℕ) (n : ℕ) → ((j : ℕ) → j < n → g (get_or l' j 0) ≡ f (get_or l j 0))
    → terms_at g l' n ≡ terms_at f l n
unfolding terms_at
terms_same f g l l' zero h = refl
terms_same f g l l' (suc n) h = rw (h n (omega arith), terms_same f g l l' n (λ j k. h j (omega arith)))

module _ (f : ℕ → Re) (l : List ℕ) where
  pub terms_length : (n : ℕ) → length (terms_at f l n) ≡ n
  unfolding terms_at
  terms_length zero = refl
  terms_length (suc n) = omega (arith, terms_length n)

  pub terms_last : (n : ℕ) → 0 < n → terms_at f l n ≡ f (get_or l (n - 1) 0) ∷ terms_at f l (n - 1)
  unfolding terms_at
  terms_last n h = let e : n ≡ suc (n - 1) = omega arith in ap (terms_at f l) e

pub terms_set : (f : ℕ → Re) (l : List ℕ) (n b : ℕ) → n < length l → terms_at f (set l n b) (n + 1) ≡ f b ∷ terms_at f l n
terms_set f l n b h =
    let one : n + 1 - 1 ≡ n = omega arith in
    rw (one, set_there l n b h, terms_same f f l (set l n b) n (λ j k. ap f (set_other l n b h j k)))
    at (terms_last f (set l n b) (n + 1) (omega arith))

-- ---- their nodes

module _ (f : ℕ → Re) (l : List ℕ) where
  pub sizes_most : (n : ℕ) → n ≤ sizes (terms_at f l n)
  unfolding terms_at sizes
  sizes_most zero = omega arith
  sizes_most (suc n) = omega (arith, sizes_most n, size_some (f (get_or l n 0)))

  pub sizes_last : (n : ℕ) → 0 < n → sizes (terms_at f l n) ≡ size (f (get_or l (n - 1) 0)) + sizes (terms_at f l (n - 1))
  unfolding sizes
  sizes_last n h = ap sizes (terms_last f l n h)

  pub sizes_set : (n b : ℕ) → n < length l → sizes (terms_at f (set l n b) (n + 1)) ≡ size (f b) + sizes (terms_at f l n)
  unfolding sizes
  sizes_set n b h = ap sizes (terms_set f l n b h)

-- fewer are to come once the last place that waits is at hand, and once a node with two children made way for them
module _ (s l : List ℕ) (n at : ℕ) where
  pub ahead_last : 0 < n → ahead s l (n - 1) (get_or l (n - 1) 0) < ahead s l n at
  ahead_last h = omega (arith, sizes_last (term s) l n h, size_some (term s at))

  pub ahead_set : (a b : ℕ) → n < length l → size (term s at) ≡ 1 + size (term s a) + size (term s b)
      → ahead s (set l n b) (n + 1) a < ahead s l n at
  ahead_set a b h e = omega (arith, sizes_set (term s) l n b h)
