-- Laws of a well formed table, one for each return of the code that tests one.
-- Of cells only the largest is tested.
use Rattle.std.specs.Prelude.{ℕ, ◌+◌, ◌*◌, ◌≤◌, ◌<◌, ◌≡◌, refl, None, Some, Bool, true, false, ◌&&◌, List, [], ◌∷◌, leb, ltb, max, fold, length, take}
use Rattle.std.specs.List.{reduce}
use Rattle.std.proofs.Common.{arith, sym, ap, ◌∙◌, length-take}
use Rattle.std.proofs.Math.Nat.{max-eq_left, max-eq_right}
use native.Mathlib.Decide.{dec_le}
use borrow.Author.Tests.{ltb-true, ltb-false, lt-ltb, le-ltb, le-leb, lt-leb}
use Rattle.std.proofs.Math.Dec.{leb-suc-suc}
use Rattle.number.specs.Limits.{rules, states, bytes}
use Rattle.table.specs.Table.{all, well_formed}
use Rattle.table.specs.SheetFormed.{well_formed_lem}

-- ---- each number of a list is below a limit

-- of two numbers the larger is tested for both
second_larger : (a b limit : ℕ) (rest : Bool) → a ≤ b → ltb a limit && (ltb b limit && rest) ≡ ltb b limit && rest
second_larger a b limit rest h = go (ltb a limit) refl
  where
    go : (t : Bool) → ltb a limit ≡ t → t && (ltb b limit && rest) ≡ ltb b limit && rest
    go true e = refl
    go false e = simp (le-ltb b limit (omega (arith, ltb-false a limit e)))

first_larger : (a b limit : ℕ) (rest : Bool) → b ≤ a → ltb a limit && (ltb b limit && rest) ≡ ltb a limit && rest
first_larger a b limit rest h = go (ltb a limit) refl
  where
    go : (t : Bool) → ltb a limit ≡ t → t && (ltb b limit && rest) ≡ t && rest
    go true e = simp (lt-ltb b limit (omega (arith, ltb-true a limit e)))
    go false e = refl

larger : (a b limit : ℕ) (rest : Bool) → ltb (max a b) limit && rest ≡ ltb a limit && (ltb b limit && rest)
larger a b limit rest =
    elim (dec_le a b) [
      | yes h ↦ rw (max-eq_right h) (sym (second_larger a b limit rest h))
      | no n ↦ let h : b ≤ a = omega arith in rw (max-eq_left h) (sym (first_larger a b limit rest h))
    ]

below_fold : (limit a : ℕ) (xs : List ℕ) → ltb (fold max a xs) limit ≡ ltb a limit && all (λ (x : ℕ). ltb x limit) xs
unfolding all
below_fold limit a [] = go (ltb a limit)
  where
    go : (t : Bool) → t ≡ t && true
    go true = refl
    go false = refl
below_fold limit a (x ∷ xs) = below_fold limit (max a x) xs ∙ larger a x limit (all (λ (x : ℕ). ltb x limit) xs)

-- so the largest of a list is tested for all of it
pub below_none : (limit : ℕ) (xs : List ℕ) → None ≡ reduce max xs → true ≡ all (λ (x : ℕ). ltb x limit) xs
unfolding all
below_none limit [] e = refl
below_none limit (x ∷ xs) e = absurd (let z : ◌≡◌ {A = ℕ} 0 1 = cc in omega arith)

pub below_most : (limit most : ℕ) (xs : List ℕ) → Some most ≡ reduce max xs → ltb most limit ≡ all (λ (x : ℕ). ltb x limit) xs
unfolding all
below_most limit most [] e = absurd (let z : ◌≡◌ {A = ℕ} 0 1 = cc in omega arith)
below_most limit most (x ∷ xs) e = let is : most ≡ fold max x xs = cc in rw is (below_fold limit x xs)

-- ---- the six tests of a well formed table, in their order

-- labels are at most 32, which the code tests as below 33
labels_below : (xs : List ℕ) → all (λ (x : ℕ). ltb x (rules + 1)) xs ≡ all (λ (l : ℕ). leb l rules) xs
labels_below xs = ap (λ (test : ℕ → Bool). all test xs) (λ i x. leb-suc-suc x rules i)

module _ (s : ℕ) (labels targets : List ℕ) where
  pub well_none : s < 1 → false ≡ well_formed s labels targets
  unfolding well_formed
  well_none h = simp (lt-leb _ _ h)

  pub well_over : 1 ≤ s → states < s → false ≡ well_formed s labels targets
  unfolding well_formed
  well_over h k = simp (le-leb _ _ h, lt-leb _ _ k)

  module _ (some : 1 ≤ s) (most : s ≤ states) where
    pub well_labels_short : length labels < s → false ≡ well_formed s labels targets
    unfolding well_formed
    well_labels_short h = simp (le-leb _ _ some, le-leb _ _ most, lt-leb _ _ h)

    pub well_targets_short : s ≤ length labels → length targets < s * bytes → false ≡ well_formed s labels targets
    unfolding well_formed
    well_targets_short h k = simp (le-leb _ _ some, le-leb _ _ most, le-leb _ _ h, lt-leb _ _ k)

    pub well_cells : s ≤ length labels → s * bytes ≤ length targets → {a : Bool}
        → a ≡ all (λ (x : ℕ). ltb x (rules + 1)) (take s labels)
        → a && all (λ (x : ℕ). ltb x s) (take (s * bytes) targets) ≡ well_formed s labels targets
    unfolding well_formed
    well_cells h k e =
        simp (e, labels_below, le-leb _ _ some, le-leb _ _ most, le-leb _ _ h, le-leb _ _ k)

-- ---- what a well formed table tells of its count

pub record Fitting (s : ℕ) (labels targets : List ℕ) : Type 0 where
  pub some : 1 ≤ s
  pub most : s ≤ states
  pub labelled : s ≤ length labels
  pub targeted : s * bytes ≤ length targets

pub well_fits : (s : ℕ) (labels targets : List ℕ) → true ≡ well_formed s labels targets → Fitting s labels targets
well_fits s labels targets e =
    let f = well_formed_lem s labels targets (sym e) in
    record {
      some = f.some;
      most = f.most;
      labelled = omega (arith, f.labelled, length-take s labels);
      targeted = omega (arith, f.filled, length-take (s * bytes) targets);
    }
