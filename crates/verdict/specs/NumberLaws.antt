-- The number told for an item, by cases, and that it stays while the walk goes on.
-- An item that is found later stands behind the one that is being left.
use Rattle.std.specs.Prelude.{ℕ, suc, ◌-◌, ◌<◌, ◌≤◌, ◌≡◌, refl, Bool, true, false, cond, List, [], ◌∷◌, ◌++◌, length}
use Rattle.std.proofs.Common.{sym, ap, ◌∙◌, arith, eq-eqb, ne_eqb, lt-ltb, le-ltb}
use Rattle.std.proofs.Math.Decide.{dec_lt}
use Rattle.std.proofs.Math.ListN.{get_or-append}
use Rattle.walk.specs.Walk.{Item, none, Held, same_pair, number_in, Way}
use Rattle.walk.specs.StepLaws.{count, Moved}
use Rattle.walk.specs.StepLaws.Moved.{again, fresh}
use Rattle.verdict.specs.Compare.{start_pair, told_by, number_told}

-- ---- the three cases

pub at_start : (back i : ℕ) → back ≡ i → told_by back i ≡ 0
at_start back i e = rw (eq-eqb back i e)

pub behind_start : (back i : ℕ) → back < i → told_by back i ≡ i - 1
behind_start back i l = rw (ne_eqb back i (λ e. omega arith), lt-ltb back i l)

pub before_start : (back i : ℕ) → i < back → told_by back i ≡ i
before_start back i l = rw (ne_eqb back i (λ e. omega arith), le-ltb back i (omega arith))

-- ---- one item more

number_more : (xs : List Item) (y z : Item) → number_in xs z < length xs → number_in (xs ++ (y ∷ [])) z ≡ number_in xs z
unfolding number_in
number_more [] y z l = absurd (omega arith)
number_more (x ∷ xs) y z l = go (same_pair x z) (number_more xs y z) l
  where
    go : (b : Bool) → (number_in xs z < length xs → number_in (xs ++ (y ∷ [])) z ≡ number_in xs z) → cond b 0 (suc (number_in xs z)) < suc (length xs)
        → cond b 0 (suc (number_in (xs ++ (y ∷ [])) z)) ≡ cond b 0 (suc (number_in xs z))
    go true ih m = refl
    go false ih m = ap suc (ih (omega arith))

number_past : (xs : List Item) (y z : Item) → length xs ≤ number_in xs z → length xs ≤ number_in (xs ++ (y ∷ [])) z
unfolding number_in
number_past [] y z l = omega arith
number_past (x ∷ xs) y z l = go (same_pair x z) (number_past xs y z) l
  where
    go : (b : Bool) → (length xs ≤ number_in xs z → length xs ≤ number_in (xs ++ (y ∷ [])) z) → suc (length xs) ≤ cond b 0 (suc (number_in xs z))
        → suc (length xs) ≤ cond b 0 (suc (number_in (xs ++ (y ∷ [])) z))
    go true ih m = absurd (omega arith)
    go false ih m = let k = ih (omega arith) in omega arith

told_added : (xs : List Item) (y : Item) (i : ℕ) → i < length xs → number_told (xs ++ (y ∷ [])) i ≡ number_told xs i
told_added xs y i l =
    let first : start_pair (xs ++ (y ∷ [])) ≡ start_pair xs =
    ap (λ (x : Item). record { sheet = 1; vector = x.vector; text = [] }) (get_or-append xs (y ∷ []) none 0 (omega arith)) in
    let z = start_pair xs in
    let same : number_told (xs ++ (y ∷ [])) i ≡ told_by (number_in (xs ++ (y ∷ [])) z) i = ap (λ (u : Item). told_by (number_in (xs ++ (y ∷ [])) u) i) first in
    elim (dec_lt (number_in xs z) (length xs)) [
      | yes m ↦ same ∙ ap (λ (k : ℕ). told_by k i) (number_more xs y z m)
      | no m ↦
          let past = number_past xs y z (omega arith) in
          same ∙ before_start (number_in (xs ++ (y ∷ [])) z) i (omega arith) ∙ sym (before_start (number_in xs z) i (omega arith))
    ]

pub told_after : {way : Way} {x : Item} {c : ℕ} {h h₁ : Held} {j i : ℕ} → Moved way x c h h₁ j → i < count h → number_told h₁.items i ≡ number_told h.items i
told_after (again j l p q) m = refl
told_after {h = h} {i = i} (fresh y p q t l n) m = told_added h.items y i m
