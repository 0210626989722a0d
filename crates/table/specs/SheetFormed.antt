-- The Boolean test of lent memory says just that the table in it is formed.
-- First the laws of a claim about each number of a list, as a list is cut and joined.
use Rattle.std.specs.Prelude.{ℕ, zero, suc, ◌-◌, ◌*◌, ◌≤◌, ◌<◌, ◌≡◌, refl, Bool, true, List, [], ◌∷◌, ◌++◌, ◌↔◌, leb, ltb, length, get_or, take, drop, replicate}
use Rattle.std.proofs.Common.{arith, leb-true, ltb-true, le-leb, lt-ltb, length-take, length-drop, get_or-take, get_or-drop, length-take-le}
use Rattle.std.proofs.Math.Bool.{and-eq-true_iff}
use Rattle.std.proofs.lemmas.List.{get_or-replicate, length-replicate}
use Rattle.number.specs.Limits.{rules, states, bytes}
use Rattle.table.specs.Table.{lent, all, well_formed}
use Rattle.table.specs.Formed.{Formed}

-- ---- a claim about each number of a list

abbrev pub Each : (ℕ → Type 0) → List ℕ → Type 0
Each P xs = (i : ℕ) → i < length xs → P (get_or xs i 0)

pub each_none : (P : ℕ → Type 0) → Each P []
each_none P i h = absurd (omega arith)

pub each_cons : (P : ℕ → Type 0) (x : ℕ) (xs : List ℕ) → P x → Each P xs → Each P (x ∷ xs)
each_cons P x xs p ps zero h = p
each_cons P x xs p ps (suc i) h = ps i (omega arith)

pub each_tail : (P : ℕ → Type 0) (x : ℕ) (xs : List ℕ) → Each P (x ∷ xs) → Each P xs
each_tail P x xs ps i h = ps (suc i) (omega arith)

pub each_append : (P : ℕ → Type 0) (xs ys : List ℕ) → Each P xs → Each P ys → Each P (xs ++ ys)
each_append P [] ys ps qs = qs
each_append P (x ∷ xs) ys ps qs =
    each_cons P x (xs ++ ys) (ps 0 (omega arith)) (each_append P xs ys (each_tail P x xs ps) qs)

pub each_replicate : (P : ℕ → Type 0) (n x : ℕ) → P x → Each P (replicate n x)
each_replicate P n x p i h = rw (get_or-replicate n i x 0 (omega (arith, length-replicate n x))) p

pub each_take : (P : ℕ → Type 0) (n : ℕ) (xs : List ℕ) → Each P xs → Each P (take n xs)
each_take P n xs ps i h =
    let small : i < n = omega (arith, length-take n xs) in
    rw (get_or-take n xs i 0 small) (ps i (omega (arith, length-take n xs)))

pub each_drop : (P : ℕ → Type 0) (n : ℕ) (xs : List ℕ) → Each P xs → Each P (drop n xs)
each_drop P n xs ps i h = rw (get_or-drop n xs i 0) (ps _ (omega (arith, length-drop n xs)))

-- ---- the test of each number of a list

pub all_each : (test : ℕ → Bool) (xs : List ℕ) → all test xs ≡ true → Each (λ x. test x ≡ true) xs
unfolding all
all_each test [] e = each_none (λ y. test y ≡ true)
all_each test (x ∷ xs) e =
    let parts = (and-eq-true_iff (test x) (all test xs)).0 e in
    each_cons (λ y. test y ≡ true) x xs parts.0 (all_each test xs parts.1)

pub each_all : (test : ℕ → Bool) (xs : List ℕ) → Each (λ x. test x ≡ true) xs → all test xs ≡ true
unfolding all
each_all test [] h = refl
each_all test (x ∷ xs) h =
    (and-eq-true_iff (test x) (all test xs)).1 (h 0 (omega arith), each_all test xs (each_tail (λ y. test y ≡ true) x xs h))

-- ---- well formed is formed

pub well_formed_lem : (s : ℕ) (labels targets : List ℕ) → well_formed s labels targets ≡ true → Formed (lent s labels targets)
unfolding well_formed
well_formed_lem s labels targets e =
    let (some, e₁) = (and-eq-true_iff _ _).0 e in
    let (most, e₂) = (and-eq-true_iff _ _).0 e₁ in
    let (room, e₃) = (and-eq-true_iff _ _).0 e₂ in
    let (space, e₄) = (and-eq-true_iff _ _).0 e₃ in
    let (label, target) = (and-eq-true_iff _ _).0 e₄ in
    record {
      some = leb-true _ _ some;
      most = leb-true _ _ most;
      labelled = length-take-le s labels (leb-true _ _ room);
      filled = length-take-le (s * bytes) targets (leb-true _ _ space);
      label = λ i h. leb-true _ _ (all_each (λ l. leb l rules) (take s labels) label i h);
      target = λ i h. ltb-true _ _ (all_each (λ t. ltb t s) (take (s * bytes) targets) target i h);
    }

pub formed_well : (s : ℕ) (labels targets : List ℕ) → Formed (lent s labels targets) → well_formed s labels targets ≡ true
unfolding well_formed
formed_well s labels targets f =
    let room : s ≤ length labels = omega (arith, length-take s labels, f.labelled) in
    let space : s * bytes ≤ length targets = omega (arith, length-take (s * bytes) targets, f.filled) in
    simp (
      le-leb _ _ f.some,
      le-leb _ _ f.most,
      le-leb _ _ room,
      le-leb _ _ space,
      each_all (λ l. leb l rules) (take s labels) (λ i h. le-leb _ _ (f.label i h)),
      each_all (λ t. ltb t s) (take (s * bytes) targets) (λ i h. lt-ltb _ _ (f.target i h)),
    )

pub well_formed_formed : (s : ℕ) (labels targets : List ℕ) → (well_formed s labels targets ≡ true) ↔ Formed (lent s labels targets)
well_formed_formed s labels targets = (well_formed_lem s labels targets, formed_well s labels targets)

-- ---- the fullest tables

pub full_well : (s : ℕ) → 1 ≤ s → s ≤ states → well_formed s (replicate s rules) (replicate (s * bytes) (s - 1)) ≡ true
full_well s some most =
    formed_well s (replicate s rules) (replicate (s * bytes) (s - 1))
    (record {
      some = some;
      most = most;
      labelled = length-take-le s (replicate s rules) (omega (arith, length-replicate {A = ℕ} s rules));
      filled = length-take-le (s * bytes) (replicate (s * bytes) (s - 1)) (omega (arith, length-replicate (s * bytes) (s - 1)));
      label = each_take (λ l. l ≤ rules) s (replicate s rules) (each_replicate (λ l. l ≤ rules) s rules (omega arith));
      target = each_take (λ t. t < s) (s * bytes) (replicate (s * bytes) (s - 1)) (each_replicate (λ t. t < s) (s * bytes) (s - 1) (omega arith));
    })
