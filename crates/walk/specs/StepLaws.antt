-- One step of the walk: where it is no refusal, it comes to an item that is held already, or to a new one at the end.
-- Either way the item is the one that the byte leads to, and items that were held stay as they are.
use Rattle.std.specs.Prelude.{ℕ, zero, suc, ◌<◌, ◌≤◌, ◌≡◌, Bool, true, cond, List, [], ◌∷◌, ◌++◌, map, leb, eqb, length, get_or}
use Rattle.std.proofs.Math.Path.{refl}
use Rattle.std.proofs.Common.{ap, ◌∙◌, arith, length-append}
use Rattle.std.proofs.Math.Bool.{false}
use Rattle.std.proofs.Math.Decide.{dec_lt}
use borrow.Author.Tests.{ltb-true, ltb-false, leb-true, leb-false, eqb-true, eq-eqb}
use Rattle.std.proofs.Math.Dec.{ltb}
use Rattle.std.proofs.Math.ListN.{get_or-append}
use Rattle.std.proofs.Math.Seq.{get_or-append_seam}
use Rattle.number.specs.declared.Refusal.{Refusal}
use Rattle.number.specs.declared.Refusal.TheVariants.{Pool}
use Rattle.meaning.specs.Re.{Re}
use Rattle.meaning.specs.Derive.{deriv}
use Rattle.meaning.specs.Tests.{clash, and_true, true_and}
use Rattle.walk.specs.Vectors.{Vector, derived, same_vector}
use Rattle.walk.specs.Vectors.Vector.{TooLong, Terms}
use Rattle.walk.specs.VectorLaws.{Is, derived_is, vector_same, vector_self}
use Rattle.walk.specs.Walk.{Item, none, Held, same_pair, number_in, Step, Way, added, come, after, come_by, step}
use Rattle.walk.specs.Walk.Step.{stopped, reached}

abbrev pub item : Held → ℕ → Item
item h k = get_or h.items k none

abbrev pub count : Held → ℕ
count h = length h.items

-- two items for one pair
pub record Pair (x y : Item) : Type 0 where
  pub same_sheet : x.sheet ≡ y.sheet
  pub same_vector_lem : x.vector ≡ y.vector

pub pair_same : (x y : Item) → same_pair x y ≡ true → Pair x y
pair_same x y e =
    let b = and_true (eqb x.sheet y.sheet) (same_vector x.vector y.vector) e in
    record { same_sheet = eqb-true x.sheet y.sheet b.0; same_vector_lem = vector_same x.vector y.vector b.1 }

pub same_pair_lem : (x y : Item) → Pair x y → same_pair x y ≡ true
same_pair_lem x y p =
    true_and (eq-eqb x.sheet y.sheet p.same_sheet)
    (rw p.same_vector_lem (vector_self y.vector))

-- the number of a pair: at most the count, and below it the item there is for the pair
pub number_most : (ys : List Item) (x : Item) → number_in ys x ≤ length ys
unfolding number_in
number_most [] x = omega arith
number_most (y ∷ ys) x = go (same_pair y x) (number_most ys x)
  where
    go : (b : Bool) → number_in ys x ≤ length ys → cond b 0 (suc (number_in ys x)) ≤ suc (length ys)
    go true h = omega arith
    go false h = omega arith

pub number_pair : (ys : List Item) (x : Item) → number_in ys x < length ys → Pair (get_or ys (number_in ys x) none) x
unfolding number_in
number_pair [] x h = absurd (omega arith)
number_pair (y ∷ ys) x h = go (same_pair y x) refl (number_pair ys x) h
  where
    go : (b : Bool) → same_pair y x ≡ b → (number_in ys x < length ys → Pair (get_or ys (number_in ys x) none) x)
        → cond b 0 (suc (number_in ys x)) < suc (length ys) → Pair (get_or (y ∷ ys) (cond b 0 (suc (number_in ys x))) none) x
    go true e ih k = pair_same y x e
    go false e ih k = ih (omega arith)

-- where the number of a pair is the count, no item is for the pair
pub number_after : (ys : List Item) (x : Item) → number_in ys x ≡ length ys → (k : ℕ) → k < length ys → Pair (get_or ys k none) x → ⊥
unfolding number_in
number_after [] x e k l p = omega arith
number_after (y ∷ ys) x e k l p = go (same_pair y x) refl (number_after ys x) e k l p
  where
    go : (b : Bool) → same_pair y x ≡ b → (number_in ys x ≡ length ys → (k : ℕ) → k < length ys → Pair (get_or ys k none) x → ⊥)
        → cond b 0 (suc (number_in ys x)) ≡ suc (length ys) → (k : ℕ) → k < suc (length ys) → Pair (get_or (y ∷ ys) k none) x → ⊥
    go true d ih f k m q = omega arith
    go false d ih f zero m q = clash (same_pair_lem y x q) d
    go false d ih f (suc k) m q = ih (omega arith) k (omega arith) q

-- ---- one item more

module _ (h : Held) (y : Item) where
  pub added_old : (k : ℕ) → k < count h → item (added h y) k ≡ item h k
  added_old k l = get_or-append h.items (y ∷ []) none k l

  pub added_new : item (added h y) (count h) ≡ y
  added_new = get_or-append_seam h.items y [] none

  pub added_count : count (added h y) ≡ suc (count h)
  added_count = let e = length-append h.items (y ∷ []) in omega arith

  -- what holds of each item at its place, and of the new one, holds of all; and so of all two
  pub each_added : (P : ℕ → Item → Type 0) → ((k : ℕ) → k < count h → P k (item h k)) → P (count h) y → (k : ℕ) → k < count (added h y)
      → P k (item (added h y) k)
  each_added P f p k l =
      elim (dec_lt k (count h)) [
        | yes m ↦ rw (added_old k m) (f k m)
        | no n ↦ let e : k ≡ count h = omega (arith, added_count) in rw (e, added_new) p
      ]

  pub pairs_added : (R : Item → Item → Type 0) → ((j k : ℕ) → j < k → k < count h → R (item h j) (item h k)) → ((j : ℕ) → j < count h → R (item h j) y)
      → (j k : ℕ) → j < k → k < count (added h y) → R (item (added h y) j) (item (added h y) k)
  pairs_added R f g j k l m =
      elim (dec_lt k (count h)) [
        | yes n ↦ rw (added_old j (omega arith), added_old k n) (f j k l n)
        | no n ↦ let e : k ≡ count h = omega (arith, added_count) in rw (e, added_new, added_old j (omega arith)) (g j (omega arith))
      ]

-- what a step that is no refusal comes to, from an item x by a byte c, with so many items allowed
pub data Moved (way : Way) (x : Item) (c : ℕ) (h : Held) : Held → ℕ → Type 0 where
  again : (j : ℕ) → j < count h → (item h j).sheet ≡ way.go x.sheet c → (item h j).vector ≡ map (deriv c) x.vector → Moved way x c h h j
  fresh : (y : Item) → y.sheet ≡ way.go x.sheet c → y.vector ≡ map (deriv c) x.vector → y.text ≡ x.text ++ (c ∷ [])
      → count h < way.limit → number_in h.items y ≡ count h → Moved way x c h (added h y) (count h)

-- no item is for the pair
abbrev pub Unmet : Held → Item → Type 0
Unmet h y = number_in h.items y ≡ count h

module _ (way : Way) (place : ℕ) (h : Held) (y : Item) where
  -- the four ways on, each with its tests: held already; refused by the limit of items; refused by Pool; new
  pub data Came : Step → Type 0 where
    held : (j : ℕ) → j < count h → Pair (item h j) y → j ≡ number_in h.items y → Came (reached h j)
    full : Unmet h y → way.limit ≤ count h → Came (stopped (way.full place))
    over : Unmet h y → count h < way.limit → way.terms < length (added h y).pool → Came (stopped (Pool place))
    new : Unmet h y → count h < way.limit → length (added h y).pool ≤ way.terms → Came (reached (added h y) (count h))

  pub came : Came (come way place h y)
  unfolding come
  came = go (ltb (number_in h.items y) (count h)) refl (leb way.limit (count h)) refl (ltb way.terms (length (added h y).pool)) refl
    where
      unmet : ltb (number_in h.items y) (count h) ≡ false → Unmet h y
      unmet e = omega (arith, ltb-false (number_in h.items y) (count h) e, number_most h.items y)

      go : (b : Bool) → ltb (number_in h.items y) (count h) ≡ b → (d : Bool) → leb way.limit (count h) ≡ d → (f : Bool)
          → ltb way.terms (length (added h y).pool) ≡ f
          → Came (cond b (reached h (number_in h.items y)) (cond d (stopped (way.full place)) (cond f (stopped (Pool place)) (reached (added h y) (count h)))))
      go true e d g f k = let l = ltb-true (number_in h.items y) (count h) e in held (number_in h.items y) l (number_pair h.items y l) refl
      go false e true g f k = full (unmet e) (leb-true way.limit (count h) g)
      go false e false g true k = over (unmet e) (leb-false way.limit (count h) g) (ltb-true way.terms (length (added h y).pool) k)
      go false e false g false k = new (unmet e) (leb-false way.limit (count h) g) (ltb-false way.terms (length (added h y).pool) k)

pub reached_held : {h h' : Held} {j j' : ℕ} → reached h j ≡ reached h' j' → h ≡ h'
reached_held e = cc

pub reached_number : {h h' : Held} {j j' : ℕ} → reached h j ≡ reached h' j' → j ≡ j'
reached_number e = cc

pub no_reach : {r : Refusal} {h : Held} {j : ℕ} → stopped r ≡ reached h j → ⊥
no_reach e = let z : ◌≡◌ {A = ℕ} 0 1 = cc in omega arith

module _ (way : Way) (i : ℕ) (h : Held) (x : Item) (c : ℕ) where
  moved_by : {p : ℕ} (y : Item) → y.sheet ≡ way.go x.sheet c → y.vector ≡ map (deriv c) x.vector → y.text ≡ x.text ++ (c ∷ [])
      → {s : Step} → Came way p h y s → (h' : Held) (j : ℕ) → s ≡ reached h' j → Moved way x c h h' j
  moved_by y p q t (held k l m n) h' j e =
      rw (← reached_held e, ← reached_number e) (again k l (m.same_sheet ∙ p) (m.same_vector_lem ∙ q))
  moved_by y p q t (full n l) h' j e = absurd (no_reach e)
  moved_by y p q t (over n l o) h' j e = absurd (no_reach e)
  moved_by y p q t (new n l o) h' j e = rw (← reached_held e, ← reached_number e) (fresh y p q t l n)

  come_moved : (v : Vector) → Is v (map (deriv c) x.vector) → item h i ≡ x → (h' : Held) (j : ℕ) → come_by way i h c v ≡ reached h' j → Moved way x c h h' j
  come_moved TooLong d f h' j e = absurd (no_reach e)
  come_moved (Terms v) d f h' j e =
      let y = after way (item h i) c v in
      moved_by y (ap (λ (z : Item). way.go z.sheet c) f) d (ap (λ (z : Item). z.text ++ (c ∷ [])) f) (came way (way.told h.items i) h y) h' j e

pub step_moved : (way : Way) (i : ℕ) (h : Held) (c : ℕ) (h' : Held) (j : ℕ) → step way i h c ≡ reached h' j → Moved way (item h i) c h h' j
unfolding step
step_moved way i h c h' j e = come_moved way i h (item h i) c (derived c (item h i).vector) (derived_is c (item h i).vector) refl h' j e

-- a step that is no refusal took a derivative that fits
abbrev pub Fits : ℕ → List Re → Type 0
Fits c v = derived c v ≡ Terms (map (deriv c) v)

pub step_fits : (way : Way) (i : ℕ) (h : Held) (c : ℕ) (h' : Held) (j : ℕ) → step way i h c ≡ reached h' j → Fits c (item h i).vector
unfolding step
step_fits way i h c h' j e = go (derived c (item h i).vector) (derived_is c (item h i).vector) e
  where
    go : (d : Vector) → Is d (map (deriv c) (item h i).vector) → come_by way i h c d ≡ reached h' j → d ≡ Terms (map (deriv c) (item h i).vector)
    go TooLong p f = absurd (no_reach f)
    go (Terms v) p f = ap Terms p
