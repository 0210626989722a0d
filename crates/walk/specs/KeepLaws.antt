-- What every step keeps, the whole walk keeps: one induction over the walk, for what is held and for its refusals.
-- By it the pool of a finished walk holds the parts of every held vector, each once, and no more than the limit.
use Prim.Native.Nat.{ℕ, zero, suc, ◌+◌, ◌<◌, ◌≤◌}
use Rattle.std.specs.Prelude.{◌≡◌, Bool, true, false, cond, List, [], ◌∷◌, ltb, length}
use Rattle.std.proofs.Math.Path.{refl, subst}
use Rattle.std.proofs.Common.{inl, inr, ltb-true}
use native.Mathlib.Omega.{arith}
use Rattle.number.specs.declared.Refusal.{Refusal}
use Rattle.number.specs.Limits.{bytes}
use Rattle.meaning.specs.Re.{Re}
use Rattle.meaning.specs.Tests.{clash}
use Rattle.walk.specs.Vectors.{Vector, derived, normalised}
use Rattle.walk.specs.Vectors.Vector.{TooLong, Terms}
use Rattle.walk.specs.Parts.{holds, PartOf, Once, InPool}
use Rattle.walk.specs.PartsLaws.{vector_hold, vector_once}
use Rattle.walk.specs.Walk.{Item, Held, nothing_held, Step, Way, added, after, come_by, step, Walked, prepend, row, rows, begin_by, on_from, walk_from}
use Rattle.walk.specs.Walk.Step.{stopped, reached}
use Rattle.walk.specs.Walk.Walked.{halted, walked}
use Rattle.walk.specs.StepLaws.{item, count, added_old, added_new, added_count, each_added, Moved, step_moved, Came, came}
use Rattle.walk.specs.StepLaws.Moved.{again, fresh}
use Rattle.walk.specs.StepLaws.Came.{held, full, over, new}

-- ---- one induction over the walk

-- what a step or a walk comes to: a refusal of this kind, or what is held is of that kind
abbrev pub StepIs : (Held → Type 0) → (Refusal → Type 0) → Step → Type 0
StepIs P R (stopped r) = R r
StepIs P R (reached h j) = P h

abbrev pub WalkIs : (Held → Type 0) → (Refusal → Type 0) → Walked → Type 0
WalkIs P R (halted r) = R r
WalkIs P R (walked h js) = P h

moved_up : {way : Way} {x : Item} {c : ℕ} {h h₁ : Held} {j : ℕ} → Moved way x c h h₁ j → count h ≤ count h₁
moved_up (again j l p q) = omega arith
moved_up {way} {x} {c} {h} (fresh y p q t l n) = omega (arith, added_count h y)

prepend_is : (P : Held → Type 0) (R : Refusal → Type 0) (js : List ℕ) (w : Walked) → WalkIs P R w → WalkIs P R (prepend js w)
prepend_is P R js (halted r) m = m
prepend_is P R js (walked h ks) m = m

-- P may speak of the item that is being left and of its next byte: each step keeps it, and a row that is done begins the next one
module _ (way : Way) (P : ℕ → ℕ → Held → Type 0) (R : Refusal → Type 0)
    (each : (i c : ℕ) (h : Held) → i < count h → c < bytes → P i c h → StepIs (P i (suc c)) R (step way i h c))
    (turn : (i : ℕ) (h : Held) → P i bytes h → P (suc i) 0 h) (E : Held → Type 0) (end : (i : ℕ) (h : Held) → P i 0 h → E h) where
  row_is : (i k c : ℕ) (h : Held) → i < count h → c + k ≡ bytes → P i c h → WalkIs (P i bytes) R (row way i k c h)
  unfolding row
  row_is i zero c h l b p = let e : c ≡ bytes = omega arith in subst (λ (x : ℕ). P i x h) e p
  row_is i (suc k) c h l b p = go (step way i h c) refl (each i c h l (omega arith) p) (row_is i k (suc c))
    where
      go : (s : Step) → step way i h c ≡ s → StepIs (P i (suc c)) R s
          → ((g : Held) → i < count g → suc c + k ≡ bytes → P i (suc c) g → WalkIs (P i bytes) R (row way i k (suc c) g))
          → WalkIs (P i bytes) R (elim s as (λ _. Walked) [ stopped r ↦ halted r | reached g j ↦ prepend (j ∷ []) (row way i k (suc c) g) ])
      go (stopped r) e q f = q
      go (reached g j) e q f =
          prepend_is (P i bytes) R (j ∷ []) (row way i k (suc c) g) (f g (omega (arith, moved_up (step_moved way i h c g j e))) (omega arith) q)

  rows_is : (k i : ℕ) (h : Held) → P i 0 h → WalkIs E R (rows way k i h)
  unfolding rows
  rows_is zero i h p = end i h p
  rows_is (suc k) i h p = go (ltb i (count h)) refl (row way i bytes 0 h) (λ l. row_is i bytes 0 h l (omega arith) p) (rows_is k (suc i))
    where
      on : (w : Walked) → WalkIs (P i bytes) R w → ((g : Held) → P (suc i) 0 g → WalkIs E R (rows way k (suc i) g))
          → WalkIs E R (elim w as (λ _. Walked) [ halted r ↦ halted r | walked g js ↦ prepend js (rows way k (suc i) g) ])
      on (halted r) q f = q
      on (walked g js) q f = prepend_is E R js (rows way k (suc i) g) (f g (turn i g q))

      go : (b : Bool) → ltb i (count h) ≡ b → (w : Walked) → (i < count h → WalkIs (P i bytes) R w)
          → ((g : Held) → P (suc i) 0 g → WalkIs E R (rows way k (suc i) g))
          → WalkIs E R (cond b (elim w as (λ _. Walked) [ halted r ↦ halted r | walked g js ↦ prepend js (rows way k (suc i) g) ]) (walked h []))
      go true e w q f = on w (q (ltb-true i (count h) e)) f
      go false e w q f = end i h p

  on_is : (s : Step) → StepIs (P 0 0) R s → WalkIs E R (on_from way s)
  on_is (stopped r) q = q
  on_is (reached h j) q = rows_is way.limit 0 h q

  pub walk_is : (rs : List Re) → StepIs (P 0 0) R (begin_by way (normalised rs)) → WalkIs E R (walk_from way rs)
  unfolding walk_from
  walk_is rs q = on_is (begin_by way (normalised rs)) q

-- what each step keeps wherever the walk stands
pub walk_keeps : (way : Way) (P : Held → Type 0) (R : Refusal → Type 0)
    → ((i c : ℕ) (h : Held) → i < count h → c < bytes → P h → StepIs P R (step way i h c)) → (rs : List Re) → StepIs P R (begin_by way (normalised rs))
    → WalkIs P R (walk_from way rs)
walk_keeps way P R each = walk_is way (λ i c. P) R each (λ i h p. p) P (λ i h p. p)

-- ---- the pool of what is held

-- so many terms at most, each once: the parts of the held vectors
pub record Pooled (terms : ℕ) (h : Held) : Type 0 where
  pub once : Once h.pool
  pub low : length h.pool ≤ terms
  pub parts : (k : ℕ) → k < count h → (x : Re) → PartOf x (item h k).vector → InPool h.pool x
  pub only : (x : Re) → InPool h.pool x → (k : ℕ) × (k < count h) × PartOf x (item h k).vector

pub none_held : (x : Re) → InPool [] x → ⊥
unfolding holds
none_held x q = clash q refl

pub once_none : Once []
once_none = record { apart = λ i j l k. absurd (omega arith) }

pub pooled_none : (terms : ℕ) → Pooled terms nothing_held
pooled_none terms = record {
  once = once_none;
  low = omega arith;
  parts = λ k l. absurd (omega arith);
  only = λ x q. absurd (none_held x q);
}

-- where an item more fits, its parts are pooled too
pub pooled_added : {terms : ℕ} (h : Held) (y : Item) → Pooled terms h → length (added h y).pool ≤ terms → Pooled terms (added h y)
pooled_added h y p l = record {
  once = vector_once h.pool y.vector p.once;
  low = l;
  parts =
      each_added h y (λ k z. (x : Re) → PartOf x z.vector → InPool (added h y).pool x)
      (λ k m x q. (vector_hold h.pool y.vector x).1 (inl (p.parts k m x q)))
      (λ x q. (vector_hold h.pool y.vector x).1 (inr q));
  only = λ x q. elim ((vector_hold h.pool y.vector x).0 q) [
    | inl r ↦
        let (k, m, o) = p.only x r in
        (k, omega (arith, added_count h y), rw (added_old h y k m) o)
    | inr r ↦ (count h, omega (arith, added_count h y), rw (added_new h y) r)
  ];
}

pooled_come : (way : Way) (place : ℕ) (h : Held) (y : Item) → Pooled way.terms h → {s : Step} → Came way place h y s → StepIs (Pooled way.terms) (λ r. Unit {0}) s
pooled_come way place h y p (held j l q n) = p
pooled_come way place h y p (full n l) = tt
pooled_come way place h y p (over n l o) = tt
pooled_come way place h y p (new n l o) = pooled_added h y p o

pub pooled_step : (way : Way) (i c : ℕ) (h : Held) → i < count h → c < bytes → Pooled way.terms h → StepIs (Pooled way.terms) (λ r. Unit {0}) (step way i h c)
unfolding step
pooled_step way i c h l b p = go (derived c (item h i).vector)
  where
    go : (v : Vector) → StepIs (Pooled way.terms) (λ r. Unit {0}) (come_by way i h c v)
    go TooLong = tt
    go (Terms v) = let y = after way (item h i) c v in pooled_come way _ h y p (came way (way.told h.items i) h y)

pub walk_pooled : (way : Way) (rs : List Re) (h : Held) (js : List ℕ) → walk_from way rs ≡ walked h js → Pooled way.terms h
walk_pooled way rs h js e = subst (WalkIs (Pooled way.terms) (λ r. Unit {0})) e (walk_keeps way (Pooled way.terms) (λ r. Unit {0}) (pooled_step way) rs (go (normalised rs)))
  where
    go : (v : Vector) → StepIs (Pooled way.terms) (λ r. Unit {0}) (begin_by way v)
    go TooLong = tt
    go (Terms v) = pooled_come way 0 nothing_held _ (pooled_none way.terms) (came way 0 nothing_held _)
