-- A walk with wider limits goes as the narrower one does, until that is refused by a limit: so what was answered stays as it was.
-- The two differ in nothing but how many items and terms they may hold.
use Prim.Native.Nat.{ℕ, zero, suc, ◌+◌, ◌≤◌}
use Rattle.std.proofs.Common.{arith, sym, ap, ◌∙◌, le-ltb}
use Rattle.std.specs.Prelude.{◌≡◌, Bool, true, false, cond, ltb}
use Rattle.std.proofs.Math.Path.{refl}
use mathlib.Core.List.{List, [], ◌∷◌}
use Rattle.number.specs.declared.Refusal.{Refusal}
use Rattle.number.specs.declared.Refusal.TheVariants.{Long, Pool}
use Rattle.number.specs.Limits.{bytes}
use Rattle.number.specs.Refused.{number, Outcome}
use Rattle.number.specs.Refused.Outcome.{gives, refuses}
use Rattle.meaning.specs.Re.{Re}
use Rattle.walk.specs.Vectors.{Vector, derived, normalised}
use Rattle.walk.specs.Vectors.Vector.{TooLong, Terms}
use Rattle.walk.specs.Walk.{Item, Held, nothing_held, Step, Way, added, come, after, come_by, step, Walked, prepend, row, rows, begin_by, on_from, walk_from}
use Rattle.walk.specs.Walk.Step.{stopped, reached}
use Rattle.walk.specs.Walk.Walked.{halted, walked}
use Rattle.walk.specs.StepLaws.{item, count, Came, came, added_count}
use Rattle.walk.specs.StepLaws.Came.{held, full, over, new}

-- the way with other limits
abbrev pub widened : Way → ℕ → ℕ → Way
widened way limit terms = record { go = way.go; limit = limit; terms = terms; full = way.full; told = way.told }

-- the refusals that wider limits can lift
pub data Lifted (way : Way) : Refusal → Type 0 where
  items : (place : ℕ) → Lifted way (way.full place)
  pool : (place : ℕ) → Lifted way (Pool place)

-- Long is none of them
pub long_stays : (way : Way) (at : ℕ) → ((place : ℕ) → number (way.full place) ≡ 6 → ⊥) → Lifted way (Long at) → ⊥
long_stays way at other l = go l refl
  where
    go : {r : Refusal} → Lifted way r → r ≡ Long at → ⊥
    go (items place) e = other place (ap number e)
    go (pool place) e = let z : ◌≡◌ {A = ℕ} 7 6 = ap number e in omega arith

module _ (way : Way) where
  -- a step, or a walk, beside that of the wider way: both go on alike, both are refused alike, or a limit refused the first
  data StepWider : Step → Step → Type 0 where
    goes : (h : Held) (j : ℕ) → count h ≤ way.limit → StepWider (reached h j) (reached h j)
    stays : (r : Refusal) → StepWider (stopped r) (stopped r)
    lifted : {r : Refusal} {s : Step} → Lifted way r → StepWider (stopped r) s

  pub data WalkWider : Walked → Walked → Type 0 where
    goes : (h : Held) (js : List ℕ) → count h ≤ way.limit → WalkWider (walked h js) (walked h js)
    stays : (r : Refusal) → WalkWider (halted r) (halted r)
    lifted : {r : Refusal} {x : Walked} → Lifted way r → WalkWider (halted r) x

  prepend_wider : (js : List ℕ) {x y : Walked} → WalkWider x y → WalkWider (prepend js x) (prepend js y)
  prepend_wider js (goes h ks l) = goes h _ l
  prepend_wider js (stays r) = stays r
  prepend_wider js (lifted l) = lifted l

module _ (way : Way) (limit terms : ℕ) (more : way.limit ≤ limit) (larger : way.terms ≤ terms) where
  abbrev wide : Way
  wide = widened way limit terms

  come_wider : (place : ℕ) (h : Held) (y : Item) → count h ≤ way.limit → StepWider way (come way place h y) (come wide place h y)
  come_wider place h y few = go (came way place h y) (came wide place h y)
    where
      go : {s t : Step} → Came way place h y s → Came wide place h y t → StepWider way s t
      go (held j l p n) (held k m q o) = let e : j ≡ k = n ∙ sym o in rw (← e) (goes h j few)
      go (held j l p n) (full u m) = absurd (omega arith)
      go (held j l p n) (over u m o) = absurd (omega arith)
      go (held j l p n) (new u m o) = absurd (omega arith)
      go (full u l) t = lifted (items place)
      go (over u l m) t = lifted (pool place)
      go (new u l m) (held k n q o) = absurd (omega arith)
      go (new u l m) (full v n) = absurd (omega arith)
      go (new u l m) (over v n o) = absurd (omega arith)
      go (new u l m) (new v n o) = goes (added h y) (count h) (omega (arith, added_count h y))

  step_wider : (i : ℕ) (h : Held) (c : ℕ) → count h ≤ way.limit → StepWider way (step way i h c) (step wide i h c)
  unfolding step
  step_wider i h c few = go (derived c (item h i).vector)
    where
      go : (v : Vector) → StepWider way (come_by way i h c v) (come_by wide i h c v)
      go TooLong = stays _
      go (Terms v) = come_wider (way.told h.items i) h (after way (item h i) c v) few

  row_wider : (i k c : ℕ) (h : Held) → count h ≤ way.limit → WalkWider way (row way i k c h) (row wide i k c h)
  unfolding row
  row_wider i zero c h few = goes h [] few
  row_wider i (suc k) c h few = go (λ g l. row_wider i k (suc c) g l) (step_wider i h c few)
    where
      go : ((g : Held) → count g ≤ way.limit → WalkWider way (row way i k (suc c) g) (row wide i k (suc c) g)) → {s t : Step} → StepWider way s t
          → WalkWider way (elim s [ stopped r ↦ halted r | reached g j ↦ prepend (j ∷ []) (row way i k (suc c) g) ])
          (elim t [ stopped r ↦ halted r | reached g j ↦ prepend (j ∷ []) (row wide i k (suc c) g) ])
      go rest (goes g j l) = prepend_wider way (j ∷ []) (rest g l)
      go rest (stays r) = stays r
      go rest (lifted l) = lifted l

  -- the rows of the narrower walk are enough for all its items, so that the wider one makes no more
  rows_done : (k i : ℕ) (h : Held) → count h ≤ i → rows wide k i h ≡ walked h []
  unfolding rows
  rows_done zero i h l = refl
  rows_done (suc k) i h l = rw (le-ltb i (count h) l)

  rows_wider : (k m i : ℕ) (h : Held) → k + i ≡ way.limit → k ≤ m → count h ≤ way.limit → WalkWider way (rows way k i h) (rows wide m i h)
  unfolding rows
  rows_wider zero m i h e l few = rw (rows_done m i h (omega arith)) (goes h [] few)
  rows_wider (suc k) zero i h e l few = absurd (omega arith)
  rows_wider (suc k) (suc m) i h e l few =
      tested (λ g n. rows_wider k m (suc i) g (omega arith) (omega arith) n) (ltb i (count h))
    where
      Rest : Type 0
      Rest = (g : Held) → count g ≤ way.limit → WalkWider way (rows way k (suc i) g) (rows wide m (suc i) g)

      rowed : Rest → {x y : Walked} → WalkWider way x y
          → WalkWider way (elim x [ halted r ↦ halted r | walked g js ↦ prepend js (rows way k (suc i) g) ])
          (elim y [ halted r ↦ halted r | walked g js ↦ prepend js (rows wide m (suc i) g) ])
      rowed rest (goes g js n) = prepend_wider way js (rest g n)
      rowed rest (stays r) = stays r
      rowed rest (lifted n) = lifted n

      tested : Rest → (b : Bool)
          → WalkWider way (cond b (elim (row way i bytes 0 h) [ halted r ↦ halted r | walked g js ↦ prepend js (rows way k (suc i) g) ]) (walked h []))
          (cond b (elim (row wide i bytes 0 h) [ halted r ↦ halted r | walked g js ↦ prepend js (rows wide m (suc i) g) ]) (walked h []))
      tested rest true = rowed rest (row_wider i bytes 0 h few)
      tested rest false = goes h [] few

  pub walk_wider : (rs : List Re) → WalkWider way (walk_from way rs) (walk_from wide rs)
  unfolding walk_from
  walk_wider rs = go (begin (normalised rs))
    where
      begin : (v : Vector) → StepWider way (begin_by way v) (begin_by wide v)
      begin TooLong = stays _
      begin (Terms v) = come_wider 0 nothing_held (record { sheet = 0; vector = v; text = [] }) (omega arith)

      go : {s t : Step} → StepWider way s t → WalkWider way (on_from way s) (on_from wide t)
      go (goes h j l) = rows_wider way.limit limit 0 h (omega arith) more l
      go (stays r) = stays r
      go (lifted l) = lifted l

  -- ---- what is made of a walk that was not refused

  module _ {A : Type 0} (f : Walked → Outcome A) (refuse : (r : Refusal) → f (halted r) ≡ refuses r) (rs : List Re) where
    no_gift : (r : Refusal) (a : A) → ◌≡◌ {A = Outcome A} (refuses r) (gives a) → ⊥
    no_gift r a e = let z : ◌≡◌ {A = ℕ} 0 1 = cc in omega arith

    -- an answer stays
    pub wider_gives : (a : A) → f (walk_from way rs) ≡ gives a → f (walk_from wide rs) ≡ gives a
    wider_gives a = go (walk_wider rs)
      where
        go : {x y : Walked} → WalkWider way x y → f x ≡ gives a → f y ≡ gives a
        go (goes h js l) e = e
        go (stays r) e = e
        go (lifted {r} l) e = absurd (no_gift r a (sym (refuse r) ∙ e))

    -- and so does a refusal that no limit lifts
    pub wider_refuses : (q : Refusal) → (Lifted way q → ⊥) → f (walk_from way rs) ≡ refuses q → f (walk_from wide rs) ≡ refuses q
    wider_refuses q fast = go (walk_wider rs)
      where
        go : {x y : Walked} → WalkWider way x y → f x ≡ refuses q → f y ≡ refuses q
        go (goes h js l) e = e
        go (stays r) e = e
        go (lifted {r} l) e = let same : r ≡ q = cc (sym (refuse r) ∙ e) in absurd (fast (rw (← same) l))
