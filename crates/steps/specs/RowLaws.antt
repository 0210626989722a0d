-- How a loop of steps makes up a row, run by run, and a loop of rows the walk: what an invariant says and how one turn keeps it.
-- What was reached so far, in front of what remains, is the whole; a refusal on the way is the whole's.
use Rattle.std.specs.Prelude.{ℕ, zero, suc, ◌+◌, ◌-◌, ◌<◌, ◌≤◌, ◌≡◌, refl, List, [], ◌∷◌, ◌++◌, length, get_or, replicate}
use Rattle.std.proofs.Common.{sym, ap, subst, ◌∙◌, append-nil, append_assoc, arith, lt-ltb, le-ltb, length-append}
use Rattle.std.proofs.lemmas.List.{length-replicate}
use Rattle.std.proofs.Math.ListN.{get_or-append}
use Rattle.number.specs.declared.Refusal.{Refusal}
use Rattle.number.specs.Limits.{bytes}
use Rattle.meaning.specs.Edges.{next_edge_all}
use Rattle.meaning.proofs.EdgeLaws.{edge_all_within}
use Rattle.walk.specs.Walk.{Item, none, Held, Way, step, Walked, prepend, row, rows, on_from}
use Rattle.walk.specs.Walk.Step.{stopped, reached}
use Rattle.walk.specs.Walk.Walked.{halted, walked}
use Rattle.walk.specs.StepLaws.{item, count, Moved, step_moved}
use Rattle.walk.specs.StepLaws.Moved.{again, fresh}
use Rattle.walk.specs.WalkLaws.{Extends}
use Rattle.walk.specs.RunLaws.{row_run, row_stops}
use Rattle.vector.specs.Layout.{sheets_at}
use Rattle.vector.specs.Vectors.{vector_of}
use Rattle.vector.specs.Memory.{numbers_at, item_of, held_of}
use Rattle.vector.specs.MemoryLaws.{items_length, items_at}

prepend_append : (js ks : List ℕ) (w : Walked) → prepend (js ++ ks) w ≡ prepend js (prepend ks w)
prepend_append js ks (halted r) = refl
prepend_append js ks (walked h ls) = ap (walked h) (append_assoc js ks ls)

pub prepend_nothing : (w : Walked) → prepend [] w ≡ w
prepend_nothing (halted r) = refl
prepend_nothing (walked h ls) = refl

-- ---- a step keeps the items that were held

moved_extends : {way : Way} {x : Item} {c : ℕ} {h h₁ : Held} {j : ℕ} → Moved way x c h h₁ j → Extends h h₁
moved_extends (again j l p q) = record { up = omega arith; same = λ k m. refl }
moved_extends {way} {x} {c} {h} (fresh y p q t l n) = record {
  up = omega (arith, length-append h.items (y ∷ []));
  same = λ k m. get_or-append h.items (y ∷ []) none k m;
}

pub step_extends : (way : Way) (i : ℕ) (h : Held) (c : ℕ) (h₁ : Held) (j : ℕ) → step way i h c ≡ reached h₁ j → Extends h h₁
step_extends way i h c h₁ j e = moved_extends (step_moved way i h c h₁ j e)

-- ---- a row, run by run

-- bytes below c were passed with the numbers js, and the whole row comes to w
pub record Along (way : Way) (i c : ℕ) (h : Held) (js : List ℕ) (w : Walked) : Type 0 where
  pub within : c ≤ bytes
  pub passed : length js ≡ c
  pub whole : prepend js (row way i (bytes - c) c h) ≡ w

pub along_first : (way : Way) (i : ℕ) (h : Held) → Along way i 0 h [] (row way i bytes 0 h)
along_first way i h = record { within = omega arith; passed = refl; whole = prepend_nothing (row way i bytes 0 h) }

-- no byte remains
pub along_end : (way : Way) (i c : ℕ) (h : Held) (js : List ℕ) (w : Walked) → Along way i c h js w → bytes ≤ c → w ≡ walked h js
unfolding row
along_end way i c h js w a l =
    let e : bytes - c ≡ 0 = omega (arith, a.within) in
    sym a.whole ∙ ap (λ (k : ℕ). prepend js (row way i k c h)) e ∙ ap (walked h) (append-nil js)

-- a step that is refused ends the row
pub along_stop : (way : Way) (i c : ℕ) (h : Held) (js : List ℕ) (w : Walked) (r : Refusal) → Along way i c h js w → c < bytes
    → step way i h c ≡ stopped r → w ≡ halted r
along_stop way i c h js w r a l e =
    let k : bytes - c ≡ suc (bytes - suc c) = omega arith in
    sym a.whole ∙ ap (λ (m : ℕ). prepend js (row way i m c h)) k ∙ ap (prepend js) (row_stops way i (bytes - suc c) c h r e)

-- a step at byte c is one for the bytes below e too, if they lie before the next edge and lead the sheet to the same state
run_of_steps : (way : Way) (i c e : ℕ) (h h₁ : Held) (j : ℕ) → i < count h → step way i h c ≡ reached h₁ j → c < e
    → e ≤ next_edge_all c (item h i).vector → ((d : ℕ) → c ≤ d → d < e → way.go (item h i).sheet d ≡ way.go (item h i).sheet c)
    → row way i (bytes - c) c h ≡ prepend (replicate (e - c) j) (row way i (bytes - e) e h₁)
run_of_steps way i c e h h₁ j l s m n same =
    let k = edge_all_within c (item h i).vector in
    let p : bytes - c ≡ suc (e - suc c + (bytes - e)) = omega arith in
    let q : suc (e - suc c) ≡ e - c = omega arith in
    let o : c + suc (e - suc c) ≡ e = omega arith in
    ap (λ (x : ℕ). row way i x c h) p
    ∙ row_run way i (e - suc c) (bytes - e) c h h₁ j l s (λ a b. omega arith) (λ a b. sym (same (suc c + a) (omega arith) (omega arith)))
    ∙ ap (λ (x : ℕ). prepend (replicate x j) (row way i (bytes - e) (c + suc (e - suc c)) h₁)) q
    ∙ ap (λ (x : ℕ). prepend (replicate (e - c) j) (row way i (bytes - e) x h₁)) o

pub along_run : (way : Way) (i c e : ℕ) (h h₁ : Held) (j : ℕ) (js : List ℕ) (w : Walked) → Along way i c h js w → i < count h
    → step way i h c ≡ reached h₁ j → c < e → e ≤ next_edge_all c (item h i).vector
    → ((d : ℕ) → c ≤ d → d < e → way.go (item h i).sheet d ≡ way.go (item h i).sheet c) → Along way i e h₁ (js ++ replicate (e - c) j) w
along_run way i c e h h₁ j js w a l s m n same = record {
  within = omega (arith, edge_all_within c (item h i).vector);
  passed = omega (arith, length-append js (replicate (e - c) j), length-replicate (e - c) j, a.passed);
  whole =
      prepend_append js (replicate (e - c) j) (row way i (bytes - e) e h₁) ∙ ap (prepend js) (sym (run_of_steps way i c e h h₁ j l s m n same)) ∙ a.whole;
}

-- ---- the same of the work area, with the item read after the step

module _ (way : Way) (i c : ℕ) (s : List ℕ) (n top count₀ : ℕ) (s' : List ℕ) (top' count' j : ℕ) (inside : i < count₀)
    (went : step way i (held_of s n top count₀) c ≡ reached (held_of s' n top' count') j) where
  extends : Extends (held_of s n top count₀) (held_of s' n top' count')
  extends = step_extends way i (held_of s n top count₀) c (held_of s' n top' count') j went

  within : i < count (held_of s n top count₀)
  within = omega (arith, items_length s n count₀)

  -- it is the item that it was before
  pub item_after : item_of s' n i ≡ item (held_of s n top count₀) i
  item_after =
      sym (items_at s' n count' i (omega (arith, extends.up, items_length s n count₀, items_length s' n count'))) ∙ extends.same i within

  pub run_on : (e : ℕ) (js : List ℕ) (w : Walked) → Along way i c (held_of s n top count₀) js w → c < e
      → e ≤ next_edge_all c (vector_of s' n (numbers_at s' i))
      → ((d : ℕ) → c ≤ d → d < e → way.go (get_or s' (sheets_at + i) 0) d ≡ way.go (get_or s' (sheets_at + i) 0) c)
      → Along way i e (held_of s' n top' count') (js ++ replicate (e - c) j) w
  run_on e js w a m k same =
      along_run way i c e (held_of s n top count₀) (held_of s' n top' count') j js w a within went m
      (subst (λ (x : Item). e ≤ next_edge_all c x.vector) item_after k)
      (subst (λ (x : Item). (d : ℕ) → c ≤ d → d < e → way.go x.sheet d ≡ way.go x.sheet c) item_after same)

-- ---- the walk, row by row

-- the rows of items below i were walked with the numbers js, and the whole walk comes to w
pub record Rowed (way : Way) (i : ℕ) (h : Held) (js : List ℕ) (w : Walked) : Type 0 where
  pub few : i ≤ way.limit
  pub whole : prepend js (rows way (way.limit - i) i h) ≡ w

pub rowed_first : (way : Way) (h : Held) (j : ℕ) → Rowed way 0 h [] (on_from way (reached h j))
rowed_first way h j =
    let e : way.limit - 0 ≡ way.limit = omega arith in
    record { few = omega arith; whole = rw e (prepend_nothing (rows way way.limit 0 h)) }

rows_end : (way : Way) (k i : ℕ) (h : Held) → count h ≤ i → rows way k i h ≡ walked h []
unfolding rows
rows_end way zero i h l = refl
rows_end way (suc k) i h l = rw (le-ltb i (count h) l)

rows_stop : (way : Way) (k i : ℕ) (h : Held) (r : Refusal) → i < count h → row way i bytes 0 h ≡ halted r → rows way (suc k) i h ≡ halted r
unfolding rows
rows_stop way k i h r l e = rw (lt-ltb i (count h) l, e)

rows_more : (way : Way) (k i : ℕ) (h h₁ : Held) (ks : List ℕ) → i < count h → row way i bytes 0 h ≡ walked h₁ ks
    → rows way (suc k) i h ≡ prepend ks (rows way k (suc i) h₁)
unfolding rows
rows_more way k i h h₁ ks l e = rw (lt-ltb i (count h) l, e)

-- no item remains
pub rowed_end : (way : Way) (i : ℕ) (h : Held) (js : List ℕ) (w : Walked) → Rowed way i h js w → count h ≤ i → w ≡ walked h js
rowed_end way i h js w a l = sym a.whole ∙ ap (prepend js) (rows_end way (way.limit - i) i h l) ∙ ap (walked h) (append-nil js)

module _ (way : Way) (i : ℕ) (h : Held) (js : List ℕ) (w : Walked) (a : Rowed way i h js w) (l : i < count h) (m : i < way.limit) where
  left : way.limit - i ≡ suc (way.limit - (i + 1))
  left = omega arith

  -- a row that is refused ends the walk
  pub rowed_stop : (r : Refusal) → row way i bytes 0 h ≡ halted r → w ≡ halted r
  rowed_stop r e =
      sym a.whole ∙ ap (λ (k : ℕ). prepend js (rows way k i h)) left ∙ ap (prepend js) (rows_stop way (way.limit - (i + 1)) i h r l e)

  -- one row more
  pub rowed_next : (h₁ : Held) (ks : List ℕ) → row way i bytes 0 h ≡ walked h₁ ks → Rowed way (i + 1) h₁ (js ++ ks) w
  rowed_next h₁ ks e =
      let n : i + 1 ≡ suc i = omega arith in
      record {
        few = omega arith;
        whole =
            prepend_append js ks (rows way (way.limit - (i + 1)) (i + 1) h₁)
            ∙ ap (λ (x : ℕ). prepend js (prepend ks (rows way (way.limit - (i + 1)) x h₁))) n
            ∙ ap (prepend js) (sym (rows_more way (way.limit - (i + 1)) i h h₁ ks l e))
            ∙ ap (λ (k : ℕ). prepend js (rows way k i h)) (sym left) ∙ a.whole;
      }
