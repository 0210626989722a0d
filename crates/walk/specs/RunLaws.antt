-- A run of bytes that no range tells apart, and that leads the sheet to one state, is one step: the others come to the same number.
-- So a row may be walked run by run, with one derivative for each run.
use Rattle.std.specs.Prelude.{ℕ, zero, suc, ◌+◌, ◌<◌, ◌≤◌, ◌≡◌, Bool, true, false, cond, ◌&&◌, List, [], ◌∷◌, ◌++◌, map, eqb, length, replicate}
use Rattle.std.proofs.Math.Path.{refl, sym, ap, subst}
use Rattle.std.proofs.Common.{◌∙◌, append_assoc, arith}
use borrow.Author.Tests.{lt-ltb}
use Rattle.std.proofs.Math.ListN.{length-append, get_or-append}
use Rattle.number.specs.declared.Refusal.{Refusal}
use Rattle.meaning.specs.Re.{Re}
use Rattle.meaning.specs.Limited.{Fit, deriv_fit}
use Rattle.meaning.specs.Edges.{next_edge_all}
use Rattle.meaning.proofs.EdgeLaws.{row_fit_edge}
use Rattle.walk.specs.Vectors.{Vector, front, derived, same_vector}
use Rattle.walk.specs.Vectors.Vector.{TooLong, Terms}
use Rattle.walk.specs.Walk.{Item, none, Held, same_pair, number_in, Step, Way, added, come, after, come_by, step, Walked, prepend, row}
use Rattle.walk.specs.Walk.Step.{stopped, reached}
use Rattle.walk.specs.Walk.Walked.{halted, walked}
use Rattle.walk.specs.StepLaws.{item, count, same_pair_lem, Came, came, reached_held, reached_number, no_reach}
use Rattle.walk.specs.StepLaws.Came.{held, full, over, new}

-- ---- the vector after another byte of the run is the same

joined : List Fit → Vector
joined [] = Terms []
joined (f ∷ fs) = front f (joined fs)

derived_joined : (c : ℕ) (v : List Re) → derived c v ≡ joined (map (deriv_fit c) v)
unfolding derived joined
derived_joined c [] = refl
derived_joined c (r ∷ rs) = ap (front (deriv_fit c r)) (derived_joined c rs)

pub derived_edge : (c d : ℕ) (v : List Re) → c ≤ d → d < next_edge_all c v → derived d v ≡ derived c v
derived_edge c d v l m = derived_joined d v ∙ ap joined (row_fit_edge c d v l m) ∙ sym (derived_joined c v)

-- ---- the number depends on the pair alone

number_alike : (ys : List Item) (x z : Item) → x.sheet ≡ z.sheet → x.vector ≡ z.vector → number_in ys x ≡ number_in ys z
unfolding number_in
number_alike [] x z p q = refl
number_alike (y ∷ ys) x z p q =
    let e : same_pair y x ≡ same_pair y z = λ i. eqb y.sheet (p i) && same_vector y.vector (q i) in
    λ i. cond (e i) 0 (suc (number_alike ys x z p q i))

number_last : (ys : List Item) (x : Item) → number_in ys x ≡ length ys → number_in (ys ++ (x ∷ [])) x ≡ length ys
unfolding number_in
number_last [] x e = ap (λ (b : Bool). cond b 0 1) (same_pair_lem x x (record { same_sheet = refl; same_vector_lem = refl }))
number_last (y ∷ ys) x e = go (same_pair y x) (number_last ys x) e
  where
    go : (b : Bool) → (number_in ys x ≡ length ys → number_in (ys ++ (x ∷ [])) x ≡ length ys)
        → cond b 0 (suc (number_in ys x)) ≡ suc (length ys) → cond b 0 (suc (number_in (ys ++ (x ∷ [])) x)) ≡ suc (length ys)
    go true ih f = absurd (omega arith)
    go false ih f = ap suc (ih (omega arith))

-- ---- coming to the same pair once more

module _ (way : Way) (place place₁ : ℕ) (h : Held) (x z : Item) (p : x.sheet ≡ z.sheet) (q : x.vector ≡ z.vector) where
  come_once_more : {s : Step} → Came way place h x s → (h₁ : Held) (j : ℕ) → s ≡ reached h₁ j → come way place₁ h₁ z ≡ reached h₁ j
  unfolding come
  come_once_more (held k l m n) h₁ j e =
      let o : number_in h.items z ≡ k = sym (number_alike h.items x z p q) ∙ sym n in
      subst (λ (g : Held). come way place₁ g z ≡ reached g j) (reached_held e)
      (rw (o, lt-ltb k (count h) l) (ap (reached h) (reached_number e)))
  come_once_more (full n l) h₁ j e = absurd (no_reach e)
  come_once_more (over n l u) h₁ j e = absurd (no_reach e)
  come_once_more (new n l u) h₁ j e =
      let o : number_in (added h x).items z ≡ count h = sym (number_alike (added h x).items x z p q) ∙ number_last h.items x n in
      let m : count h < count (added h x) = omega (arith, length-append h.items (x ∷ [])) in
      subst (λ (g : Held). come way place₁ g z ≡ reached g j) (reached_held e)
      (rw (o, lt-ltb (count h) (count (added h x)) m) (ap (reached (added h x)) (reached_number e)))

came_item : (way : Way) (place i : ℕ) (h : Held) (x : Item) {s : Step} → Came way place h x s → (h₁ : Held) (j : ℕ) → s ≡ reached h₁ j → i < count h → item h₁ i ≡ item h i
came_item way place i h x (held k l m n) h₁ j e f = ap (λ (g : Held). item g i) (sym (reached_held e))
came_item way place i h x (full n l) h₁ j e f = absurd (no_reach e)
came_item way place i h x (over n l u) h₁ j e f = absurd (no_reach e)
came_item way place i h x (new n l u) h₁ j e f = ap (λ (g : Held). item g i) (sym (reached_held e)) ∙ get_or-append h.items (x ∷ []) none i f

-- ---- one more byte of the run

module _ (way : Way) (i c d : ℕ) where
  step_again : (h h₁ : Held) (j : ℕ) → i < count h → c ≤ d → d < next_edge_all c (item h i).vector → way.go (item h i).sheet c ≡ way.go (item h i).sheet d
      → step way i h c ≡ reached h₁ j → step way i h₁ d ≡ reached h₁ j
  unfolding step
  step_again h h₁ j l m n g e = go (derived c (item h i).vector) refl e
    where
      go : (v : Vector) → derived c (item h i).vector ≡ v → come_by way i h c v ≡ reached h₁ j → come_by way i h₁ d (derived d (item h₁ i).vector) ≡ reached h₁ j
      go TooLong o f = absurd (no_reach f)
      go (Terms v) o f =
          let x = after way (item h i) c v in
          let s : item h₁ i ≡ item h i = came_item way (way.told h.items i) i h x (came way (way.told h.items i) h x) h₁ j f l in
          let w : derived d (item h₁ i).vector ≡ Terms v = ap (λ (y : Item). derived d y.vector) s ∙ derived_edge c d (item h i).vector m n ∙ o in
          let z = after way (item h₁ i) d v in
          let p : x.sheet ≡ z.sheet = g ∙ ap (λ (y : Item). way.go y.sheet d) (sym s) in
          ap (come_by way i h₁ d) w ∙ come_once_more way (way.told h.items i) (way.told h₁.items i) h x z p refl (came way (way.told h.items i) h x) h₁ j f

-- ---- a whole run

-- every step from byte c on, m of them, stays and comes to j
abbrev pub Stays : Way → ℕ → ℕ → ℕ → Held → ℕ → Type 0
Stays way i m c h j = (a : ℕ) → a < m → step way i h (c + a) ≡ reached h j

prepend_prepend : (js ks : List ℕ) (w : Walked) → prepend js (prepend ks w) ≡ prepend (js ++ ks) w
prepend_prepend js ks (halted r) = refl
prepend_prepend js ks (walked h ls) = ap (walked h) (sym (append_assoc js ks ls))

prepend_none : (w : Walked) → prepend [] w ≡ w
prepend_none (halted r) = refl
prepend_none (walked h ls) = refl

pub row_stays : (way : Way) (i m k c : ℕ) (h : Held) (j : ℕ) → Stays way i m c h j → row way i (m + k) c h ≡ prepend (replicate m j) (row way i k (c + m) h)
unfolding row
row_stays way i zero k c h j f =
    let e : 0 + k ≡ k = omega arith in
    let d : c + 0 ≡ c = omega arith in
    rw (e, d) (sym (prepend_none (row way i k c h)))
row_stays way i (suc m) k c h j f =
    let e : suc m + k ≡ suc (m + k) = omega arith in
    let z : c + 0 ≡ c = omega arith in
    let first : step way i h c ≡ reached h j = subst (λ (x : ℕ). step way i h x ≡ reached h j) z (f 0 (omega arith)) in
    let later : Stays way i m (suc c) h j = λ a l. let y : c + suc a ≡ suc c + a = omega arith in subst (λ (x : ℕ). step way i h x ≡ reached h j) y (f (suc a) (omega arith)) in
    let d : suc c + m ≡ c + suc m = omega arith in
    rw (e, first, row)
    (ap (prepend (j ∷ [])) (row_stays way i m k (suc c) h j later ∙ ap (λ (x : ℕ). prepend (replicate m j) (row way i k x h)) d)
    ∙ prepend_prepend (j ∷ []) (replicate m j) (row way i k (c + suc m) h))

-- the first step of a run, then the others: all come to its number, and the row goes on behind them
pub row_run : (way : Way) (i m k c : ℕ) (h h₁ : Held) (j : ℕ) → i < count h → step way i h c ≡ reached h₁ j
    → ((a : ℕ) → a < m → suc c + a < next_edge_all c (item h i).vector)
    → ((a : ℕ) → a < m → way.go (item h i).sheet c ≡ way.go (item h i).sheet (suc c + a))
    → row way i (suc (m + k)) c h ≡ prepend (replicate (suc m) j) (row way i k (c + suc m) h₁)
unfolding row
row_run way i m k c h h₁ j l e near same =
    let stays : Stays way i m (suc c) h₁ j = λ a b. step_again way i c (suc c + a) h h₁ j l (omega arith) (near a b) (same a b) e in
    let d : suc c + m ≡ c + suc m = omega arith in
    rw (e, row)
    (ap (prepend (j ∷ [])) (row_stays way i m k (suc c) h₁ j stays ∙ ap (λ (x : ℕ). prepend (replicate m j) (row way i k x h₁)) d)
    ∙ prepend_prepend (j ∷ []) (replicate m j) (row way i k (c + suc m) h₁))

-- a step that is refused ends the row
pub row_stops : (way : Way) (i k c : ℕ) (h : Held) (r : Refusal) → step way i h c ≡ stopped r → row way i (suc k) c h ≡ halted r
unfolding row
row_stops way i k c h r e = rw (e, row) refl
