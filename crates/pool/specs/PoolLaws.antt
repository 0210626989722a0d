-- Laws of the pool: equal terms have equal numbers, the top is how many terms there are, and each stands at its number.
-- A pool stays one however the cells above it change, so scratch above it may come and go.
use Rattle.std.specs.Prelude.{ℕ, zero, suc, ◌<◌, ◌≤◌, ◌≡◌, refl, List, [], ◌∷◌, length, get_or}
use Rattle.std.proofs.Common.{arith, sym, ap, ◌∙◌, inl, inr, length-append}
use Rattle.std.proofs.Math.Decide.{dec_lt}
use Rattle.std.proofs.Math.ListN.{get_or-append}
use Rattle.std.proofs.lemmas.List.{get_or_at}
use Rattle.number.specs.Limits.{work_cells}
use Rattle.meaning.specs.Re.{Re}
use Rattle.meaning.specs.Re.Re.{Nothing}
use Rattle.meaning.specs.Tests.{clash}
use Rattle.term.specs.Cells.{term, Sound}
use Rattle.term.specs.CellLaws.{Same, frame, sound_none, sound_same}
use Rattle.walk.specs.Parts.{holds, InPool, Once}
use Rattle.walk.specs.PartsLaws.{held_front, held_last, held_snoc}
use Rattle.pool.specs.Pooled.{terms_of, Pool, Pooled}

-- the top is the number of terms
pub terms_length : (s : List ℕ) (top : ℕ) → length (terms_of s top) ≡ top
unfolding terms_of
terms_length s zero = refl
terms_length s (suc top) = omega (arith, length-append (terms_of s top) (term s top ∷ []), terms_length s top)

-- each stands at its number
pub terms_at_lem : (s : List ℕ) (top i : ℕ) → i < top → get_or (terms_of s top) i Nothing ≡ term s i
unfolding terms_of
terms_at_lem s zero i h = absurd (omega arith)
terms_at_lem s (suc top) i h = elim (dec_lt i top) [
  | yes k ↦ get_or-append (terms_of s top) (term s top ∷ []) Nothing i (omega (arith, terms_length s top)) ∙ terms_at_lem s top i k
  | no k ↦
      let e : top ≡ i = omega arith in
      get_or_at (terms_of s top) (term s top) [] Nothing i (terms_length s top ∙ e) ∙ ap (term s) e
]

-- only cells below top matter
pub terms_same : (s s' : List ℕ) (top : ℕ) → ((i : ℕ) → i < top → term s' i ≡ term s i) → terms_of s' top ≡ terms_of s top
unfolding terms_of
terms_same s s' zero h = refl
terms_same s s' (suc top) h = rw (terms_same s s' top (λ i k. h i (omega arith)), h top (omega arith))

pub terms_frame : (s s' : List ℕ) (top : ℕ) → Sound s top → Same s s' top → terms_of s' top ≡ terms_of s top
terms_frame s s' top ok same = terms_same s s' top (λ i h. frame s s' top i ok same h)

-- a term that stands below top
pub record Stands (s : List ℕ) (top : ℕ) (x : Re) : Type 0 where
  pub at : ℕ
  pub within : at < top
  pub is : term s at ≡ x

pub held_stands : (s : List ℕ) (top : ℕ) (x : Re) → InPool (terms_of s top) x → Stands s top x
unfolding terms_of holds
held_stands s zero x h = absurd (clash h refl)
held_stands s (suc top) x h = elim (held_snoc (terms_of s top) (term s top) x h) [
  | inl k ↦ let t = held_stands s top x k in record { at = t.at; within = omega (arith, t.within); is = t.is }
  | inr e ↦ record { at = top; within = omega arith; is = e }
]

pub term_held_below : (s : List ℕ) (top i : ℕ) → i < top → InPool (terms_of s top) (term s i)
unfolding terms_of
term_held_below s zero i h = absurd (omega arith)
term_held_below s (suc top) i h = elim (dec_lt i top) [
  | yes k ↦ held_front (terms_of s top) (term s top ∷ []) (term s i) (term_held_below s top i k)
  | no k ↦ let e : i ≡ top = omega arith in rw e (held_last (terms_of s top) (term s top))
]

-- ---- pools

-- equal terms have equal numbers
pub same_number : (s : List ℕ) (top : ℕ) {terms : List Re} (i j : ℕ) → Pool s top terms → i < top → j < top → term s i ≡ term s j → i ≡ j
same_number s top i j p h k e = elim (dec_lt i j) [
  | yes l ↦ absurd (p.once i j l k e)
  | no l ↦ elim (dec_lt j i) [ yes m ↦ absurd (p.once j i m h (sym e)) | no m ↦ omega arith ]
]

-- a pool by another name of its terms
pub pool_as : {s : List ℕ} {top : ℕ} {terms : List Re} (terms' : List Re) → Pool s top terms → terms ≡ terms' → Pool s top terms'
pool_as terms' p e = record { sound = p.sound; holds = p.holds ∙ e; once = p.once }

pub pooled : {s : List ℕ} {top : ℕ} {terms : List Re} → Pool s top terms → Pooled s top
pooled p = record { sound = p.sound; holds = refl; once = p.once }

-- in the list no term stands twice either
pub pool_once : {s : List ℕ} {top : ℕ} {terms : List Re} → Pool s top terms → Once terms
pool_once {s} {top} {terms} p = rw (← p.holds) (record { apart = apart })
  where
    apart : (i j : ℕ) → i < j → j < length (terms_of s top) → get_or (terms_of s top) i Nothing ≡ get_or (terms_of s top) j Nothing → ⊥
    apart i j h k e =
        let n = terms_length s top in
        p.once i j h (omega arith) (sym (terms_at_lem s top i (omega arith)) ∙ e ∙ terms_at_lem s top j (omega arith))

-- how many terms, and each at its number
pub pool_length : {s : List ℕ} {top : ℕ} {terms : List Re} → Pool s top terms → length terms ≡ top
pool_length {s} {top} p = ap length (sym p.holds) ∙ terms_length s top

-- a pool in which nothing stands yet
pub pool_none : (s : List ℕ) → length s ≤ work_cells → Pool s 0 []
unfolding terms_of
pool_none s h = record { sound = sound_none s h; holds = refl; once = λ i j l m e. omega arith }

-- a pool whose area is changed from top on only
pub pool_same : {s : List ℕ} {top : ℕ} {terms : List Re} (s' : List ℕ) → Pool s top terms → Same s s' top → length s' ≡ length s → Pool s' top terms
pool_same {s} {top} s' p same e =
    let t : (i : ℕ) → i < top → term s' i ≡ term s i = λ i h. frame s s' top i p.sound same h in
    record {
      sound = sound_same s' p.sound same e;
      holds = terms_frame s s' top p.sound same ∙ p.holds;
      once = λ i j h k d. p.once i j h k (sym (t i (omega arith)) ∙ d ∙ t j k);
    }
