-- Laws of going over bytes: none, one, one span after another; and readings that begin with such a span.
-- Also what each byte is to the byte-by-byte reader outside escapes and names.
use Rattle.std.specs.Prelude.{ℕ, suc, ◌+◌, ◌<◌, ◌≤◌, ◌≡◌, refl, true, false, ◌||◌, List, [], ◌∷◌, ◌++◌, eqb, length, get_or, take, drop}
use Rattle.std.proofs.Common.{arith, sym, ap, ◌∙◌, take-append-drop, take-take, length-take-le, eqb-true}
use Rattle.std.proofs.Math.Option.{Option}
use Rattle.std.proofs.Math.Option.Option.{none, some}
use Rattle.std.proofs.Math.Seq.{slice, slice_empty, slice-cons}
use Rattle.std.proofs.lemmas.List.{drop-append-le}
use Rattle.number.specs.Branch.{by_cond}
use Rattle.typed.specs.Exp.{Exp}
use Rattle.typed.specs.Spells.{bare}
use Rattle.typed.specs.Reader.{Key, Mark, Frame, State, Step, key, shut, shut_in, barred, marks, by_key, step, onward, runs, ended}
use Rattle.typed.specs.Reader.Key.{shuts, bar, mark, other}
use Rattle.typed.specs.Reader.Mark.{many, more, perhaps}
use Rattle.typed.specs.Reader.Frame.{bared, held}
use Rattle.typed.specs.Reader.Mode.{plain}
use Rattle.typed.specs.Reader.State.{at}
use Rattle.typed.specs.Reader.Step.{wrong, go}
use Rattle.typed.proofs.SpelledIsRead.{runs_append}
use Rattle.typed.specs.TestLaws.{or_false}
use Rattle.names.specs.Bytes.{byte_at, starting, marking}
use Rattle.names.specs.ByteLaws.{byte_inside}
use Rattle.expression.specs.Reads.{Read, wrong_at, Goes, Reads, Due}
use Rattle.expression.specs.Reads.Reads.{reads, stops}
use Rattle.expression.specs.Reads.Due.{outermost, after_bar, not_shut, goes_on}

-- ---- spans

pub slice_join : (a b c : ℕ) (text : List ℕ) → a ≤ b → b ≤ c → c ≤ length text → slice a b text ++ slice b c text ≡ slice a c text
slice_join a b c text l m h =
    sym (drop-append-le a (take b text) (slice b c text) (omega (arith, length-take-le b text (omega arith))))
    ∙ ap (λ (w : List ℕ). drop a (w ++ slice b c text)) (sym (take-take b c text m))
    ∙ ap (drop a) (take-append-drop b (take c text))

pub slice_one : (p : ℕ) (text : List ℕ) → p < length text → slice p (p + 1) text ≡ byte_at text p ∷ []
slice_one p text h =
    let z : suc p ≡ p + 1 = omega arith in
    slice-cons p (p + 1) text 0 (omega arith) (omega arith)
    ∙ ap (λ (w : List ℕ). get_or text p 0 ∷ w) (ap (λ (n : ℕ). slice n (p + 1) text) z ∙ slice_empty (p + 1) text)
    ∙ ap (λ (c : ℕ). c ∷ []) (byte_inside text p h)

pub goes_none : (text : List ℕ) (p : ℕ) (s : State) → p ≤ length text → Goes text p p s s
unfolding runs
goes_none text p s h = record { started = omega arith; inside = h; over = ap (runs (go s)) (slice_empty p text) }

pub goes_one : (text : List ℕ) (p c : ℕ) (s u : State) → p < length text → byte_at text p ≡ c → step s c ≡ go u → Goes text p (p + 1) s u
unfolding runs onward
goes_one text p c s u h e k =
    record {
      started = omega arith;
      inside = omega arith;
      over = ap (runs (go s)) (slice_one p text h) ∙ ap (step s) e ∙ k;
    }

pub goes_then : {text : List ℕ} {p q r : ℕ} {s u v : State} → Goes text p q s u → Goes text q r u v → Goes text p r s v
goes_then {text} {p} {q} {r} {s} {u} a b =
    record {
      started = omega (arith, a.started, b.started);
      inside = b.inside;
      over = ap (runs (go s)) (sym (slice_join p q r text a.started b.started b.inside))
          ∙ runs_append (go s) (slice p q text) (slice q r text) ∙ ap (λ (x : Step). runs x (slice q r text)) a.over ∙ b.over;
    }

-- ---- readings

module _ {text cells : List ℕ} {p top : ℕ} {s : State} {T : Exp → State → Type 0} {N : ℕ → Type 0} where
  -- a reading that begins further on
  pub reads_after : {q : ℕ} {u : State} {r : Read} {cells' : List ℕ} → Goes text p q s u → Reads text cells q top u T N r cells'
      → Reads text cells p top s T N r cells'
  reads_after g (reads e v h t n a) = reads e v (goes_then g h) t n a
  reads_after g (stops v h z) = stops v (goes_then g h) z

  -- a wrong byte is wrong whatever would have come after
  pub still_wrong : {T' : Exp → State → Type 0} {N' : ℕ → Type 0} {q : ℕ} {c₁ : List ℕ} (c₂ : List ℕ)
      → Reads text cells p top s T N (wrong_at q) c₁ → Reads text cells p top s T' N' (wrong_at q) c₂
  still_wrong c₂ (stops u g h) = stops u g h

-- ---- what a byte is

pub no_both : true ≡ false → ⊥
no_both e = let z : ◌≡◌ {A = ℕ} 0 1 = cc in omega arith

-- no atom begins with it, so it is none of these
record NoAtom (c : ℕ) : Type 0 where
  opening : eqb c 40 ≡ false
  naming : eqb c 60 ≡ false
  escaping : eqb c 92 ≡ false
  dotted : eqb c 46 ≡ false
  not_bare : bare c ≡ false

no_atom : (c : ℕ) → starting c ≡ false → NoAtom c
unfolding starting
no_atom c h =
    let i = or_false (eqb c 40) (eqb c 60 || (eqb c 92 || (eqb c 46 || bare c))) h in
    let j = or_false (eqb c 60) (eqb c 92 || (eqb c 46 || bare c)) i.1 in
    let k = or_false (eqb c 92) (eqb c 46 || bare c) j.1 in
    let l = or_false (eqb c 46) (bare c) k.1 in
    record { opening = i.0; naming = j.0; escaping = k.0; dotted = l.0; not_bare = l.1 }

-- the key of a byte that begins no atom, by the tests that are left
pub late_key : (c : ℕ) → starting c ≡ false → (P : Key → Type 0) → (c ≡ 41 → P shuts) → (c ≡ 124 → P bar)
    → (marking c ≡ true → (m : Mark) → P (mark m)) → P other → P (key c)
unfolding key marking
late_key c h P a b m o = let n = no_atom c h in
    rw (n.not_bare, n.dotted, n.escaping, n.naming, n.opening)
    (by_cond P (eqb c 41) (λ z. a (eqb-true c 41 z)) λ _.
    by_cond P (eqb c 124) (λ z. b (eqb-true c 124 z)) λ _.
    by_cond P (eqb c 42) (λ z. m (rw z refl) many) λ y.
    by_cond P (eqb c 43) (λ z. m (rw (y, z) refl) more) λ x.
    by_cond P (eqb c 63) (λ z. m (rw (y, x, z) refl) perhaps) λ _. o)

-- where a part is due, a byte that begins none is wrong
shut_due : (c : ℕ) (b : Option Exp) (fs : List Frame) (n : ℕ) → Due c (bared b) fs → starting c ≡ false → c ≡ 41 → shut (bared b) fs n ≡ wrong
unfolding shut shut_in
shut_due c b [] n outermost s z = refl
shut_due c (some a) [] n after_bar s z = refl
shut_due c (some a) (g ∷ gs) n after_bar s z = refl
shut_due c b fs n (not_shut k) s z = absurd (k z)
shut_due c b fs n (goes_on k) s z = absurd (no_both (sym k ∙ s))

pub due_wrong : (c : ℕ) (f : Frame) (fs : List Frame) (n : ℕ) → Due c f fs → starting c ≡ false → step (at plain f fs n) c ≡ wrong
unfolding step by_key barred marks
due_wrong c (bared b) fs n d s =
    late_key c s (λ (k : Key). by_key k c (bared b) fs n ≡ wrong) (shut_due c b fs n d s) (λ _. refl) (λ _ m. refl) refl
due_wrong c (held b r l) fs n (goes_on k) s = absurd (no_both (sym k ∙ s))

pub due_open : (c : ℕ) (f : Frame) (fs : List Frame) (n : ℕ) → Due c f fs → starting c ≡ false → ended (go (at plain f fs n)) ≡ none
unfolding ended
due_open c (bared b) fs n d s = refl
due_open c (held b r l) fs n (goes_on k) s = absurd (no_both (sym k ∙ s))
