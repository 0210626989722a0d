-- Laws of readers that take one byte a step: an answer is the state after the whole text, and what it means that one stops at a byte.
-- They hold of any such reader; LineLaws uses them for the reader of typed rules.
use Prim.Native.Nat.{ℕ, suc, ◌+◌, ◌≤◌, ◌<◌}
use Rattle.std.proofs.Common.{arith, ◌∙◌}
use Rattle.std.proofs.Math.Path.{◌≡◌, refl, sym, ap}
use Rattle.std.proofs.Math.Option.{Option}
use Rattle.std.proofs.Math.Option.Option.{none, some}
use mathlib.Core.List.{[], ◌∷◌, ◌++◌}
use Rattle.std.specs.Prelude.{length, take}
use Rattle.meaning.specs.Re.{Text}
use Rattle.typed.specs.Scan.{Reading, at_end, scan, then, after, accepted}
use Rattle.typed.specs.Scan.Reading.{typed, wrong}

module _ {S : Type 0} (turn : S → ℕ → Option S) where
  pub after_append : (x : Option S) (v w : Text) → after turn x (v ++ w) ≡ after turn (after turn x v) w
  unfolding after
  after_append x [] w = refl
  after_append x (c ∷ v) w = after_append (then turn x c) v w

  pub after_none : (t : Text) → after turn none t ≡ none
  unfolding after
  after_none [] = refl
  after_none (c ∷ t) = after_none t

end_typed : {A : Type 0} (p : ℕ) (o : Option A) (a : A) → at_end p o ≡ typed a → o ≡ some a
end_typed p none a e = let z : wrong p ≡ typed a = e in cc
end_typed p (some b) a e = let z : typed b ≡ typed a = e in cc

end_wrong : {A : Type 0} (p q : ℕ) (o : Option A) → at_end p o ≡ wrong q → (o ≡ none) × (p ≡ q)
end_wrong p q none e = (refl, cc)
end_wrong {A} p q (some b) e = let z : ◌≡◌ {A = ℕ} 0 1 = (let y : typed b ≡ wrong q = e in cc) in absurd (omega arith)

-- where it stops: after so many bytes, in a state that was reached; the next byte leads nowhere, or there is none and the state is not the end
pub record Stops {S A : Type 0} (turn : S → ℕ → Option S) (accept : S → Option A) (s : S) (t : Text) (k : ℕ) : Type 0 where
  pub state : S
  pub inside : k ≤ length t
  pub reached : after turn (some s) (take k t) ≡ some state
  pub at_byte : k < length t → after turn (some s) (take (suc k) t) ≡ none
  pub at_end_lem : k ≡ length t → accept state ≡ none

module _ {S A : Type 0} (turn : S → ℕ → Option S) (accept : S → Option A) where
  pub scan_typed : (p : ℕ) (s : S) (t : Text) (a : A) → scan turn accept p s t ≡ typed a → accepted accept (after turn (some s) t) ≡ some a
  unfolding scan after
  scan_typed p s [] a e = end_typed p (accept s) a e
  scan_typed p s (c ∷ t) a e = go (turn s c) refl e (λ u. scan_typed (p + 1) u t a)
    where
      go : (x : Option S) → turn s c ≡ x → elim x [ none ↦ wrong p | some u ↦ scan turn accept (p + 1) u t ] ≡ typed a
          → ((u : S) → scan turn accept (p + 1) u t ≡ typed a → accepted accept (after turn (some u) t) ≡ some a)
          → accepted accept (after turn (turn s c) t) ≡ some a
      go none h e ih = let z : wrong p ≡ typed a = e in cc
      go (some u) h e ih = rw h (ih u e)

  pub typed_scan : (p : ℕ) (s : S) (t : Text) (a : A) → accepted accept (after turn (some s) t) ≡ some a → scan turn accept p s t ≡ typed a
  unfolding scan after
  typed_scan p s [] a e = ap (at_end p) e
  typed_scan p s (c ∷ t) a e = go (turn s c) refl (λ u. typed_scan (p + 1) u t a)
    where
      go : (x : Option S) → turn s c ≡ x → ((u : S) → accepted accept (after turn (some u) t) ≡ some a → scan turn accept (p + 1) u t ≡ typed a)
          → elim x [ none ↦ wrong p | some u ↦ scan turn accept (p + 1) u t ] ≡ typed a
      go none h ih = let z : accepted accept none ≡ some a = sym (ap (accepted accept) (ap (λ x. after turn x t) h ∙ after_none turn t)) ∙ e in cc
      go (some u) h ih = ih u (sym (ap (λ x. accepted accept (after turn x t)) h) ∙ e)

-- a byte further on
stops_on : {S A : Type 0} (turn : S → ℕ → Option S) (accept : S → Option A) (s u : S) (c : ℕ) (t : Text) (k : ℕ) → turn s c ≡ some u
    → Stops turn accept u t k → Stops turn accept s (c ∷ t) (suc k)
unfolding after
stops_on turn accept s u c t k h r =
    let l = r.inside in
    record {
      state = r.state;
      inside = omega arith;
      reached = ap (λ x. after turn x (take k t)) h ∙ r.reached;
      at_byte = λ m. ap (λ x. after turn x (take (suc k) t)) h ∙ r.at_byte (omega arith);
      at_end_lem = λ e. r.at_end_lem (omega arith);
    }

stops_here : {S A : Type 0} (turn : S → ℕ → Option S) (accept : S → Option A) (s : S) (c : ℕ) (t : Text) → turn s c ≡ none → Stops turn accept s (c ∷ t) 0
unfolding after
stops_here turn accept s c t h = record { state = s; inside = omega arith; reached = refl; at_byte = λ _. h; at_end_lem = λ e. absurd (omega arith) }

stops_last : {S A : Type 0} (turn : S → ℕ → Option S) (accept : S → Option A) (s : S) → accept s ≡ none → Stops turn accept s [] 0
unfolding after
stops_last turn accept s h = record { state = s; inside = omega arith; reached = refl; at_byte = λ m. absurd (omega arith); at_end_lem = λ e. h }

pub record StopsAt {S A : Type 0} (turn : S → ℕ → Option S) (accept : S → Option A) (p : ℕ) (s : S) (t : Text) (q : ℕ) : Type 0 where
  pub count : ℕ
  pub is : p + count ≡ q
  pub stops : Stops turn accept s t count

module _ {S A : Type 0} (turn : S → ℕ → Option S) (accept : S → Option A) where
  pub scan_wrong : (p : ℕ) (s : S) (t : Text) (q : ℕ) → scan turn accept p s t ≡ wrong q → StopsAt turn accept p s t q
  unfolding scan
  scan_wrong p s [] q e =
      let h = end_wrong p q (accept s) e in
      record { count = 0; is = omega (arith, h.1); stops = stops_last turn accept s h.0 }
  scan_wrong p s (c ∷ t) q e = go (turn s c) refl e (λ u. scan_wrong (p + 1) u t q)
    where
      go : (x : Option S) → turn s c ≡ x → ◌≡◌ {A = Reading A} (elim x [ none ↦ wrong p | some u ↦ scan turn accept (p + 1) u t ]) (wrong q)
          → ((u : S) → scan turn accept (p + 1) u t ≡ wrong q → StopsAt turn accept (p + 1) u t q) → StopsAt turn accept p s (c ∷ t) q
      go none h e ih =
          let z : p ≡ q = (let y : ◌≡◌ {A = Reading A} (wrong p) (wrong q) = e in cc) in
          record { count = 0; is = omega arith; stops = stops_here turn accept s c t h }
      go (some u) h e ih =
          let r = ih u e in
          record { count = suc r.count; is = omega (arith, r.is); stops = stops_on turn accept s u c t r.count h r.stops }
