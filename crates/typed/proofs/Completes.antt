-- Every state that a text leads to can be completed, by a text that is written down here.
-- So a reader that stops at a byte stops at the first that no rightly typed text could have there.
use Rattle.std.specs.Prelude.{ℕ, suc, ◌+◌, ◌*◌, ◌≡◌, refl, List, [], ◌∷◌, ◌++◌}
use Rattle.std.proofs.Common.{sym, ap, ◌∙◌}
use Rattle.std.proofs.Math.Option.{Option}
use Rattle.std.proofs.Math.Option.Option.{none, some}
use Rattle.meaning.specs.Re.{Text}
use Rattle.typed.specs.Exp.{Exp}
use Rattle.typed.specs.Exp.Exp.{byte, set}
use Rattle.typed.specs.Spells.{between, bare, hex}
use Rattle.typed.specs.Reader.{Frame, State, Step, cat_on, made, put, key, shut_in, shut, by_key, first_digit, last_digit, step, onward, runs, ended}
use Rattle.typed.specs.Reader.Frame.{bared, held}
use Rattle.typed.specs.Reader.Mode.{plain, escape, half, naming}
use Rattle.typed.specs.Reader.State.{at}
use Rattle.typed.specs.Reader.Step.{go}
use Rattle.typed.proofs.SpelledIsRead.{runs_append, name_read}
use Rattle.typed.proofs.ReadIsSpelled.{Held, Begun}
use Rattle.typed.proofs.ReadIsSpelled.Held.{in_plain, in_escape, in_half, in_name}

-- some text ends the expression
pub record Completed (x : Step) : Type 0 where
  pub with : Text
  pub as_exp : Exp
  pub is : ended (runs x with) ≡ some as_exp

-- read t first, then what completes
first : (x : Step) {y : Step} (t : Text) → runs x t ≡ y → Completed y → Completed x
first x t e c = record { with = t ++ c.with; as_exp = c.as_exp; is = ap ended (runs_append x t c.with ∙ ap (λ s. runs s c.with) e) ∙ c.is }

shut_read : (b r : Option Exp) (e : Exp) (g : Frame) (gs : List Frame) (n : ℕ)
    → runs (go (at plain (held b r e) (g ∷ gs) n)) (41 ∷ []) ≡ go (at plain (put (made b r e) g) gs (suc n))
unfolding between bare key shut shut_in by_key step onward runs
shut_read b r e g gs n = refl

-- an item, and then a parenthesis for each that is open
ends : (b r : Option Exp) (e : Exp) (n : ℕ) → Completed (go (at plain (held b r e) [] n))
unfolding runs ended
ends b r e n = record { with = []; as_exp = made b r e; is = refl }

closes : (fs : List Frame) (b r : Option Exp) (e : Exp) (n : ℕ) → Completed (go (at plain (held b r e) fs n))
closes [] b r e n = ends b r e n
closes (bared c ∷ fs) b r e n = first _ (41 ∷ []) (shut_read b r e (bared c) fs n) (closes fs c none (made b r e) (suc n))
closes (held c s l ∷ fs) b r e n = first _ (41 ∷ []) (shut_read b r e (held c s l) fs n) (closes fs c (some (cat_on s l)) (made b r e) (suc n))

put_closes : (e : Exp) (f : Frame) (fs : List Frame) (n : ℕ) → Completed (go (at plain (put e f) fs n))
put_closes e (bared b) fs n = closes fs b none e n
put_closes e (held b r l) fs n = closes fs b (some (cat_on r l)) e n

letter_read : (f : Frame) (fs : List Frame) (n : ℕ) → runs (go (at plain f fs n)) (97 ∷ []) ≡ go (at plain (put (byte 97) f) fs n)
unfolding between bare key by_key step onward runs
letter_read f fs n = refl

digit_read : (x : ℕ) (f : Frame) (fs : List Frame) (n : ℕ) → runs (go (at (half x) f fs n)) (48 ∷ []) ≡ go (at plain (put (byte (x * 16 + 0)) f) fs n)
unfolding between hex last_digit step onward runs
digit_read x f fs n = refl

digits_read : (f : Frame) (fs : List Frame) (n : ℕ) → runs (go (at escape f fs n)) (48 ∷ 48 ∷ []) ≡ go (at plain (put (byte 0) f) fs n)
unfolding between hex first_digit last_digit step onward runs
digits_read f fs n = refl

name_rest : (f : Frame) (fs : List Frame) (n : ℕ) (u : Text) (b : Begun u) → runs (go (at plain f fs n)) (60 ∷ u) ≡ go (at (naming u) f fs n)
    → runs (go (at (naming u) f fs n)) b.rest ≡ go (at plain (put (set b.of) f) fs n)
name_rest f fs n u b e =
    sym (ap (λ x. runs x b.rest) e) ∙ sym (runs_append (go (at plain f fs n)) (60 ∷ u) b.rest)
    ∙ ap (λ t. runs (go (at plain f fs n)) (60 ∷ t)) b.is ∙ name_read n b.of f fs

pub completes : {w : Text} {s : State} → Held w s → Completed (go s)
completes (in_plain {n = n} {f = f} {fs = fs} k) = first _ (97 ∷ []) (letter_read f fs n) (put_closes (byte 97) f fs n)
completes (in_escape {n = n} {f = f} {fs = fs} k) = first _ (48 ∷ 48 ∷ []) (digits_read f fs n) (put_closes (byte 0) f fs n)
completes (in_half {n = n} {x = x} g {f = f} {fs = fs} k h) = first _ (48 ∷ []) (digit_read x f fs n) (put_closes (byte (x * 16 + 0)) f fs n)
completes (in_name {n = n} {u = u} {f = f} {fs = fs} k b e) = first _ b.rest (name_rest f fs n u b e) (put_closes (set b.of) f fs n)
