-- Laws of answers, whatever is read: the code's answers told as the paper's, and what an answer says of the reading that led to it.
-- The laws of the readers, and the proofs of the code, cite these.
use Rattle.std.specs.Prelude.{ℕ, ◌≡◌, refl, Bool, true, false, Result, Ok, Err}
use Rattle.std.proofs.Common.{sym, ap, ◌∙◌}
use Rattle.number.specs.declared.Refusal.{Refusal}
use Rattle.number.specs.Refused.{Answer, Outcome}
use Rattle.number.specs.Refused.Answer.{got, refused}
use Rattle.number.specs.Refused.Outcome.{gives, refuses}
use Rattle.number.specs.Reading.{Reader, onward, refuse_if, map_answer}
use Rattle.book.specs.Calls.{Size, checked}
use Rattle.book.specs.ReadLawsSteps.{clash}

-- ---- answers of the code, told as the paper's

pub counts_told : {x : Outcome Size} {t : Result (ℕ × ℕ) Refusal} {n sum : ℕ} → checked t ≡ x → t ≡ Ok (n, sum)
    → x ≡ gives (record { rules = n; nodes = sum })
counts_told h e = sym h ∙ ap checked e

pub check_refusal_told : {x : Outcome Size} {t : Result (ℕ × ℕ) Refusal} {q : Refusal} → checked t ≡ x → t ≡ Err q → x ≡ refuses q
check_refusal_told h e = sym h ∙ ap checked e

-- equal answers got the same thing and reached the same place
pub same_thing : {A : Type 0} {x y : A} {n m : ℕ} → ◌≡◌ {A = Answer A} (got x n) (got y m) → x ≡ y
same_thing e = cc

pub same_place : {A : Type 0} {x y : A} {n m : ℕ} → ◌≡◌ {A = Answer A} (got x n) (got y m) → n ≡ m
same_place e = cc

pub got_is : {A : Type 0} {x : Answer A} {y z : A} {n m : ℕ} → x ≡ got y n → y ≡ z → n ≡ m → x ≡ got z m
got_is e f g = cc

-- what an answer was made of
pub record Made {A B : Type 0} (f : A → B) (x : Answer A) (y : B) (next : ℕ) : Type 0 where
  pub from : A
  pub read : x ≡ got from next
  pub makes : f from ≡ y

pub made_of : {A B : Type 0} (f : A → B) (x : Answer A) {y : B} {next : ℕ} → map_answer f x ≡ got y next → Made f x y next
made_of f (got a n) e = record { from = a; read = cc; makes = cc }
made_of f (refused r) e = absurd (clash e)

pub refused_of : {A B : Type 0} (f : A → B) (x : Answer A) {r : Refusal} → map_answer f x ≡ refused r → x ≡ refused r
refused_of f (got a n) e = absurd (clash (sym e))
refused_of f (refused q) e = cc

-- what was read on the way to an answer
pub record Went {A B : Type 0} (x : Answer A) (f : A → Reader B) (y : B) (next : ℕ) : Type 0 where
  pub from : A
  pub mid : ℕ
  pub read : x ≡ got from mid
  pub onto : f from mid ≡ got y next

pub went : {A B : Type 0} (x : Answer A) (f : A → Reader B) {y : B} {next : ℕ} → onward x f ≡ got y next → Went x f y next
went (got a n) f e = record { from = a; mid = n; read = refl; onto = e }
went (refused r) f e = absurd (clash e)

-- a test that refuses nothing was false
pub passed : {B : Type 0} (test : Bool) (r : Refusal) (at : ℕ) (f : Unit {0} → Reader B) {y : B} {next : ℕ}
    → onward (refuse_if test r at) f ≡ got y next → (test ≡ false) × (f tt at ≡ got y next)
passed true r at f e = absurd (clash e)
passed false r at f e = (refl, e)
