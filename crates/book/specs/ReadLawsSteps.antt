-- Steps that every law of a reader takes: on past an answer, and on past bytes that stand at a place.
-- Nothing here knows of books; what is proved of a reader is a claim about its answer, the refused one included.
use Rattle.std.specs.Prelude.{ℕ, ◌+◌, ◌≤◌, ◌≡◌, refl, ◌⊎◌, Bool, true, false, not, cond, List, [], ◌++◌, eqb, length, drop}
use Rattle.std.proofs.Common.{arith, sym, ap, ◌∙◌, inl, inr, append_assoc, length-append}
use Rattle.number.specs.declared.Refusal.{Refusal}
use Rattle.number.specs.Refused.{Answer, number, place}
use Rattle.number.specs.Refused.Answer.{got, refused}
use Rattle.number.specs.Numbers.{Bytes, several, read_number, write_number, field}
use Rattle.number.specs.Reading.{Reader, onward}
use Rattle.number.specs.Branch.{by_cond}
use Rattle.number.specs.Lists.{drop_past}
use Rattle.number.proofs.NumberLaws.{Way, read_way, written_read, field_read}
use Rattle.number.proofs.NumberLaws.Way.{none, one, half, two, most, three, over}
use Rattle.number.proofs.FaultLaws.{OfNumber, of_fault, field_refusal, refused_fault}
use Rattle.meaning.specs.Tests.{clash as untrue}
use Rattle.number.proofs.FaultLaws.OfNumber.{short, runs_on, padded, outside}

-- a refusal is not something got
pub clash : {A : Type 0} {r : Refusal} {x : A} {next : ℕ} → ◌≡◌ {A = Answer A} (refused r) (got x next) → ⊥
clash e = let z : ◌≡◌ {A = ℕ} 0 1 = cc in omega arith

-- what a test says where its contrary is true, and where it is false
pub not-true : (b : Bool) → not b ≡ true → b ≡ false
not-true true e = absurd (untrue e refl)
not-true false e = refl

pub not-false : (b : Bool) → not b ≡ false → b ≡ true
not-false true e = refl
not-false false e = absurd (untrue refl e)

-- ---- claims about answers

-- what is got fulfils P, with the place after it; a refusal fulfils R
abbrev pub ByAnswer : {A : Type 0} → (A → ℕ → Type 0) → (Refusal → Type 0) → Answer A → Type 0
ByAnswer P R (got x next) = P x next
ByAnswer P R (refused r) = R r

-- on past an answer, past a test, past the end
pub on : {A B : Type 0} (P : A → ℕ → Type 0) (Q : B → ℕ → Type 0) (R : Refusal → Type 0) (m : Answer A) (f : A → Reader B)
    → ByAnswer P R m → ((x : A) (next : ℕ) → P x next → ByAnswer Q R (f x next)) → ByAnswer Q R (onward m f)
on P Q R (got x next) f h k = k x next h
on P Q R (refused r) f h k = h

pub past_test : {B : Type 0} (Q : B → ℕ → Type 0) (R : Refusal → Type 0) (test : Bool) (r : Refusal) (at : ℕ) (n : Reader B)
    → R r → (test ≡ false → ByAnswer Q R (n at)) → ByAnswer Q R (onward (cond test (refused r) (got tt at)) (λ (_ : Unit {0}). n))
past_test Q R true r at n h k = h
past_test Q R false r at n h k = k refl

-- ---- bytes at a place

-- so many bytes stand at a place, and the place after them is within the file
pub record Stands (file : List ℕ) (at : ℕ) (w : List ℕ) (next : ℕ) : Type 0 where
  pub stands : drop at file ≡ w ++ drop next file
  pub after : next ≡ at + length w
  pub inside : next ≤ length file

pub stands_none : (file : List ℕ) (at : ℕ) → at ≤ length file → Stands file at [] at
stands_none file at h = record { stands = refl; after = omega arith; inside = h }

pub stands_more : (file : List ℕ) {at mid next : ℕ} (v w : List ℕ) → Stands file at v mid → Stands file mid w next
    → Stands file at (v ++ w) next
stands_more file v w s t =
    record {
      stands = s.stands ∙ ap (λ (x : List ℕ). v ++ x) t.stands ∙ sym (append_assoc v w _);
      after = omega (arith, s.after, t.after, length-append v w);
      inside = t.inside;
    }

-- what reading some bytes tells: of every file the place after them, and of a file of bytes that they stand there
pub record Read (file : List ℕ) (at : ℕ) (w : List ℕ) (next : ℕ) : Type 0 where
  pub inside : next ≤ length file
  pub stands : Bytes file → Stands file at w next

pub read_none : (file : List ℕ) (at : ℕ) → at ≤ length file → Read file at [] at
read_none file at h = record { inside = h; stands = λ all. stands_none file at h }

pub read_more : (file : List ℕ) {at mid next : ℕ} (v w : List ℕ) → Read file at v mid → Read file mid w next → Read file at (v ++ w) next
read_more file v w s t =
    record { inside = t.inside; stands = λ all. stands_more file v w (s.stands all) (t.stands all) }

-- of two runs the first stands there, and the second past it
pub first : (file : List ℕ) (at : ℕ) (v w t : List ℕ) → drop at file ≡ (v ++ w) ++ t → drop at file ≡ v ++ (w ++ t)
first file at v w t e = e ∙ append_assoc v w t

pub second : (file : List ℕ) (at : ℕ) (v w t : List ℕ) → drop at file ≡ (v ++ w) ++ t → drop (at + length v) file ≡ w ++ t
second file at v w t e = drop_past file at v (w ++ t) (first file at v w t e)

-- the place past both
pub past_both : (at : ℕ) (v w : List ℕ) → at + length v + length w ≡ at + length (v ++ w)
past_both at v w = omega (arith, length-append v w)

-- ---- a field

-- a refusal of a file: one of the first five or Padded, at a place within the file or at its end
pub record Fault (file : List ℕ) (r : Refusal) : Type 0 where
  pub row : ((1 ≤ number r) × (number r ≤ 5)) ⊎ (number r ≡ 15)
  pub near : place r ≤ length file

-- what a field tells
pub record Field (file : List ℕ) (lo hi at n next : ℕ) : Type 0 where
  pub low : lo ≤ n
  pub high : n ≤ hi
  pub read : Read file at (write_number n) next

several_inside : (at last m k n next : ℕ) → several at last (got m k) ≡ got n next → next ≡ k
unfolding several
several_inside at last m k n next =
    by_cond (λ (x : Answer ℕ). x ≡ got n next → next ≡ k) (eqb last 0) (λ z e. absurd (clash e)) (λ z e. cc)

number_inside : (s : List ℕ) (at n next : ℕ) → read_number s at ≡ got n next → next ≤ length s
number_inside s at n next = go (read_way s at)
  where
    go : {x : Answer ℕ} {g : ℕ} → Way s at x g → x ≡ got n next → next ≤ length s
    go (none h) e = absurd (clash e)
    go (one a h f k) e = let place : next ≡ at + 1 = cc in omega arith
    go (half a h f k h1) e = absurd (clash e)
    go (two a b h1 f g k l) e = let place : next ≡ at + 2 = several_inside at b _ _ n next e in omega arith
    go (most a b h1 f g k l h2) e = absurd (clash e)
    go (three a b c h2 f g i k l m) e = let place : next ≡ at + 3 = several_inside at c _ _ n next e in omega arith
    go (over a b c h2 f g i k l m) e = absurd (clash e)

fault_of : {file : List ℕ} {at : ℕ} {r : Refusal} → at ≤ length file → OfNumber at r → Fault file r
fault_of h short = record { row = inl (omega arith, omega arith); near = h }
fault_of h runs_on = record { row = inl (omega arith, omega arith); near = h }
fault_of h padded = record { row = inr refl; near = h }
fault_of h outside = record { row = inl (omega arith, omega arith); near = h }

number_read : (file : List ℕ) (at n next : ℕ) → read_number file at ≡ got n next → Read file at (write_number n) next
number_read file at n next e =
    record {
      inside = number_inside file at n next e;
      stands = λ all. let w = written_read file at n next all e in record { stands = w.stands; after = w.after; inside = w.inside };
    }

field_holds : (file : List ℕ) (lo hi at : ℕ) → at ≤ length file
    → ByAnswer (λ n next. Field file lo hi at n next) (Fault file) (field file lo hi at)
field_holds file lo hi at h = go (field file lo hi at) refl
  where
    go : (x : Answer ℕ) → field file lo hi at ≡ x → ByAnswer (λ n next. Field file lo hi at n next) (Fault file) x
    go (refused r) e = fault_of h (field_refusal file lo hi at r e)
    go (got n next) e =
        let f = field_read file lo hi at n next e in
        record { low = f.low; high = f.high; read = number_read file at n next f.read }

number_holds : (file : List ℕ) (at : ℕ) → at ≤ length file
    → ByAnswer (λ n next. Read file at (write_number n) next) (Fault file) (read_number file at)
number_holds file at h = go (read_number file at) refl
  where
    go : (x : Answer ℕ) → read_number file at ≡ x → ByAnswer (λ n next. Read file at (write_number n) next) (Fault file) x
    go (refused r) e = fault_of h (of_fault (refused_fault file at r e))
    go (got n next) e = number_read file at n next e

-- on past a field, and past any number
pub on_field : {B : Type 0} (Q : B → ℕ → Type 0) (file : List ℕ) (lo hi at : ℕ) (f : ℕ → Reader B) → at ≤ length file
    → ((n next : ℕ) → Field file lo hi at n next → ByAnswer Q (Fault file) (f n next))
    → ByAnswer Q (Fault file) (onward (field file lo hi at) f)
on_field Q file lo hi at f h k = on (Field file lo hi at) Q (Fault file) (field file lo hi at) f (field_holds file lo hi at h) k

pub on_number : {B : Type 0} (Q : B → ℕ → Type 0) (file : List ℕ) (at : ℕ) (f : ℕ → Reader B) → at ≤ length file
    → ((n next : ℕ) → Read file at (write_number n) next → ByAnswer Q (Fault file) (f n next))
    → ByAnswer Q (Fault file) (onward (read_number file at) f)
on_number Q file at f h k = on (λ n. Read file at (write_number n)) Q (Fault file) (read_number file at) f (number_holds file at h) k
