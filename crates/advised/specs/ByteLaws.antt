-- The bytes that could stand behind bytes that begin some rightly typed text: those with which they still begin one.
-- A byte that the answer calls wrong there begins none, since no text goes on with it; of any other byte some text does.
use Rattle.std.specs.Prelude.{ℕ, suc, ◌+◌, ◌≤◌, ◌<◌, ◌≡◌, Bool, List, [], ◌∷◌, ◌++◌, drop}
use Rattle.std.proofs.Common.{arith, subst, ◌∙◌, append_assoc, append-nil, length-append, take-append-drop}
use Rattle.std.proofs.Math.Decide.{dec_lt}
use Rattle.std.proofs.Math.Path.{refl, sym, ap}
use Rattle.std.proofs.Math.Bool.{true, false, not}
use Rattle.std.proofs.Math.Dec.{eqb}
use Rattle.std.proofs.Math.ListN.{length, take}
use Rattle.std.proofs.Math.Seq.{take_all}
use Rattle.std.proofs.lemmas.List.{take-append-le}
use borrow.Author.Tests.{eqb-true, eqb-false, not-true}
use Rattle.number.specs.declared.Refusal.TheVariants.{Typed}
use Rattle.number.specs.Refused.{Outcome}
use Rattle.number.specs.Refused.Outcome.{refuses}
use Rattle.meaning.specs.Re.{Text}
use Rattle.typed.specs.Lines.{Line, RightlyTyped, WrongAt}
use Rattle.typed.specs.Scan.{Reading}
use Rattle.typed.specs.Scan.Reading.{typed, wrong}
use Rattle.typed.specs.LineReader.{read_lines}
use Rattle.typed.specs.Calls.{book_bytes}
use Rattle.typed.specs.Bought.{OneOf}
use Rattle.typed.specs.Bought.OneOf.{a_book, out_of_range, wrongly_typed}
use Rattle.typed.specs.AnswerLaws.{when_wrong}
use Rattle.typed.proofs.Main.{the_typing, the_wrong_byte, the_answers}
use Rattle.advised.specs.Advice.{wrong_at, could_stand}
use Rattle.advised.specs.Bought.{Begins}

rightly_as : {v w : Text} → v ≡ w → RightlyTyped v → RightlyTyped w
rightly_as h r = subst RightlyTyped h r

told_wrong : (n : ℕ) {x : Outcome (List ℕ)} → OneOf x → wrong_at n x ≡ true → x ≡ refuses (Typed n)
told_wrong n (a_book b) e = let z : false ≡ true = e in absurd (let z : ◌≡◌ {A = ℕ} 0 1 = cc in omega arith)
told_wrong n (out_of_range p) e = let z : false ≡ true = e in absurd (let z : ◌≡◌ {A = ℕ} 0 1 = cc in omega arith)
told_wrong n (wrongly_typed q) e = ap (λ p. refuses (Typed p)) (eqb-true q n e)

module _ (before : Text) (c : ℕ) where
  abbrev more : Text
  more = before ++ (c ∷ [])

  long : length more ≡ length before + 1
  long = omega (arith, length-append before (c ∷ []))

  -- what is wrong before the last byte is wrong for every text that begins with the bytes before it
  not_earlier : (q : ℕ) → q < length before → Begins before → WrongAt more q → ⊥
  not_earlier q h b a =
      let front : take (suc q) more ≡ take (suc q) before = take-append-le (suc q) before (c ∷ []) (omega arith) in
      let whole : before ++ b.rest ≡ take (suc q) more ++ (drop (suc q) before ++ b.rest) =
      ap (λ w. w ++ b.rest) (sym (take-append-drop (suc q) before) ∙ ap (λ w. w ++ drop (suc q) before) (sym front)) ∙
      append_assoc (take (suc q) more) (drop (suc q) before) b.rest in
      a.no_other (omega (arith, long)) (drop (suc q) before ++ b.rest) (rightly_as whole b.goes_on)

  pub could_begins : Begins before → could_stand before c ≡ true → Begins more
  unfolding could_stand
  could_begins b e = by_reading (read_lines more) refl
    where
      by_place : (q : ℕ) → book_bytes more ≡ refuses (Typed q) → WrongAt more q → Begins more
      by_place q f a =
          let there : eqb q (length before) ≡ false = sym (ap (wrong_at (length before)) f) ∙ not-true (wrong_at (length before) (book_bytes more)) e in
          elim (dec_lt q (length before)) [
            | yes h ↦ absurd (not_earlier q h b a)
            | no n ↦
                let other : q ≡ length before → ⊥ = eqb-false q (length before) there in
                let past : length more ≤ q = elim (dec_lt (length before) q) [ yes h ↦ omega (arith, long) | no m ↦ absurd (other (omega arith)) ] in
                record { rest = a.rest; goes_on = rightly_as (ap (λ w. w ++ a.rest) (take_all q more past)) a.goes_on }
          ]

      by_reading : (x : Reading (List Line)) → read_lines more ≡ x → Begins more
      by_reading (typed ls) f =
          record { rest = []; goes_on = rightly_as (sym (append-nil more)) (record { lines = ls; spells = (the_typing more ls).0 f }) }
      by_reading (wrong q) f = by_place q (when_wrong more q f) ((the_wrong_byte more q).0 (when_wrong more q f))

  pub begins_could : Begins more → could_stand before c ≡ true
  unfolding could_stand
  begins_could b = by_flag (wrong_at (length before) (book_bytes more)) refl
    where
      by_flag : (f : Bool) → wrong_at (length before) (book_bytes more) ≡ f → not (wrong_at (length before) (book_bytes more)) ≡ true
      by_flag false e = ap not e
      by_flag true e =
          let a : WrongAt more (length before) = (the_wrong_byte more (length before)).0 (told_wrong (length before) (the_answers more) e) in
          let whole : take (suc (length before)) more ≡ more = take_all (suc (length before)) more (omega (arith, long)) in
          absurd (a.no_other (omega (arith, long)) b.rest (rightly_as (ap (λ w. w ++ b.rest) (sym whole)) b.goes_on))

-- what stands before a byte that is wrong begins a rightly typed text
pub before_wrong : (text : Text) (p : ℕ) → book_bytes text ≡ refuses (Typed p) → Begins (take p text)
before_wrong text p e = let a = (the_wrong_byte text p).0 e in record { rest = a.rest; goes_on = a.goes_on }
