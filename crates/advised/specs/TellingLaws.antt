-- Each refusal of a text is told by its own advice: the refusal by the theorems of the crate typed, the advice by the cases of advice_of.
-- A line out of range stands behind whole lines, so that it starts in column 1.
use Rattle.std.specs.Prelude.{ℕ, ◌+◌, ◌≤◌, ◌<◌, ◌≡◌, cond, List, [], ◌∷◌, ◌++◌, eqb, length, take}
use Rattle.std.proofs.Common.{arith, ap, ◌∙◌, append_assoc, length-append, lt-ltb, le-ltb}
use Rattle.std.proofs.Math.Decide.{dec_lt}
use Rattle.std.proofs.Math.Path.{refl, sym, subst}
use Rattle.std.proofs.Math.Seq.{take-append_seam}
use Rattle.number.specs.declared.Refusal.{Refusal}
use Rattle.number.specs.declared.Refusal.TheVariants.{Range, Input, Typed}
use Rattle.number.specs.Limits.{rules_file}
use Rattle.number.specs.Refused.{Outcome}
use Rattle.number.specs.Refused.Outcome.{gives, refuses}
use Rattle.meaning.specs.Re.{Text}
use Rattle.typed.specs.Lines.{Line, SpellsLine, SpellsAll, WrongAt}
use Rattle.typed.specs.Lines.SpellsLine.{line}
use Rattle.typed.specs.Lines.SpellsAll.{no_line as none-spelled, one_more}
use Rattle.typed.specs.Calls.{book_bytes}
use Rattle.typed.specs.Bought.{FirstOut, OutOfRange, OneOf}
use Rattle.typed.specs.Bought.OutOfRange.{no_line, at_line}
use Rattle.typed.specs.Bought.OneOf.{a_book, out_of_range, wrongly_typed}
use Rattle.typed.proofs.Main.{the_wrong_byte, the_range, the_answers}
use Rattle.rules_book.specs.Print.{rules_bytes}
use Rattle.advised.specs.Advice.{newline, last_start, start_at, column_at, no_rule, advice_of}
use Rattle.advised.specs.Bought.{Told}
use Rattle.advised.specs.Bought.Told.{not_read, wrong_byte, no_rule_lem, first_out}
use Rattle.advised.specs.CaseLaws.{typed_inside, range_none, range_inside, unread_told, read_told}

-- the next line starts behind a newline
behind_newline : (start q : ℕ) (u : Text) → last_start start q (u ++ (newline ∷ [])) ≡ q + length u + 1
unfolding last_start
behind_newline start q [] = omega arith
behind_newline start q (c ∷ u) = behind_newline (cond (eqb c newline) (q + 1) start) (q + 1) u ∙ omega arith

-- lines end in a newline, so that what follows them starts a line
next_line : {w : Text} {ls : List Line} → SpellsAll w ls → last_start 0 0 w ≡ length w
unfolding last_start
next_line none-spelled = refl
next_line (one_more {v = front} s (line {v = kind} {w = w} k e)) =
    let u : Text = front ++ (kind ++ (58 ∷ w)) in
    let whole : front ++ (kind ++ (58 ∷ (w ++ (newline ∷ [])))) ≡ u ++ (newline ∷ []) =
    ap (λ x. front ++ x) (sym (append_assoc kind (58 ∷ w) (newline ∷ []))) ∙ sym (append_assoc front (kind ++ (58 ∷ w)) (newline ∷ [])) in
    omega (arith, ap (last_start 0 0) whole, behind_newline 0 0 u, ap length whole, length-append u (newline ∷ []))

some_line : {w : Text} {l : Line} → SpellsLine w l → 1 ≤ length w
some_line (line {v = kind} {w = w} k e) = omega (arith, length-append kind (58 ∷ (w ++ (newline ∷ []))))

module _ (text : Text) (p : ℕ) (f : FirstOut text p) where
  long_enough : p + 1 ≤ length text
  long_enough =
      omega (
        arith,
        ap length f.parts,
        length-append f.front (f.own ++ f.rest),
        length-append f.own f.rest,
        some_line f.itself,
        f.place,
      )

  front_taken : take p text ≡ f.front
  front_taken =
      ap (λ w. take p w) f.parts ∙ ap (λ n. take n (f.front ++ (f.own ++ f.rest))) f.place ∙
      take-append_seam f.front (f.own ++ f.rest)

  first_column : column_at text p ≡ 1
  first_column =
      let start : start_at text p ≡ length f.front = ap (last_start 0 0) front_taken ∙ next_line f.spelled in
      omega (arith, start, f.place)

told_as : {text : Text} {r : Refusal} {q : Refusal} → q ≡ r → Told text q (advice_of text q) → Told text r (advice_of text r)
told_as {text} e t = subst (λ x. Told text x (advice_of text x)) e t

module _ (text : Text) (r : Refusal) where
  told_unread : rules_file < length text → rules_bytes text ≡ refuses r → Told text r (advice_of text r)
  unfolding rules_bytes
  told_unread h e =
      let z : refuses Input ≡ rules_bytes text = sym (rw (lt-ltb rules_file (length text) h) refl) in
      let same : refuses Input ≡ refuses r = z ∙ e in
      let q : Input ≡ r = cc in
      told_as q (subst (Told text Input) (unread_told text Input h) (not_read h))

  told_read : length text ≤ rules_file → book_bytes text ≡ refuses r → Told text r (advice_of text r)
  unfolding no_rule
  told_read h e = by_answer (the_answers text) refl
    where
      typed_told : (p : ℕ) → WrongAt text p → Told text (Typed p) (advice_of text (Typed p))
      typed_told p a =
          subst (Told text (Typed p)) (typed_inside text p a.inside ∙ read_told text (Typed p) h) (wrong_byte a)

      range_told : (p : ℕ) → OutOfRange text p → Told text (Range p) (advice_of text (Range p))
      range_told p (no_line t) =
          subst (Told text (Range 0)) (range_none text 0 (ap length t) refl ∙ read_told text (Range 0) h) (no_rule_lem t)
      range_told p (at_line f) =
          let l = long_enough text p f in
          subst (Told text (Range p)) (range_inside text p (λ z. omega arith) (omega arith) ∙ read_told text (Range p) h)
          (first_out f (first_column text p f))

      by_answer : {x : Outcome (List ℕ)} → OneOf x → book_bytes text ≡ x → Told text r (advice_of text r)
      by_answer (a_book b) f = let z : gives b ≡ refuses r = sym f ∙ e in absurd (let z : ◌≡◌ {A = ℕ} 0 1 = cc in omega arith)
      by_answer (out_of_range p) f =
          let z : ◌≡◌ {A = Outcome (List ℕ)} (refuses (Range p)) (refuses r) = sym f ∙ e in
          let same : Range p ≡ r = cc in
          told_as same (range_told p ((the_range text p).0 f))
      by_answer (wrongly_typed p) f =
          let z : ◌≡◌ {A = Outcome (List ℕ)} (refuses (Typed p)) (refuses r) = sym f ∙ e in
          let same : Typed p ≡ r = cc in
          told_as same (typed_told p ((the_wrong_byte text p).0 f))

pub refusal_told : (text : Text) (r : Refusal) → rules_bytes text ≡ refuses r → Told text r (advice_of text r)
unfolding rules_bytes
refusal_told text r e =
    elim (dec_lt rules_file (length text)) [
      | yes h ↦ told_unread text r h e
      | no n ↦
          let fits : length text ≤ rules_file = omega arith in
          told_read text r fits (rw (le-ltb rules_file (length text) fits) at e)
    ]
