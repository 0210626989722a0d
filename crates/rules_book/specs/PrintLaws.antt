-- Why rules_book keeps its promise: a text that is too long is refused, and one that fits its file is answered as type_rules answers it.
-- The room that is asked for is room enough, and a book that is given lies within it.
use Rattle.std.specs.Prelude.{ℕ, ◌≤◌, ◌<◌, ◌≡◌, refl, List, length, Result, Err}
use Rattle.std.proofs.Common.{arith, sym, ap, ◌∙◌}
use borrow.Author.Tests.{lt-ltb, le-ltb}
use Rattle.number.specs.declared.Refusal.TheVariants.{Input}
use Rattle.number.specs.Limits.{rules_file, typed_area}
use Rattle.number.specs.Refused.{Outcome, row_of}
use Rattle.number.specs.Refused.Outcome.{gives, refuses}
use Rattle.number.specs.declared.Refusal.{Refusal}
use Rattle.table.specs.Calls.{wrote}
use Rattle.typed.specs.Calls.{book_bytes, put_book}
use Rattle.typed.proofs.Main.{the_length}
use Rattle.typing.specs.Promises.{Types}
use Rattle.rules_book.specs.Print.{rules_bytes, MakesBook}

pub too_long : (text out : List ℕ) → rules_file < length text → MakesBook text out (Err Input) out
unfolding rules_bytes
too_long text out h =
    let z = lt-ltb rules_file (length text) h in
    record {
      answer = rw z refl;
      row = rw z refl;
      output = rw z refl;
      inside = λ n e. absurd (let y : ◌≡◌ {A = ℕ} 0 1 = cc in omega arith);
    }

-- what is given is a book's length
short_book : (out : List ℕ) (n : ℕ) (x : Outcome (List ℕ)) → ((bytes : List ℕ) → x ≡ gives bytes → length bytes < typed_area)
    → gives n ≡ (put_book out x).answer → n ≤ typed_area
short_book out n (gives bytes) f e = let z : n ≡ length bytes = cc in omega (arith, f bytes refl)
short_book out n (refuses r) f e = absurd (let y : ◌≡◌ {A = ℕ} 0 1 = cc in omega arith)

module _ (text out : List ℕ) (r : Result ℕ Refusal) (out' : List ℕ) (room : typed_area ≤ length out) (fits : length text ≤ rules_file) (a : Types text out r out') where
  answer_typed : wrote r ≡ (put_book out (book_bytes text)).answer
  answer_typed = let z = le-ltb (length out) typed_area room in rw z at a.answer

  output_typed : out' ≡ (put_book out (book_bytes text)).out
  output_typed = let z = le-ltb (length out) typed_area room in rw z at a.output

  pub makes_book : MakesBook text out r out'
  unfolding rules_bytes
  makes_book =
      let z = le-ltb rules_file (length text) fits in
      record {
        answer = rw z answer_typed;
        row = rw z (ap row_of answer_typed);
        output = rw z output_typed;
        inside = λ n e. short_book out n (book_bytes text) (λ bytes h. (the_length text bytes h).1) (sym (ap wrote e) ∙ answer_typed);
      }
