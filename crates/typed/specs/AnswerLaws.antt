-- The four ways in which a text is answered, so that a theorem about an answer is one case of them.
-- The other way round, what is read decides which of them it is.
use Rattle.std.specs.Prelude.{ℕ, ◌≡◌, refl, List, [], ◌∷◌}
use Rattle.std.proofs.Common.{ap, ◌∙◌}
use Rattle.std.proofs.Math.Option.{Option}
use Rattle.std.proofs.Math.Option.Option.{none, some}
use Rattle.number.specs.declared.Refusal.TheVariants.{Range, Typed}
use Rattle.number.specs.Refused.{Outcome}
use Rattle.number.specs.Refused.Outcome.{gives, refuses}
use Rattle.meaning.specs.Re.{Text}
use Rattle.book.specs.Book.{write_book}
use Rattle.typed.specs.Lines.{Line}
use Rattle.typed.specs.Scan.{Reading}
use Rattle.typed.specs.Scan.Reading.{typed, wrong}
use Rattle.typed.specs.LineReader.{read_lines}
use Rattle.typed.specs.Calls.{book_of, fault, start_of, ranged, answered, book_bytes}

-- ---- the ways

pub data Way (text : Text) : Outcome (List ℕ) → Type 0 where
  mistyped : (p : ℕ) → read_lines text ≡ wrong p → Way text (refuses (Typed p))
  no_rule_lem : read_lines text ≡ typed [] → Way text (refuses (Range 0))
  too_much_lem : (l : Line) (ls : List Line) (i : ℕ) → read_lines text ≡ typed (l ∷ ls) → fault 0 0 (l ∷ ls) ≡ some i
      → Way text (refuses (Range (start_of i 0 text)))
  the_rules : (l : Line) (ls : List Line) → read_lines text ≡ typed (l ∷ ls) → fault 0 0 (l ∷ ls) ≡ none
      → Way text (gives (write_book (book_of (l ∷ ls))))

pub answer_way : (text : Text) → Way text (book_bytes text)
unfolding book_bytes answered ranged
answer_way text = by_reading (read_lines text) refl
  where
    by_fault : (l : Line) (ls : List Line) (o : Option ℕ) → read_lines text ≡ typed (l ∷ ls) → fault 0 0 (l ∷ ls) ≡ o → Way text (ranged text (l ∷ ls) o)
    by_fault l ls none e f = the_rules l ls e f
    by_fault l ls (some i) e f = too_much_lem l ls i e f

    by_reading : (x : Reading (List Line)) → read_lines text ≡ x → Way text (answered text x)
    by_reading (wrong p) e = mistyped p e
    by_reading (typed []) e = no_rule_lem e
    by_reading (typed (l ∷ ls)) e = by_fault l ls (fault 0 0 (l ∷ ls)) e refl

-- what is read decides the answer
pub when_wrong : (text : Text) (p : ℕ) → read_lines text ≡ wrong p → book_bytes text ≡ refuses (Typed p)
unfolding book_bytes answered
when_wrong text p e = ap (answered text) e

pub when_none : (text : Text) → read_lines text ≡ typed [] → book_bytes text ≡ refuses (Range 0)
unfolding book_bytes answered ranged
when_none text e = ap (answered text) e

pub when_out : (text : Text) (ls : List Line) (i : ℕ) → read_lines text ≡ typed ls → fault 0 0 ls ≡ some i → book_bytes text ≡ refuses (Range (start_of i 0 text))
unfolding book_bytes answered ranged fault
when_out text [] i e f = let z : none ≡ some i = f in cc
when_out text (l ∷ ls) i e f = ap (answered text) e ∙ ap (ranged text (l ∷ ls)) f

pub when_right : (text : Text) (l : Line) (ls : List Line) → read_lines text ≡ typed (l ∷ ls) → fault 0 0 (l ∷ ls) ≡ none
    → book_bytes text ≡ gives (write_book (book_of (l ∷ ls)))
unfolding book_bytes answered ranged
when_right text l ls e f = ap (answered text) e ∙ ap (ranged text (l ∷ ls)) f
