-- The worked texts hold: one theorem for the whole list, computed by the checker.
-- The tests rest on definitions alone, so a definition that answers otherwise for one of the texts is refused here.
use Rattle.std.specs.Prelude.{ℕ, ◌≡◌, refl, Bool, true, false, ◌&&◌, List, [], ◌∷◌, T, eqb}
use Rattle.std.proofs.Common.{ap, eqb→eq}
use Rattle.number.specs.Numbers.{write_number}
use Rattle.number.specs.Refused.{Outcome, number, place, row_of}
use Rattle.number.specs.Refused.Row.{row}
use Rattle.number.specs.Refused.Outcome.{gives, refuses}
use Rattle.meaning.proofs.SampleTests.{same_bytes}
use Rattle.book.specs.Book.{write_node, write_nodes, write_rule, write_rules, write_book}
use Rattle.book.specs.Sample.{w_bytes}
use Rattle.typed.specs.Sets.{named, spans}
use Rattle.typed.specs.Exp.{joined, ranges, postfix}
use Rattle.typed.specs.Spells.{between, bare, hex}
use Rattle.typed.specs.Reader.{key, starts, known, opened, shut_in, shut, barred, marks, by_key, first_digit, last_digit, by_name, step, ended}
use Rattle.typed.specs.Scan.{scan}
use Rattle.typed.specs.Lines.{digit}
use Rattle.typed.specs.LineReader.{begins, colon, on_digit, ends, stepped, turn, accept, read_lines}
use Rattle.typed.specs.Calls.{book_of, out_of, fault, start_of, ranged, answered, book_bytes}
use Rattle.number.specs.Quoted.{quoted, again}
use Rattle.typed.specs.TestLaws.{both_hold}
use Rattle.typed.specs.Worked.{Case, Holds, EachHolds, cases}
use Rattle.typed.specs.Worked.Case.{Given, Refused}

unfoldable is_book : Outcome (List ℕ) → List ℕ → Bool
is_book (gives bytes) expected = same_bytes bytes expected
is_book (refuses r) expected = false

unfoldable is_refusal : Outcome (List ℕ) → ℕ → ℕ → Bool
is_refusal (gives bytes) n p = false
is_refusal (refuses r) n p = eqb (number r) n && eqb (place r) p

unfoldable test : Case → Bool
unfolding is_book is_refusal same_bytes book_bytes answered ranged start_of fault out_of book_of
    read_lines accept turn stepped ends on_digit colon begins digit scan
    ended step by_name last_digit first_digit by_key marks barred shut shut_in opened known starts key hex bare between
    postfix ranges joined spans named quoted again write_book write_rules write_rule write_nodes write_node write_number w_bytes
test (Given text bytes) = is_book (book_bytes (quoted text)) bytes
test (Refused text n p) = is_refusal (book_bytes (quoted text)) n p

unfoldable tests : List Case → Bool
tests [] = true
tests (x ∷ xs) = test x && tests xs

cases_pass : T (tests cases)
unfolding cases test tests
cases_pass = tt

pub same_bytes_lem : (xs ys : List ℕ) → T (same_bytes xs ys) → xs ≡ ys
unfolding same_bytes
same_bytes_lem [] [] p = refl
same_bytes_lem [] (y ∷ ys) p = absurd p
same_bytes_lem (x ∷ xs) [] p = absurd p
same_bytes_lem (x ∷ xs) (y ∷ ys) p =
    let q = both_hold (eqb x y) (same_bytes xs ys) p in
    let d = eqb→eq x y q.0 in
    let e = same_bytes_lem xs ys q.1 in
    cc

book_holds : (o : Outcome (List ℕ)) (bytes : List ℕ) → T (is_book o bytes) → o ≡ gives bytes
unfolding is_book
book_holds (gives xs) bytes p = ap gives (same_bytes_lem xs bytes p)
book_holds (refuses r) bytes p = absurd p

refusal_holds : (o : Outcome (List ℕ)) (n p : ℕ) → T (is_refusal o n p) → row_of o ≡ row n p
unfolding is_refusal
refusal_holds (gives xs) n p h = absurd h
refusal_holds (refuses r) n p h =
    let q = both_hold (eqb (number r) n) (eqb (place r) p) h in
    let d = eqb→eq (number r) n q.0 in
    let e = eqb→eq (place r) p q.1 in
    λ i. row (d i) (e i)

test_holds : (x : Case) → T (test x) → Holds x
unfolding test
test_holds (Given text bytes) p = book_holds (book_bytes (quoted text)) bytes p
test_holds (Refused text n p) h = refusal_holds (book_bytes (quoted text)) n p h

tests_hold : (xs : List Case) → T (tests xs) → EachHolds xs
unfolding tests
tests_hold [] p = tt
tests_hold (x ∷ xs) p = let q = both_hold (test x) (tests xs) p in (test_holds x q.0, tests_hold xs q.1)

pub worked_cases : EachHolds cases
worked_cases = tests_hold cases cases_pass
