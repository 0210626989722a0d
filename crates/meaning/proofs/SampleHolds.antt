-- The worked lines P1 to P12 hold, and so do the textbook's clauses on texts: one theorem for each whole list.
-- Each claim is tested by the functions that decide it, and what they decide is a theorem already.
use Rattle.std.specs.Prelude.{ℕ, ◌≡◌, refl, Bool, true, false, ◌&&◌, List, [], ◌∷◌, T, eqb}
use Rattle.std.proofs.Common.{subst, eqb→eq}
use Rattle.number.specs.Numbers.{write_number}
use Rattle.meaning.specs.Rules.{label_after, Names}
use Rattle.meaning.proofs.RulesMean.{names_after}
use Rattle.meaning.specs.Words.{Found, FirstWord, first_word}
use Rattle.meaning.specs.Words.Found.{Stuck, Word}
use Rattle.meaning.proofs.WordsMean.{first_word_lem}
use Rattle.meaning.proofs.SampleTests.{same_found, same_bytes, test, tests, lines_pass, clauses_pass}
use Rattle.meaning.specs.Sample.{Line, Holds, EachHolds, lines}
use Rattle.meaning.specs.Clauses.{clauses}
use Rattle.meaning.specs.Sample.Line.{Named, Begins, Written}

both_true : (a b : Bool) → T (a && b) → T a × T b
both_true true b p = (tt, p)
both_true false b p = absurd p

found_same : (f g : Found) → T (same_found f g) → f ≡ g
unfolding same_found
found_same Stuck Stuck p = refl
found_same Stuck (Word n r) p = absurd p
found_same (Word n r) Stuck p = absurd p
found_same (Word n r) (Word m s) p =
    let q = both_true (eqb n m) (eqb r s) p in
    let d = eqb→eq n m q.0 in
    let e = eqb→eq r s q.1 in
    cc

bytes_same : (xs ys : List ℕ) → T (same_bytes xs ys) → xs ≡ ys
unfolding same_bytes
bytes_same [] [] p = refl
bytes_same [] (y ∷ ys) p = absurd p
bytes_same (x ∷ xs) [] p = absurd p
bytes_same (x ∷ xs) (y ∷ ys) p =
    let q = both_true (eqb x y) (same_bytes xs ys) p in
    let d = eqb→eq x y q.0 in
    let e = bytes_same xs ys q.1 in
    cc

test_holds : (line : Line) → T (test line) → Holds line
unfolding test
test_holds (Named rs text l) p = subst (Names rs text) (eqb→eq (label_after rs text) l p) (names_after rs text)
test_holds (Begins rs text found) p = subst (FirstWord rs text) (found_same (first_word rs text) found p) (first_word_lem rs text)
test_holds (Written n bytes) p = bytes_same (write_number n) bytes p

tests_hold : (ls : List Line) → T (tests ls) → EachHolds ls
unfolding tests
tests_hold [] p = tt
tests_hold (line ∷ rest) p = let q = both_true (test line) (tests rest) p in (test_holds line q.0, tests_hold rest q.1)

pub worked_lines : EachHolds lines
worked_lines = tests_hold lines lines_pass

pub clauses_hold : EachHolds clauses
clauses_hold = tests_hold clauses clauses_pass
