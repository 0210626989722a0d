-- The worked lines, of W and of the textbook's clauses, tested: the functions that derivatives and walks are made of, run inside the checker.
-- It rests on definitions alone, so a definition that gives another answer on a line is refused here, whatever is proved of it.
use Rattle.std.specs.Prelude.{ℕ, Bool, true, false, ◌&&◌, List, [], ◌∷◌, T, eqb}
use Rattle.number.specs.Numbers.{write_number}
use Rattle.meaning.specs.Order.{order}
use Rattle.meaning.specs.Normal.{chain, cat, gathered, kept, spoilt, placed, sorted, nested, alt, both, star, negated, normal}
use Rattle.meaning.specs.Derive.{nullable, deriv}
use Rattle.meaning.specs.Rules.{label_from, label_after}
use Rattle.meaning.specs.Words.{Found, scan, first_word}
use Rattle.meaning.specs.Words.Found.{Stuck, Word}
use Rattle.meaning.specs.Sample.{Line, lines}
use Rattle.meaning.specs.Clauses.{clauses}
use Rattle.meaning.specs.Sample.Line.{Named, Begins, Written}

unfoldable pub same_found : Found → Found → Bool
same_found Stuck Stuck = true
same_found Stuck (Word n r) = false
same_found (Word n r) Stuck = false
same_found (Word n r) (Word m s) = eqb n m && eqb r s

unfoldable pub same_bytes : List ℕ → List ℕ → Bool
same_bytes [] [] = true
same_bytes [] (y ∷ ys) = false
same_bytes (x ∷ xs) [] = false
same_bytes (x ∷ xs) (y ∷ ys) = eqb x y && same_bytes xs ys

-- a line's test, by the functions that work the answers out
unfoldable pub test : Line → Bool
unfolding same_found same_bytes order chain cat gathered kept spoilt placed sorted nested alt both star negated normal nullable deriv label_from scan write_number
test (Named rs text l) = eqb (label_after rs text) l
test (Begins rs text found) = same_found (first_word rs text) found
test (Written n bytes) = same_bytes (write_number n) bytes

unfoldable pub tests : List Line → Bool
tests [] = true
tests (line ∷ rest) = test line && tests rest

pub lines_pass : T (tests lines)
unfolding lines test tests
lines_pass = tt

pub clauses_pass : T (tests clauses)
unfolding clauses test tests
clauses_pass = tt
