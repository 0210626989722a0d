-- The book that the program rules makes of the bytes of words.rules, or the refusal that it tells: the promise of rules_book cites this.
-- A file that is missing or over its size is handed on as more bytes than its limit, and is refused before any byte is looked at.
use Rattle.std.specs.Prelude.{ℕ, ◌≤◌, ◌≡◌, cond, List, ltb, length, Result, Ok}
use Rattle.number.specs.declared.Refusal.TheVariants.{Input}
use Rattle.number.specs.Limits.{rules_file, typed_area}
use Rattle.number.specs.Refused.{Outcome, row_of}
use Rattle.number.specs.Refused.Outcome.{refuses}
use Rattle.number.specs.declared.Refusal.{Refusal}
use Rattle.table.specs.Calls.{wrote}
use Rattle.typed.specs.Calls.{book_bytes, put_book}

unfoldable pub rules_bytes : List ℕ → Outcome (List ℕ)
rules_bytes text = cond (ltb rules_file (length text)) (refuses Input) (book_bytes text)

-- rules_book: its answer, a refusal by the paper's number and place too, the output as it was and is; and a book that was given lies in an area of full size
pub record MakesBook (text out : List ℕ) (r : Result ℕ Refusal) (out' : List ℕ) : Type 0 where
  pub answer : wrote r ≡ (put_book out (rules_bytes text)).answer
  pub row : row_of (wrote r) ≡ row_of (put_book out (rules_bytes text)).answer
  pub output : out' ≡ (put_book out (rules_bytes text)).out
  pub inside : (n : ℕ) → r ≡ Ok n → n ≤ typed_area
