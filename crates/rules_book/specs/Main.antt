-- The theorem about the book of words.rules that is bought; it is proved in FileLaws.
-- To believe it, read only definitions: Print, and what typing answers, which is Calls of the crate typed.
use Rattle.std.specs.Prelude.{ℕ, ◌≤◌, ◌<◌, ◌≡◌, List, length, Result, Ok}
use Rattle.number.specs.Limits.{rules_file, typed_area}
use Rattle.number.specs.Refused.{row_of}
use Rattle.number.specs.Refused.Row.{row}
use Rattle.number.specs.declared.Refusal.{Refusal}
use Rattle.table.specs.Calls.{wrote}
use Rattle.typed.specs.Calls.{type_of}
use Rattle.rules_book.specs.Print.{MakesBook}
use Rattle.rules_book.specs.FileLaws.{long_refused, short_typed}

-- a text, an output, an answer and the output afterwards: more than 32,768 bytes, which stand for a file that is missing or too long, are refused,
-- 13 at 0, and the output stays; any other text is answered as type_rules answers it; and a book has at most the 4,096 bytes that are asked for
pub record RulesFile (text out : List ℕ) (r : Result ℕ Refusal) (out' : List ℕ) : Type 0 where
  pub too_long : rules_file < length text → (row_of (wrote r) ≡ row 13 0) × (out' ≡ out)
  pub typed : length text ≤ rules_file → (wrote r ≡ (type_of text out).answer) × (out' ≡ (type_of text out).out)
  pub inside : (n : ℕ) → r ≡ Ok n → n ≤ typed_area

-- and this is what rules_book promises
pub the_rules_file : (text out : List ℕ) (r : Result ℕ Refusal) (out' : List ℕ) → typed_area ≤ length out → MakesBook text out r out' → RulesFile text out r out'
the_rules_file text out r out' room b =
    record { too_long = long_refused text out r out' b; typed = short_typed text out r out' b room; inside = b.inside }
