-- What make_book and make_sheet may answer, for every text and every book: the theorem that is bought.
-- To believe it, read Made and SheetMade, with what the text's book and the book's sheet are: Print of rules_book, and of programs.
use Rattle.std.specs.Prelude.{ℕ, ◌≡◌, ◌⊎◌, List}
use Rattle.std.proofs.Common.{subst}
use Rattle.number.specs.declared.Refusal.{Refusal}
use Rattle.number.specs.Refused.{number, place, Outcome}
use Rattle.number.specs.Refused.Outcome.{gives, refuses}
use Rattle.number.specs.Refused.Row.{no_row, row}
use Rattle.programs.specs.Print.{sheet_of}
use Rattle.rules_book.specs.Print.{rules_bytes}
use Rattle.saved.specs.declared.Made.{Made}
use Rattle.saved.specs.declared.Made.TheVariants.{Saved, Unsaved, Refused}
use Rattle.saved.specs.Made.{row_made, Makes}
use Rattle.saved.specs.SheetMade.{MakesSheet}

-- what is to be saved, and what is answered: a refusal is answered as it is, with its number and place; else it was saved, or it was not, and there is no row for it
pub record Answers (x : Outcome (List ℕ)) (made : Made) : Type 0 where
  pub refused : (r : Refusal) → x ≡ refuses r → (made ≡ Refused r) × (row_made made ≡ row (number r) (place r))
  pub saved : (bytes : List ℕ) → x ≡ gives bytes → ((made ≡ Saved) ⊎ (made ≡ Unsaved)) × (row_made made ≡ no_row)

pub the_book_made : (text : List ℕ) (made : Made) → Makes text made → Answers (rules_bytes text) made
the_book_made text made m =
    record { refused = λ r e. (rw e at m.became, rw e at m.row); saved = λ bytes e. (rw e at m.became, rw e at m.row) }

pub the_sheet_made : (book : List ℕ) (made : Made) → MakesSheet book made → Answers (sheet_of book) made
the_sheet_made book made m =
    record { refused = λ r e. (rw e at m.became, rw e at m.row); saved = λ bytes e. (rw e at m.became, rw e at m.row) }
