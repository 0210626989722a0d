-- What make_sheet answers: a refusal exactly where the book has no sheet, and that refusal; else that the sheet was saved, or that it was not.
-- Which of these two it is no promise can say, since writing is the system's.
use Rattle.std.specs.Prelude.{ℕ, ◌≡◌, ◌⊎◌, Result, Ok, Err, List}
use Rattle.std.proofs.Common.{sym, ap, ◌∙◌}
use Rattle.number.specs.declared.Refusal.{Refusal}
use Rattle.number.specs.Refused.{Outcome, row_of}
use Rattle.number.specs.Refused.Outcome.{gives, refuses}
use Rattle.programs.specs.Print.{sheet_of}
use Rattle.programs.specs.StandLaws.{no_count, same_refusal}
use Rattle.sheet_bytes.specs.declared.Line.{Line}
use Rattle.sheet_bytes.specs.Put.{put_answer, sheet_length, Puts}
use Rattle.saved.specs.declared.Made.{Made}
use Rattle.saved.specs.declared.Made.TheVariants.{Saved, Unsaved, Refused}
use Rattle.saved.specs.Made.{MadeOf, row_made, row_made_lem}

pub record MakesSheet (book : List ℕ) (made : Made) : Type 0 where
  pub became : MadeOf (sheet_of book) made
  pub row : row_made made ≡ row_of (sheet_of book)

makes_sheet : (book : List ℕ) (made : Made) → MadeOf (sheet_of book) made → MakesSheet book made
makes_sheet book made h = record { became = h; row = row_made_lem (sheet_of book) made h }

-- an end is told only of a sheet
of_sheet : (x : Outcome (List ℕ)) (end : ℕ) (made : Made) → gives end ≡ sheet_length x → (made ≡ Saved) ⊎ (made ≡ Unsaved) → MadeOf x made
of_sheet (gives sheet) end made e s = s
of_sheet (refuses r) end made e s = absurd (no_count (sym e))

-- and a refusal only where there is none, the same
of_line : (x : Outcome (List ℕ)) (r : Refusal) → refuses r ≡ sheet_length x → MadeOf x (Refused r)
of_line (gives sheet) r e = absurd (no_count e)
of_line (refuses q) r e = ap Refused (same_refusal e)

module _ (book : List ℕ) {out out' : List ℕ} {p : Result ℕ Line} (m : Puts (sheet_of book) out out' p) where
  pub when_sheet : (end : ℕ) (made : Made) → p ≡ Ok end → (made ≡ Saved) ⊎ (made ≡ Unsaved) → MakesSheet book made
  when_sheet end made e s = makes_sheet book made (of_sheet (sheet_of book) end made (sym (ap put_answer e) ∙ m.which) s)

  pub when_line : (line : Line) → p ≡ Err line → MakesSheet book (Refused line.refusal)
  when_line line e = makes_sheet book (Refused line.refusal) (of_line (sheet_of book) line.refusal (sym (ap put_answer e) ∙ m.which))
