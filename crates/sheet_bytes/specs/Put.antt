-- What sheet_bytes puts into its buffer and answers: the sheet that goes to its file, or the refusal's line that is printed.
-- Which of them it is for a book is specs/Print.antt's of the crate programs: sheet_of.
use Rattle.std.specs.Prelude.{ℕ, ◌≤◌, ◌≡◌, Result, Ok, Err, List, length, take, drop}
use Rattle.number.specs.declared.Refusal.{Refusal}
use Rattle.number.specs.Refused.{Outcome}
use Rattle.number.specs.Refused.Outcome.{gives, refuses}
use Rattle.number.specs.Lists.{Writes}
use Rattle.lines.specs.Lines.{refused_line}
use Rattle.sheet_bytes.specs.declared.Line.{Line}

abbrev pub sheet_put : Outcome (List ℕ) → List ℕ
sheet_put (gives sheet) = sheet
sheet_put (refuses r) = refused_line r

-- a sheet by its length, or the refusal
abbrev pub sheet_length : Outcome (List ℕ) → Outcome ℕ
sheet_length (gives sheet) = gives (length sheet)
sheet_length (refuses r) = refuses r

-- the code's answer: which of the two, and where it ends
abbrev pub put_answer : Result ℕ Line → Outcome ℕ
put_answer (Ok end) = gives end
put_answer (Err line) = refuses line.refusal

abbrev pub put_end : Result ℕ Line → ℕ
put_end (Ok end) = end
put_end (Err line) = line.end

-- the sheet or the line stands at the front of the buffer, o before and o' now
pub record Puts (x : Outcome (List ℕ)) (o o' : List ℕ) (p : Result ℕ Line) : Type 0 where
  pub front : Writes (sheet_put x) o o' 0 (put_end p)
  pub which : put_answer p ≡ sheet_length x
  pub fits : put_end p ≤ length o'

-- on the way: the sheet stands there, or there is none and the buffer is as it was
abbrev pub Makes : Outcome (List ℕ) → List ℕ → List ℕ → Result ℕ Refusal → Type 0
Makes x o o' (Ok end) = Puts x o o' (Ok end)
Makes x o o' (Err r) = (x ≡ refuses r) × (o' ≡ o)

-- the same in lists, for the theorems: bytes stand in front of a buffer, and what stood behind them stays
pub record Fronts (w o o' : List ℕ) : Type 0 where
  pub front : take (length w) o' ≡ w
  pub behind : drop (length w) o' ≡ drop (length w) o
