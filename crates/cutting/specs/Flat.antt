-- A cut whose records are three cells each of plain numbers: what it answers and leaves in lent cells, for every input.
-- As specs/Calls.antt has it of records: refusal 10 first, and cells past the words are as before the call.
use Rattle.std.specs.Prelude.{ℕ, ◌*◌, ◌/◌, cond, List, [], ◌∷◌, ◌++◌, length, drop}
use Rattle.number.specs.declared.Refusal.TheVariants.{Loaded}
use Rattle.number.specs.Refused.{Outcome}
use Rattle.number.specs.Refused.Outcome.{gives, refuses}
use Rattle.meaning.specs.Re.{Text}
use Rattle.table.specs.Table.{lent, well_formed}
use Rattle.cutting.specs.declared.Word.{Word}
use Rattle.cutting.specs.Steps.{first_by}
use Rattle.cutting.specs.Cut.{Cut}
use Rattle.cutting.specs.Calls.{Report, cut_of}

-- a record's cells, which are start, length and rule, and those of several records
abbrev pub record_cells : ℕ
record_cells = 3

unfoldable pub flat : List Word → List ℕ
flat [] = []
flat (w ∷ ws) = w.start ∷ w.len ∷ w.rule ∷ flat ws

-- an answer with the cells afterwards
pub record Laid : Type 0 where
  pub answer : Outcome Report
  pub cells : List ℕ

abbrev pub laid : Cut → List ℕ → Laid
laid c cells = record {
  answer = gives (record { ending = c.ending; count = length c.words });
  cells = flat c.words ++ drop (record_cells * length c.words) cells;
}

-- the records that cells have room for are whole ones
abbrev pub cut_cells_of : ℕ → List ℕ → List ℕ → Text → ℕ → List ℕ → Laid
cut_cells_of s labels targets text at cells =
    cond (well_formed s labels targets) (laid (cut_of (first_by (lent s labels targets)) text at (length cells / record_cells)) cells)
    (record { answer = refuses Loaded; cells = cells })
