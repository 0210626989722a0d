-- What a turn does: a long text is cut in turns, each into the same records and at the front of the same buffer.
-- A turn puts the lines of its words, and the text goes on from where the records were full.
use Rattle.std.specs.Prelude.{ℕ, zero, suc, ◌+◌, ◌<◌, ◌≤◌, ◌≡◌, cond, List, [], ◌++◌, length, get_or, drop}
use Rattle.number.specs.declared.Refusal.TheVariants.{Loaded}
use Rattle.number.specs.Refused.{Outcome}
use Rattle.number.specs.Refused.Outcome.{gives, refuses}
use Rattle.number.specs.Lists.{Writes}
use Rattle.meaning.specs.Re.{Text}
use Rattle.table.specs.Table.{lent, well_formed}
use Rattle.cutting.specs.Steps.{first_by}
use Rattle.cutting.specs.Calls.{cut_of}
use Rattle.cutting.specs.Cut.{Ending, Cut}
use Rattle.cutting.specs.Cut.Ending.{Done, StuckAt, FullAt}
use Rattle.cutting.specs.Flat.{record_cells}
use Rattle.lines.specs.Lines.{word_line, refused_line}
use Rattle.programs.specs.Output.{kind_in, cut_lines}
use Rattle.turns.specs.declared.Turn.{Turn}
use Rattle.turns.specs.declared.Turn.TheVariants.{Onward, Last}

-- ---- kinds and records

-- a list of kinds, one a rule; past its end there is 0
abbrev pub Kinds : List ℕ → List ℕ → Type 0
Kinds book kinds = (i : ℕ) → i < length kinds → get_or kinds i 0 ≡ kind_in book i

abbrev pub kind_by : List ℕ → ℕ → ℕ
kind_by kinds rule = get_or kinds rule 0

-- the lines of so many records, as they lie in cells
unfoldable pub cell_lines : (ℕ → ℕ) → List ℕ → ℕ → List ℕ
cell_lines kinds cells zero = []
cell_lines kinds cells (suc n) =
    word_line (get_or cells 0 0) (get_or cells 1 0) (get_or cells 2 0) (kinds (get_or cells 2 0)) ++ cell_lines kinds (drop record_cells cells) n

-- ---- turns

-- the cut of a turn: from a place on, with so many records, if the table is well formed
abbrev pub turn_of : ℕ → List ℕ → List ℕ → Text → ℕ → ℕ → Outcome Cut
turn_of s labels targets text at room =
    cond (well_formed s labels targets) (gives (cut_of (first_by (lent s labels targets)) text at room)) (refuses Loaded)

abbrev pub turn_lines : (ℕ → ℕ) → ℕ → Outcome Cut → List ℕ
turn_lines kinds before (gives c) = cut_lines kinds before c
turn_lines kinds before (refuses r) = refused_line r

-- after a turn: nothing more, or on from a place with so many words so far
pub data Next : Type 0 where
  stop : Next
  onward : ℕ → ℕ → Next

abbrev pub next_by : ℕ → Ending → Next
next_by total Done = stop
next_by total (StuckAt at) = stop
next_by total (FullAt at) = onward at total

abbrev pub next_after : ℕ → Outcome Cut → Next
next_after before (gives c) = next_by (before + length c.words) c.ending
next_after before (refuses r) = stop

-- the code's answer: what comes next, and where the lines end
abbrev pub next : Turn → Next
next (Onward at total end) = onward at total
next (Last end) = stop

abbrev pub end_of : Turn → ℕ
end_of (Onward at total end) = end
end_of (Last end) = end

-- what a turn does: its lines stand at the front of the buffer, o before and o' now, and the answer says how it goes on
pub record Turned (kinds : ℕ → ℕ) (before : ℕ) (x : Outcome Cut) (o o' : List ℕ) (r : Turn) : Type 0 where
  pub lines : Writes (turn_lines kinds before x) o o' 0 (end_of r)
  pub goes : next r ≡ next_after before x
  pub fits : end_of r ≤ length o'
