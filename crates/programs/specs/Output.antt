-- The lines of a cut: a line for each word, with the kind of its rule, and a last line.
-- How the code comes to them, turn by turn, is specs/Turned.antt's of the crate turns.
use Rattle.std.specs.Prelude.{ℕ, ◌+◌, List, [], ◌∷◌, ◌++◌, length}
use Rattle.number.specs.Refused.{Outcome}
use Rattle.number.specs.Refused.Outcome.{gives, refuses}
use Rattle.book.specs.Calls.{Told, kind_of}
use Rattle.book.specs.Calls.Told.{kind, none}
use Rattle.cutting.specs.declared.Word.{Word}
use Rattle.cutting.specs.Cut.{Ending, Cut}
use Rattle.cutting.specs.Cut.Ending.{Done, StuckAt, FullAt}
use Rattle.lines.specs.Lines.{word_line, done_line, stuck_line}

-- ---- kinds

-- the kind of a rule, and 0 where there is no such rule
abbrev pub kind_number : Outcome Told → ℕ
kind_number (gives (kind n)) = n
kind_number (gives none) = 0
kind_number (refuses r) = 0

abbrev pub kind_in : List ℕ → ℕ → ℕ
kind_in book rule = kind_number (kind_of book rule)

-- ---- lines

-- words, each with the kind of its rule
unfoldable pub word_lines : (ℕ → ℕ) → List Word → List ℕ
word_lines kinds [] = []
word_lines kinds (w ∷ ws) = word_line w.start w.len w.rule (kinds w.rule) ++ word_lines kinds ws

-- the last line; a cut that goes on has none yet
abbrev pub last_line : ℕ → Ending → List ℕ
last_line total Done = done_line total
last_line total (StuckAt at) = stuck_line at
last_line total (FullAt at) = []

-- the lines of a cut, where so many words went before
abbrev pub cut_lines : (ℕ → ℕ) → ℕ → Cut → List ℕ
cut_lines kinds before c = word_lines kinds c.words ++ last_line (before + length c.words) c.ending
