-- What is printed part by part in one buffer: a part stands at its front, and the answer tells what is still to be printed.
-- A part and what is still to be printed after it make up what was to be printed before it.
use Rattle.std.specs.Prelude.{ℕ, ◌+◌, ◌<◌, ◌≤◌, ◌≡◌, Result, Ok, Err, List, [], ◌++◌, length}
use Rattle.number.specs.Limits.{text_file}
use Rattle.number.specs.Lists.{Writes}
use Rattle.meaning.specs.Re.{Text}
use Rattle.programs.specs.Print.{cut_print}
use Rattle.turns.specs.declared.Turn.{Turn}
use Rattle.turns.specs.declared.Turn.TheVariants.{Onward, Last}
use Rattle.turns.specs.Turned.{kind_by, end_of}
use Rattle.cut_lines.specs.declared.Told.{Told}
use Rattle.cut_lines.specs.Rest.{rest_lines}

-- some bytes stand at the front of the buffer up to `end`, o before and o' now, as it was behind them; they and then the rest make up the whole
pub record Part (whole o o' : List ℕ) (end : ℕ) (rest : List ℕ) : Type 0 where
  pub put : List ℕ
  pub stands : Writes put o o' 0 end
  pub inside : end ≤ length o'
  pub makes : whole ≡ put ++ rest

-- ---- the beginning

-- a refusal's line stands in the buffer, and nothing follows; else nothing stands there, and all lines of the text follow
abbrev pub begun_end : Result ℕ Told → ℕ
begun_end (Err told) = told.end
begun_end (Ok n) = 0

abbrev pub after_begun : List ℕ → List ℕ → List ℕ → Text → Result ℕ Told → List ℕ
after_begun labels targets kinds text (Err told) = []
after_begun labels targets kinds text (Ok n) = rest_lines (kind_by kinds) n labels targets text 0 0

-- a text that is cut is not over its size
abbrev pub Sized : Text → Result ℕ Told → Type 0
Sized text (Err told) = Unit {0}
Sized text (Ok n) = length text ≤ text_file

pub record Begins (book : List ℕ) (text : Text) (labels targets kinds o o' : List ℕ) (r : Result ℕ Told) : Type 0 where
  pub part : Part (cut_print book text) o o' (begun_end r) (after_begun labels targets kinds text r)
  pub sized : Sized text r

-- ---- a turn

-- what is still to be printed by its answer: the lines from the place that it tells, or nothing
abbrev pub after_turn : (ℕ → ℕ) → ℕ → List ℕ → List ℕ → Text → Turn → List ℕ
after_turn kinds s labels targets text (Onward place total end) = rest_lines kinds s labels targets text place total
after_turn kinds s labels targets text (Last end) = []

-- a turn that goes on has come past its place and not past the text, with no more words than bytes
abbrev pub Further : Text → ℕ → ℕ → Turn → Type 0
Further text place before (Onward p total end) = (place < p) × (p ≤ length text) × (total + place ≤ before + p)
Further text place before (Last end) = Unit {0}

pub record Goes (kinds : ℕ → ℕ) (s : ℕ) (labels targets : List ℕ) (text : Text) (place before : ℕ) (o o' : List ℕ) (r : Turn) : Type 0 where
  pub part : Part (rest_lines kinds s labels targets text place before) o o' (end_of r) (after_turn kinds s labels targets text r)
  pub further : Further text place before r
