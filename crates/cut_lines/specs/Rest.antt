-- What the turns from a place on print together: the lines of the cut of the rest.
-- However few records a turn has, every word is printed, and the last line counts all of them (specs/RestLaws.antt).
use Rattle.std.specs.Prelude.{ℕ, List, length}
use Rattle.meaning.specs.Re.{Text}
use Rattle.turns.specs.Turned.{turn_of, turn_lines}

-- with a record for each byte, which is always enough; so many words went before
abbrev pub rest_lines : (ℕ → ℕ) → ℕ → List ℕ → List ℕ → Text → ℕ → ℕ → List ℕ
rest_lines kinds s labels targets text place before = turn_lines kinds before (turn_of s labels targets text place (length text))
