-- The walk of a table over a text: from state 0, a byte leads to the target of its row; the label of the last state is the text's.
-- The first word at a place is the longest non-empty prefix with a label, under that label, as meaning's Words has it.
use Rattle.std.specs.Prelude.{ℕ, ◌+◌, ◌*◌, ◌≡◌, get_or}
use Rattle.number.specs.Limits.{bytes}
use Rattle.meaning.specs.Re.{Text}
use Rattle.meaning.specs.Words.{Found, First, scan, reach}
use Rattle.meaning.specs.Words.Found.{Stuck}
use Rattle.table.specs.Table.{Table}

abbrev pub step_in : Table → ℕ → ℕ → ℕ
step_in t s c = get_or t.targets (s * bytes + c) 0

abbrev pub label_at : Table → ℕ → ℕ
label_at t s = get_or t.labels s 0

-- the label after a text
abbrev pub label_of : Table → Text → ℕ
label_of t w = label_at t (reach (step_in t) 0 w)

-- the first word of a text by a table: as a relation, and by the walk that keeps the last labelled place
abbrev pub Labels : Table → Text → ℕ → Type 0
Labels t w l = label_of t w ≡ l

abbrev pub FirstBy : Table → Text → Found → Type 0
FirstBy t text found = First (Labels t) text found

unfoldable pub first_by : Table → Text → Found
first_by t text = scan (step_in t) (label_at t) 0 text 0 Stuck
