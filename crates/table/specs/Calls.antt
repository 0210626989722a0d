-- What the calls on sheets answer and leave in lent memory, for every input: the promises of load and write_sheet cite these.
-- A refusal is the paper's by Refused; the order of refusals is the order of the tests.
use Rattle.std.specs.Prelude.{ℕ, ◌-◌, Result, Ok, Err, Bool, cond, ◌||◌, List, ◌++◌, ltb, length, drop, replicate}
use Rattle.number.specs.declared.Refusal.{Refusal}
use Rattle.number.specs.declared.Refusal.TheVariants.{Loaded, Room}
use Rattle.number.specs.Limits.{states, table_cells}
use Rattle.number.specs.Refused.{Answer, Outcome}
use Rattle.number.specs.Refused.Answer.{got, refused}
use Rattle.number.specs.Refused.Outcome.{gives, refuses}
use Rattle.table.specs.Table.{Table, lent, well_formed}
use Rattle.table.specs.Sheet.{read_sheet, write_sheet}

-- the code's answers as the paper has them: the states of a table that a call filled an area with, or the bytes that it wrote
abbrev pub counted : Result ℕ Refusal → Outcome ℕ
counted (Ok n) = gives n
counted (Err r) = refuses r

abbrev pub wrote : Result ℕ Refusal → Outcome ℕ
wrote = counted

-- cells in a lent area of n cells: the rest of it is 0
abbrev pub padded : ℕ → List ℕ → List ℕ
padded n cells = cells ++ replicate (n - length cells) 0

-- an area to be filled with a table is too small
abbrev pub cramped : List ℕ → List ℕ → Bool
cramped labels targets = ltb (length labels) states || ltb (length targets) table_cells

-- an answer with what stands in the table area afterwards
pub record Filled : Type 0 where
  pub answer : Outcome ℕ
  pub labels : List ℕ
  pub targets : List ℕ

-- the table area holds a table, or it is all 0 after a refusal
abbrev pub filled_with : List ℕ → List ℕ → Table → Filled
filled_with labels targets t =
    record { answer = gives t.count; labels = padded (length labels) t.labels; targets = padded (length targets) t.targets }

abbrev pub cleared : List ℕ → List ℕ → Refusal → Filled
cleared labels targets r = record { answer = refuses r; labels = replicate (length labels) 0; targets = replicate (length targets) 0 }

abbrev pub untouched : List ℕ → List ℕ → Refusal → Filled
untouched labels targets r = record { answer = refuses r; labels = labels; targets = targets }

abbrev pub load_read : List ℕ → List ℕ → Answer Table → Filled
load_read labels targets (got t after) = filled_with labels targets t
load_read labels targets (refused r) = cleared labels targets r

-- load: Room first, with nothing changed; then the file's refusals
abbrev pub load_of : List ℕ → List ℕ → List ℕ → Filled
load_of file labels targets = cond (cramped labels targets) (untouched labels targets Room) (load_read labels targets (read_sheet file))

-- an answer with what stands in the output afterwards
pub record Output : Type 0 where
  pub answer : Outcome ℕ
  pub out : List ℕ

-- bytes put at the front of an area that has room for them; the rest of it stays
abbrev pub put_front : List ℕ → List ℕ → Output
put_front sheet out =
    cond (ltb (length out) (length sheet)) (record { answer = refuses Room; out = out })
    (record { answer = gives (length sheet); out = sheet ++ drop (length sheet) out })

-- write: Loaded before Room; a refusal leaves the output unchanged
abbrev pub write_of : ℕ → List ℕ → List ℕ → List ℕ → Output
write_of s labels targets out =
    cond (well_formed s labels targets) (put_front (write_sheet (lent s labels targets)) out) (record { answer = refuses Loaded; out = out })
