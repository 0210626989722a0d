-- `reading::read_runs` meets its contract: what the runs to come leave is what was asked, by one law of reading a row a way through a turn.
-- Assumes nothing.
use Prim.Native.Nat.{ℕ, ◌-◌, ◌≤◌}
use mathlib.Core.List.{List}
use Rattle.std.specs.Prelude.{Result}
use Rattle.number.specs.declared.Refusal.{Refusal}
use Rattle.number.specs.Limits.{bytes}
use Rattle.table.specs.Sheet.{read_runs, more_runs}
use Rattle.reading.specs.Promises.{LaysRow}
use Rattle.reading.proofs.read_runs.Given as goal

-- whatever the rest of the row leaves and answers, the whole row does
abbrev pub invariant-loop : goal.invariant-loop
invariant-loop l =
    (l.covered ≤ bytes)
    × ((t : List ℕ) (r : Result (ℕ × ℕ) Refusal) → LaysRow (more_runs l.sheet l.s (l.count - l.counter) l.covered l.before l.place) l.s l.row l.covered t r
    → LaysRow (read_runs l.sheet l.s l.count l.at) l.s l.initial.row 0 t r)
