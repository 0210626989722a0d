-- `reading::read_states` meets its contract: what the states to come leave is what was asked, by one law of reading states a way through a turn.
-- Assumes nothing.
use Prim.Native.Nat.{ℕ, ◌-◌}
use mathlib.Core.List.{List}
use Rattle.std.specs.Prelude.{Result}
use Rattle.number.specs.declared.Refusal.{Refusal}
use Rattle.table.specs.Sheet.{read_states, more_states}
use Rattle.reading.specs.Promises.{LaysRows}
use Rattle.reading.proofs.read_states.Given as goal

-- whatever the rest of the states leaves and answers, all of them do
abbrev pub invariant-loop-i : goal.invariant-loop-i
invariant-loop-i l =
    (ls ts : List ℕ) (r : Result (ℕ × ℕ) Refusal) → LaysRows (more_states l.sheet l.s (l.s - l.i) l.place) l.s l.i l.labels l.targets ls ts r
    → LaysRows (read_states l.sheet l.s l.at) l.s 0 l.initial.labels l.initial.targets ls ts r
