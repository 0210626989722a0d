-- `writing::states_length` meets its contract. The loop's invariant: the bytes counted and those of the states that are left are what was asked.
-- Assumes nothing.
use Prim.Native.Nat.{◌+◌, ◌*◌}
use mathlib.Core.Path.{◌≡◌}
use lib.ListN.{length, drop}
use Rattle.number.specs.Limits.{bytes}
use Rattle.table.specs.Sheet.{write_states}
use Rattle.writing.proofs.states_length.Given as goal

abbrev pub invariant-loop-i : goal.invariant-loop-i
invariant-loop-i l =
    l.len + length (write_states (drop l.i l.labels) (drop (l.i * bytes) l.targets))
    ≡ length (write_states l.labels l.targets)
