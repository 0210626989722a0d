-- `writing::write_states` meets its contract. The loop's invariant: there is room for the states that are left, and with them all are written.
-- Assumes nothing.
use Prim.Native.Nat.{ℕ, ◌+◌, ◌*◌, ◌≤◌}
use mathlib.Core.Path.{◌≡◌}
use mathlib.Core.List.{List}
use lib.ListN.{length, drop}
use Rattle.number.specs.Limits.{bytes}
use Rattle.number.specs.Lists.{Writes}
use Rattle.table.specs.Sheet.{write_states}
use Rattle.writing.proofs.write_states.Given as goal

abbrev pub invariant-loop-i : goal.invariant-loop-i
invariant-loop-i l =
    (length l.out ≡ length l.initial.out)
    × (l.next + length (write_states (drop l.i l.labels) (drop (l.i * bytes) l.targets)) ≤ length l.out)
    × ((out' : List ℕ) (last : ℕ)
    → Writes (write_states (drop l.i l.labels) (drop (l.i * bytes) l.targets)) l.out out' l.next last
    → Writes (write_states l.labels l.targets) l.initial.out out' l.at last)
