-- `runs::write_runs` meets its contract. The loop's invariant: there is room for the runs that are left, and with them the row's are written.
-- Assumes nothing.
use Rattle.std.specs.Prelude.{ℕ, ◌+◌, ◌≤◌, ◌≡◌, List, length}
use Rattle.std.specs.Slice.Iter.{chunk_by_rest}
use Rattle.number.specs.Lists.{Writes}
use Rattle.table.specs.Sheet.{runs_of, write_runs}
use Rattle.runs.proofs.write_runs.Given as goal

abbrev pub invariant-loop-run : goal.invariant-loop-run
invariant-loop-run l =
    (length l.out ≡ length l.initial.out)
    × (l.next + length (write_runs (runs_of (chunk_by_rest l.run-iterator))) ≤ length l.out)
    × ((out' : List ℕ) (last : ℕ) → Writes (write_runs (runs_of (chunk_by_rest l.run-iterator))) l.out out' l.next last
    → Writes (write_runs (runs_of l.row)) l.initial.out out' l.at last)
