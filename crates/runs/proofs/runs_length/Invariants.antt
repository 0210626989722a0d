-- `runs::runs_length` meets its contract. The loop's invariant: the bytes counted and those of the runs that are left are the row's.
-- Assumes nothing.
use Rattle.std.specs.Prelude.{◌+◌, ◌≡◌, length}
use Rattle.std.specs.Slice.Iter.{chunk_by_rest}
use Rattle.table.specs.Sheet.{runs_of, write_runs}
use Rattle.runs.proofs.runs_length.Given as goal

abbrev pub invariant-loop-run : goal.invariant-loop-run
invariant-loop-run l =
    l.len + length (write_runs (runs_of (chunk_by_rest l.run-iterator))) ≡ length (write_runs (runs_of l.row))
