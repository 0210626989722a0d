-- `runs::write_row` meets its contract: a row is its count of runs, and the runs.
-- Assumes nothing.
use Prim.Native.Nat.{◌+◌}
use native.Mathlib.Omega.{arith}
use mathlib.Core.Path.{◌≡◌}
use lib.ListN.{length}
use Rattle.number.specs.Numbers.{write_number}
use Rattle.number.specs.Lists.{Writes}
use Rattle.table.specs.Sheet.{runs_of, write_runs, write_row}
use Rattle.table.specs.SheetRuns.{runs_count}
use Rattle.runs.specs.RowLaws.{row_is, row_written}
use Rattle.runs.proofs.write_row.Goals as goal

pub write_number-at_runs-requires : goal.write_number-at_runs-requires
write_number-at_runs-requires c =
    let row-long : (length (write_row c.args.row.now) ≡ length (write_number c.count_runs.result) + length (write_runs (runs_of c.args.row.now))) = rw c.count_runs.ensures (row_is _) in
    record { n_lt_three_groups = omega (arith, c.count_runs.ensures, runs_count c.args.row.now); n_in_bounds = omega (arith, row-long) }

pub write_runs-requires : goal.write_runs-requires
write_runs-requires c =
    let row-long : (length (write_row c.args.row.now) ≡ length (write_number c.count_runs.result) + length (write_runs (runs_of c.args.row.now))) = rw c.count_runs.ensures (row_is _) in
    let count-written : (Writes (write_number c.count_runs.result) c.args.out.now c.write_number-at_runs.new.out c.args.at c.write_number-at_runs.result) = record { place = c.write_number-at_runs.ensures.value; out = c.write_number-at_runs.ensures.out_after } in
    record { short = c.requires.short; room = omega (arith, row-long, count-written.place, c.write_number-at_runs.auto.out) }

pub returns : goal.returns
returns c =
    let count-written : (Writes (write_number c.count_runs.result) c.args.out.now c.write_number-at_runs.new.out c.args.at c.write_number-at_runs.result) = record { place = c.write_number-at_runs.ensures.value; out = c.write_number-at_runs.ensures.out_after } in
    row_written _ c.count_runs.ensures (omega arith) count-written c.write_runs.ensures
