-- `runs::row_length` meets its contract: a row is its count of runs, and the runs.
-- Assumes nothing.
use native.Mathlib.Omega.{arith}
use Rattle.number.proofs.NumberLaws.{width_most}
use Rattle.table.specs.SheetRuns.{runs_count}
use Rattle.runs.specs.RowLaws.{row_is, row_runs_short}
use Rattle.runs.proofs.row_length.Goals as goal

pub number_width-requires : goal.number_width-requires
number_width-requires c = omega (arith, c.count_runs.ensures, runs_count c.args.row.now)

pub overflow_add-result : goal.overflow_add-result
overflow_add-result c =
    omega (
      arith,
      c.number_width.ensures,
      width_most c.count_runs.result,
      c.runs_length.ensures,
      row_runs_short c.args.row.now,
    )

pub returns : goal.returns
returns c =
    let count = rw c.count_runs.ensures at c.number_width.ensures in
    omega (arith, count, c.runs_length.ensures, row_is c.args.row.now)
