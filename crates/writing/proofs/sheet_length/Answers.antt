-- `writing::sheet_length` meets its contract: a sheet is its version, its count of states, and the states.
-- Assumes nothing.
use native.Mathlib.Omega.{arith}
use lib.ListN.{length}
use Rattle.number.specs.Limits.{sheet_version}
use Rattle.number.proofs.NumberLaws.{width_most}
use Rattle.writing.specs.WritingLaws.{states_short, sheet_is}
use Rattle.writing.proofs.sheet_length.Goals as goal

pub overflow_add-head : goal.overflow_add-head
overflow_add-head c =
    omega (arith, c.number_width.ensures, width_most sheet_version, c.number_width-2.ensures, width_most (length c.args.labels.now))

pub overflow_add-result : goal.overflow_add-result
overflow_add-result c =
    omega (
      arith,
      c.number_width.ensures,
      width_most sheet_version,
      c.number_width-2.ensures,
      width_most (length c.args.labels.now),
      c.states_length.ensures,
      states_short c.args.labels.now c.args.targets.now,
    )

pub returns : goal.returns
returns c =
    omega (arith, c.number_width.ensures, c.number_width-2.ensures, c.states_length.ensures, sheet_is c.args.labels.now c.args.targets.now)
