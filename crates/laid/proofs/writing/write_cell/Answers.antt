-- `laid::write_cell` meets its contract: a code is one byte; a range's bounds follow it.
-- Assumes nothing.
use native.Mathlib.Omega.{arith}
use Prim.Native.Nat.{◌/◌, ◌%◌}
use Rattle.laid.specs.ByteLaws.{width_most, code_width, cell_plain, cell_range}
use Rattle.laid.proofs.writing.write_cell.Goals as goal

pub write_number-first-requires : goal.write_number-first-requires
write_number-first-requires c =
    record { n_lt_three_groups = omega arith; n_in_bounds = omega (arith, code_width c.args.x) }

pub returns-then-x-ne-RANGE : goal.returns-then-x-ne-RANGE
returns-then-x-ne-RANGE c = cell_plain _ _ _ _ _ (record { place = c.write_number-first.ensures.value; out = c.write_number-first.ensures.out_after }) c.if-x-ne-RANGE.true

pub write_number-second-requires : goal.write_number-second-requires
write_number-second-requires c =
    record { n_lt_three_groups = omega arith; n_in_bounds = omega (arith, c.write_number-first.ensures.value, code_width c.args.x, width_most (c.args.x / 8 / 256), c.write_number-first.auto.out) }

pub write_number-requires : goal.write_number-requires
write_number-requires c =
    record { n_lt_three_groups = omega arith; n_in_bounds = omega (arith, c.write_number-first.ensures.value, c.write_number-second.ensures.value, code_width c.args.x, width_most (c.args.x / 8 / 256), width_most (c.args.x / 8 % 256), c.write_number-first.auto.out, c.write_number-second.auto.out) }

pub returns : goal.returns
returns c = cell_range _ _ _ _ _ (record { place = c.write_number-first.ensures.value; out = c.write_number-first.ensures.out_after }) _ _ _ _ c.if-x-ne-RANGE.false (omega arith) (omega (arith, c.write_number-first.ensures.value, code_width c.args.x, c.write_number-first.auto.out)) (record { place = c.write_number-second.ensures.value; out = c.write_number-second.ensures.out_after }) (record { place = c.write_number.ensures.value; out = c.write_number.ensures.out_after })
