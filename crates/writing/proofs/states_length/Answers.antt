-- `writing::states_length` meets its contract. The loop's invariant: the bytes counted and those of the states that are left are what was asked.
-- Assumes nothing.
use Prim.Native.Nat.{◌+◌, ◌*◌}
use native.Mathlib.Omega.{arith}
use mathlib.Core.Path.{◌≡◌, ap}
use lib.ListN.{length, drop}
use Rattle.number.specs.Limits.{bytes}
use Rattle.table.specs.Sheet.{write_states}
use Rattle.writing.specs.WritingLaws.{states_end, states_some, states_short}
use Rattle.writing.proofs.states_length.Goals as goal

pub overflow_add-len : goal.overflow_add-len
overflow_add-len c =
    let counted : (c.loop-i.len + (c.number_width.result + c.row_length.result)
    + length (write_states (drop (c.loop-i.i + 1) c.args.labels.now) (drop ((c.loop-i.i + 1) * bytes) c.args.targets.now))
    ≡ length (write_states c.args.labels.now c.args.targets.now)) = omega (arith, states_some c.args.labels.now c.args.targets.now c.loop-i.i c.loop-i-test.true, c.number_width.ensures, c.row_length.ensures, c.loop-i.invariant) in
    omega (arith, counted, states_short c.args.labels.now c.args.targets.now)

pub overflow_add-len-in-loop-i : goal.overflow_add-len-in-loop-i
overflow_add-len-in-loop-i c =
    let counted : (c.loop-i.len + (c.number_width.result + c.row_length.result)
    + length (write_states (drop (c.loop-i.i + 1) c.args.labels.now) (drop ((c.loop-i.i + 1) * bytes) c.args.targets.now))
    ≡ length (write_states c.args.labels.now c.args.targets.now)) = omega (arith, states_some c.args.labels.now c.args.targets.now c.loop-i.i c.loop-i-test.true, c.number_width.ensures, c.row_length.ensures, c.loop-i.invariant) in
    omega (arith, counted, states_short c.args.labels.now c.args.targets.now)

pub loop-i-preserved : goal.loop-i-preserved
loop-i-preserved c =
    omega (arith, states_some c.args.labels.now c.args.targets.now c.loop-i.i c.loop-i-test.true, c.number_width.ensures, c.row_length.ensures, c.loop-i.invariant)

pub returns : goal.returns
returns c =
    omega (arith, c.loop-i.invariant, ap length (states_end c.args.labels.now c.args.targets.now c.loop-i.i c.loop-i-test.false))
