-- `writing::write_states` meets its contract. The loop's invariant: there is room for the states that are left, and with them all are written.
-- Assumes nothing.
use native.Mathlib.Omega.{arith}
use lib.ListN.{get_or}
use Rattle.number.specs.Numbers.{write_number}
use Rattle.number.specs.Lists.{Writes}
use Rattle.writing.specs.WritingLaws.{states_some, states_written_none, states_written}
use Rattle.writing.proofs.write_states.Goals as goal

pub write_number-at_row-requires-clause-n_in_bounds : goal.write_number-at_row-requires-clause-n_in_bounds
write_number-at_row-requires-clause-n_in_bounds c =
    let long = states_some c.args.labels.now c.args.targets.now c.loop-i.i c.loop-i-test.true in
    omega (arith, long, c.loop-i.invariant.1)

pub write_row-next-requires-clause-room : goal.write_row-next-requires-clause-room
write_row-next-requires-clause-room c =
    let long = states_some c.args.labels.now c.args.targets.now c.loop-i.i c.loop-i-test.true in
    let label : (Writes (write_number (get_or c.args.labels.now c.loop-i.i 0)) c.loop-i.out c.write_number-at_row.new.out c.loop-i.next c.write_number-at_row.result) = record { place = c.write_number-at_row.ensures.value; out = c.write_number-at_row.ensures.out_after } in
    omega (arith, long, label.place, c.write_number-at_row.auto.out, c.loop-i.invariant.1)

pub loop-i-preserved : goal.loop-i-preserved
loop-i-preserved c =
    let long = states_some c.args.labels.now c.args.targets.now c.loop-i.i c.loop-i-test.true in
    let label : (Writes (write_number (get_or c.args.labels.now c.loop-i.i 0)) c.loop-i.out c.write_number-at_row.new.out c.loop-i.next c.write_number-at_row.result) = record { place = c.write_number-at_row.ensures.value; out = c.write_number-at_row.ensures.out_after } in (
      omega (arith, c.loop-i.invariant.0, c.write_number-at_row.auto.out, c.write_row-next.auto.out),
      omega (arith, c.loop-i.invariant.1, long, label.place, c.write_number-at_row.auto.out, c.write_row-next.ensures.place, c.write_row-next.auto.out),
      λ out' last w.
          c.loop-i.invariant.2 out' last
          (states_written c.args.labels.now c.args.targets.now c.loop-i.i c.loop-i-test.true
          (omega (arith, c.loop-i.invariant.1)) (omega (arith, c.loop-i.invariant.1, long, label.place, c.write_number-at_row.auto.out)) label c.write_row-next.ensures w),
    )

pub returns : goal.returns
returns c =
    c.loop-i.invariant.2 _ _ (states_written_none c.args.labels.now c.args.targets.now c.loop-i.i c.loop-i.out c.loop-i.next c.loop-i-test.false)
