-- `runs::write_runs` meets its contract. The loop's invariant: there is room for the runs that are left, and with them the row's are written.
-- Assumes nothing.
use Rattle.std.specs.Prelude.{length, slice_index_or}
use Rattle.std.proofs.Common.{arith, rules}
use Rattle.std.proofs.lemmas.List.Sorted.{answers_always}
use Rattle.number.specs.Numbers.{write_number}
use Rattle.number.specs.Lists.{Writes}
use Rattle.std.specs.Slice.Iter.{chunk_by_rest}
use Rattle.runs.specs.Promises.{FirstRun}
use Rattle.runs.specs.RowLaws.{run_first, part_some, runs_written_none, runs_written}
use Rattle.runs.proofs.write_runs.Goals.{In-Some}
use Rattle.runs.proofs.write_runs.Goals as goal

-- what came is the first run of what was left
first : (c : In-Some) → FirstRun (chunk_by_rest c.loop-run.run-iterator) (length c.in-Some.run'.now) (slice_index_or c.in-Some.run'.now 0 0) (chunk_by_rest c.next.new.self)
first c = run_first _ c.loop-run.run-iterator c.next.new.self c.in-Some.run' (λ f. answers_always _ _ f (λ f a r f' k. search rules)) c.in-Some.ensures.steps

pub write_number-at_target-requires-clause-n_in_bounds : goal.write_number-at_target-requires-clause-n_in_bounds
write_number-at_target-requires-clause-n_in_bounds c =
    let run = first (goal.at.write_number-at_target-requires-clause-n_in_bounds c).In-Some in
    omega (arith, part_some run, c.loop-run.invariant.1)

pub write_number-next-requires-clause-n_in_bounds : goal.write_number-next-requires-clause-n_in_bounds
write_number-next-requires-clause-n_in_bounds c =
    let run = first (goal.at.write_number-next-requires-clause-n_in_bounds c).In-Some in
    omega (arith, part_some run, c.loop-run.invariant.1, c.write_number-at_target.ensures.value, c.write_number-at_target.auto.out)

pub loop-run-preserved : goal.loop-run-preserved
loop-run-preserved c =
    let run = first (goal.at.loop-run-preserved c).In-Some in
    let len : Writes (write_number (length c.in-Some.run'.now)) c.loop-run.out c.write_number-at_target.new.out c.loop-run.next c.write_number-at_target.result = record { place = c.write_number-at_target.ensures.value; out = c.write_number-at_target.ensures.out_after } in
    let target : Writes (write_number (slice_index_or c.in-Some.run'.now 0 0)) c.write_number-at_target.new.out c.write_number-next.new.out c.write_number-at_target.result c.write_number-next.result = record { place = c.write_number-next.ensures.value; out = c.write_number-next.ensures.out_after } in (
      omega (arith, c.loop-run.invariant.0, c.write_number-at_target.auto.out, c.write_number-next.auto.out),
      omega (arith, c.loop-run.invariant.1, len.place, c.write_number-at_target.auto.out, target.place, c.write_number-next.auto.out, part_some run),
      λ out' last w.
          c.loop-run.invariant.2 out' last
          (runs_written run (omega (arith, c.loop-run.invariant.1)) (omega (arith, c.loop-run.invariant.1, len.place, c.write_number-at_target.auto.out, part_some run)) len target w),
    )

pub returns : goal.returns
returns c = c.loop-run.invariant.2 _ _ (runs_written_none _ c.loop-run.out c.loop-run.next c.in-None.ensures.steps.0)
