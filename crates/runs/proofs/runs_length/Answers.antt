-- `runs::runs_length` meets its contract. The loop's invariant: the bytes counted and those of the runs that are left are the row's.
-- Assumes nothing.
use Rattle.std.specs.Prelude.{length, slice_index_or}
use Rattle.std.proofs.Common.{arith, ap, rules}
use Rattle.std.proofs.lemmas.List.Sorted.{answers_always}
use Rattle.std.specs.Slice.Iter.{chunk_by_rest}
use Rattle.runs.specs.Promises.{FirstRun}
use Rattle.runs.specs.RowLaws.{run_first, part_none, part_some, row_runs_short}
use Rattle.runs.proofs.runs_length.Goals.{In-Some}
use Rattle.runs.proofs.runs_length.Goals as goal

-- what came is the first run of what was left
first : (c : In-Some) → FirstRun (chunk_by_rest c.loop-run.run-iterator) (length c.in-Some.run'.now) (slice_index_or c.in-Some.run'.now 0 0) (chunk_by_rest c.next.new.self)
first c = run_first _ c.loop-run.run-iterator c.next.new.self c.in-Some.run' (λ f. answers_always _ _ f (λ f a r f' k. search rules)) c.in-Some.ensures.steps

pub overflow_add-len : goal.overflow_add-len
overflow_add-len c =
    let run = first (goal.at.overflow_add-len c).In-Some in
    omega (arith, part_some run, row_runs_short c.args.row.now, c.number_width.ensures, c.number_width-in-loop-run.ensures)

pub overflow_add-len-in-loop-run : goal.overflow_add-len-in-loop-run
overflow_add-len-in-loop-run c =
    let run = first (goal.at.overflow_add-len-in-loop-run c).In-Some in
    omega (arith, part_some run, row_runs_short c.args.row.now, c.number_width.ensures, c.number_width-in-loop-run.ensures)

pub loop-run-preserved : goal.loop-run-preserved
loop-run-preserved c =
    let run = first (goal.at.loop-run-preserved c).In-Some in
    omega (arith, part_some run, c.number_width.ensures, c.number_width-in-loop-run.ensures)

pub returns : goal.returns
returns c = omega (arith, ap length (part_none _ c.in-None.ensures.steps.0))
