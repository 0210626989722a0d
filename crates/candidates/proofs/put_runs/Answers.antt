-- `candidates::put_runs` meets its contract: what is left are the runs from a byte on, and the newline.
-- Assumes nothing.
use native.Mathlib.Omega.{arith}
use Rattle.number.specs.Quoted.{quoted}
use Rattle.phrases.specs.Left.{left_all, left_room, left_step, left_last}
use Rattle.candidates.specs.RunLaws.{runs_line, line_start, line_passed, run_room, run_more, line_end}
use Rattle.candidates.proofs.put_runs.Goals as goal

pub put_text-end-requires : goal.put_text-end-requires
unfolding quoted
put_text-end-requires c = left_room (quoted "here could stand:") (runs_line c.args.found.now 0) (line_start c.args.found.now c.args.out.now _ c.requires.found_in_bounds)

pub loop-lo-init : goal.loop-lo-init
unfolding quoted
loop-lo-init c = (omega arith, left_all _ _ _ (left_step (quoted "here could stand:") (runs_line c.args.found.now 0) (line_start c.args.found.now c.args.out.now _ c.requires.found_in_bounds) c.put_text-end.ensures).room)

pub put_run-end-requires : goal.put_run-end-requires
put_run-end-requires c = run_room c.args.found.now _ _ c.run_end-hi.ensures (line_passed c.args.found.now c.in-Some.ensures c.loop-lo.invariant.1)

pub loop-lo-preserved : goal.loop-lo-preserved
loop-lo-preserved c = (omega (arith, c.run_end-hi.ensures.inside), run_more c.args.found.now _ _ c.run_end-hi.ensures (line_passed c.args.found.now c.in-Some.ensures c.loop-lo.invariant.1) c.put_run-end.ensures)

pub returns : goal.returns
unfolding quoted
returns c = left_last (left_step (quoted "here could stand:") (runs_line c.args.found.now 0) (line_start c.args.found.now c.args.out.now _ c.requires.found_in_bounds) c.put_text-end.ensures) (left_last (line_end c.args.found.now _ c.in_default.ensures c.loop-lo.invariant.1) c.put_byte.ensures)
