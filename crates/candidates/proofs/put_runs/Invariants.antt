-- `candidates::put_runs` meets its contract: what is left are the runs from a byte on, and the newline.
-- Assumes nothing.
use Prim.Native.Nat.{◌-◌, ◌≤◌}
use Rattle.phrases.specs.Left.{Left}
use Rattle.candidates.specs.RunLaws.{runs_line}
use Rattle.candidates.proofs.put_runs.Given as goal

abbrev pub invariant-loop-lo : goal.invariant-loop-lo
invariant-loop-lo l = (l.from ≤ 256) × Left (runs_line l.found l.initial.from) (runs_line l.found l.from) l.initial.out l.out l.initial.end l.end

abbrev pub decreases-loop-lo : goal.decreases-loop-lo
decreases-loop-lo l = 256 - l.from
