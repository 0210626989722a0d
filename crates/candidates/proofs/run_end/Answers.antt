-- `candidates::run_end` meets its contract: the flags from the run's first up to hi are up, and each but the last has a neighbour.
-- Assumes nothing.
use native.Mathlib.Omega.{arith}
use mathlib.Core.Path.{sym, ◌∙◌}
use Rattle.candidates.specs.RunLaws.{up_more, run_stops, run_unlike, run_ends}
use Rattle.candidates.proofs.run_end.Goals as goal

pub returns-then-not-found-hi : goal.returns-then-not-found-hi
returns-then-not-found-hi c = run_stops _ _ _ c.if-not-found-hi.true c.loop-hi.invariant

pub returns-then-not-alike : goal.returns-then-not-alike
returns-then-not-alike c = run_unlike _ _ _ (sym c.if-not-alike.true ∙ c.alike.ensures) c.loop-hi.invariant

pub loop-hi-preserved : goal.loop-hi-preserved
loop-hi-preserved c = up_more _ _ _ (omega (arith, c.loop-hi-test.true)) c.if-not-found-hi.false (sym c.if-not-alike.false ∙ c.alike.ensures) c.loop-hi.invariant

pub returns : goal.returns
returns c = run_ends _ _ _ c.loop-hi-test.false c.loop-hi.invariant
