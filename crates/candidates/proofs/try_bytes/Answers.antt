-- `candidates::try_bytes` meets its contract: every flag below c tells of its byte.
-- Assumes nothing.
use native.Mathlib.Omega.{arith}
use Rattle.candidates.specs.TryLaws.{trying_more}
use Rattle.candidates.proofs.try_bytes.Goals as goal

pub loop-c-preserved : goal.loop-c-preserved
loop-c-preserved c = trying_more _ _ _ _ _ _ _ c.requires.p_in_bounds (omega (arith, c.loop-c-test.true, c.requires.found_len)) c.could_end.ensures c.loop-c.invariant
