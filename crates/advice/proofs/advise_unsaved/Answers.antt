-- `advice::advise_unsaved` meets its contract: its one sentence.
-- Assumes nothing.
use native.Mathlib.Omega.{arith}
use Rattle.number.specs.Quoted.{quoted}
use Rattle.advised.specs.Advice.{unsaved}
use Rattle.advice.proofs.advise_unsaved.Goals as goal

pub returns : goal.returns
unfolding unsaved quoted
returns c =
    record { writes = c.put_text.ensures; upper_bound = omega (arith, c.put_text.ensures.place) }
