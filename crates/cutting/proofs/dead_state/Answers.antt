-- `cutting::dead_state` meets its contract: a state that is dead is the first, one that is not is passed, and the count is told past the last.
-- Assumes nothing.
use native.Mathlib.Omega.{arith}
use mathlib.Core.Path.{sym, ◌∙◌}
use Rattle.cutting.specs.DeadLaws.{dead_here, dead_past, dead_end}
use Rattle.cutting.proofs.dead_state.Goals as goal

pub returns-then-is_dead : goal.returns-then-is_dead
returns-then-is_dead c =
    dead_here _ _ _ c.loop-s.s (omega arith) (sym c.is_dead.ensures ∙ c.if-is_dead.true) ∙ c.loop-s.invariant

pub loop-s-preserved : goal.loop-s-preserved
loop-s-preserved c =
    dead_past _ _ _ c.loop-s.s (omega arith) (sym c.is_dead.ensures ∙ c.if-is_dead.false) ∙ c.loop-s.invariant

pub returns : goal.returns
returns c =
    dead_end _ _ _ c.loop-s.s (omega arith) ∙ c.loop-s.invariant
