-- `typing::line_start` meets its contract: the newlines before p are counted.
-- Assumes nothing.
use native.Mathlib.Omega.{arith}
use Prim.Native.Nat.{◌-◌}
use Rattle.typing.specs.SumLaws.{start_found, start_next, start_ends}
use Rattle.typing.proofs.line_start.Goals as goal

pub returns-then-left-eq0 : goal.returns-then-left-eq0
returns-then-left-eq0 c = start_found _ _ _ _ c.loop-p.invariant c.if-left-eq0.true

pub loop-p-preserved : goal.loop-p-preserved
loop-p-preserved c = start_next _ _ _ _ c.loop-p.invariant c.loop-p-test.true (c.loop-p.left - 1) (omega (arith, c.if-left-eq0.false)) _ c.lines_left-left.ensures

pub returns : goal.returns
returns c = start_ends _ _ _ _ c.loop-p.invariant c.loop-p-test.false
