-- `typing::lines_left` meets its contract: one return where a newline stands, one elsewhere.
-- Assumes nothing.
use native.Mathlib.Omega.{arith}
use mathlib.Core.Path.{refl}
use Rattle.typing.specs.Sums.LeftAfter.{newline, no_newline}
use Rattle.typing.proofs.lines_left.Goals as goal

pub returns-then-c-eq-NEWLINE : goal.returns-then-c-eq-NEWLINE
returns-then-c-eq-NEWLINE c = newline c.if-c-eq-NEWLINE.true (omega (arith, c.requires))

pub returns : goal.returns
returns c = no_newline c.if-c-eq-NEWLINE.false refl
