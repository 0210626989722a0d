-- `term::nullable` meets its contract: in a sound area the cell's bit tells it.
-- Assumes nothing.
use native.Mathlib.Omega.{arith}
use Rattle.term.specs.Cells.{empty_of}
use Rattle.term.proofs.nullable.Goals as goal

pub returns : goal.returns
unfolding empty_of
returns c = c.requires.bits c.args.i (omega arith)
