-- `laid::lay` meets its contract: a cell with room is stored, one without is only counted.
-- Assumes nothing.
use native.Mathlib.Omega.{arith}
use Rattle.laid.specs.LaidLaws.{adds_room, adds_over}
use Rattle.laid.proofs.lay.Goals as goal

pub returns-then-top-lt-NODES : goal.returns-then-top-lt-NODES
returns-then-top-lt-NODES c = adds_room c.args.cells.now _ _ (omega arith) c.if-top-lt-NODES.true

pub returns : goal.returns
returns c = adds_over _ _ _ c.if-top-lt-NODES.false
