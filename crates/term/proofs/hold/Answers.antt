-- `term::hold` meets its contract: one store, and the law of a stored node.
-- Assumes nothing.
use native.Mathlib.Omega.{arith}
use mathlib.Core.Path.{ap}
use lib.ListN.{set}
use Rattle.term.specs.CellLaws.{below_fields, held}
use Rattle.term.proofs.hold.Goals as goal

pub node_nullable-empty-requires : goal.node_nullable-empty-requires
node_nullable-empty-requires c =
    record { top = c.args.top; sound = c.requires.sound; below = c.requires.below }

pub cell_of-requires : goal.cell_of-requires
cell_of-requires c =
    record { fields = below_fields c.args.node c.args.top (omega (arith, c.requires.sound.small)) c.requires.below; link_lt_field_size = c.requires.link_lt_field_size }

pub returns : goal.returns
returns c =
    held c.args.cells.now c.args.top c.args.node c.args.link _ _ c.requires.sound c.requires.top_in_bounds c.requires.below c.requires.link_lt_field_size c.node_nullable-empty.ensures
    (ap (set c.args.cells.now c.args.top) c.cell_of.ensures)
