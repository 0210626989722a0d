-- `start::first_vector` meets its contract: a vector without terms stands in a pool that holds none, and the book's rules are put behind it.
-- Assumes nothing.
use native.Mathlib.Omega.{arith}
use mathlib.Core.Path.{refl}
use lib.ListN.{length-set}
use Rattle.vector.specs.Layout.{nothing_cell}
use Rattle.pool.specs.IndexLaws.{indexed_same}
use Rattle.start.specs.StartLaws.{starts_none, first_none, few_rules}
use Rattle.start.proofs.first_vector.Goals as goal

pub add_rules-requires : goal.add_rules-requires
add_rules-requires c =
    record { opened = c.requires.opened; first = first_none c.args.cells.now _ c.requires.work_length_in_bounds c.requires.cells_len_bound refl; n_bound = omega (arith, few_rules c.requires.opened); indexed = indexed_same _ c.requires.indexed (λ j h. omega arith) }

pub shape_of-cells : goal.shape_of-cells
shape_of-cells c = omega (arith, length-set c.args.cells.now nothing_cell 0)

pub returns : goal.returns
returns c = starts_none c.add_rules.ensures (omega arith)
