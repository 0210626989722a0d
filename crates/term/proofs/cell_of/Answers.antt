-- `term::cell_of` meets its contract: a cell is its node's kind and fields, its link and its bit, packed.
-- Assumes nothing.
use native.Mathlib.Omega.{arith}
use Rattle.term.specs.Nodes.{cell_of}
use Rattle.term.specs.CellLaws.{bit_small}
use Rattle.term.specs.ReadLaws.{kind_most}
use Rattle.term.proofs.cell_of.Goals as goal

pub pack-requires : goal.pack-requires
pack-requires c =
    record { kind_lt_kind_size = omega (arith, kind_most c.args.node); first_lt_field_size = omega (arith, c.requires.fields.first); second_lt_field_size = omega (arith, c.requires.fields.second); link_lt_field_size = c.requires.link_lt_field_size; bit_bound = bit_small c.args.empty }

pub returns : goal.returns
unfolding cell_of
returns c = omega arith
