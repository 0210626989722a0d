-- `pool::hash_of` meets its contract: fields that fit a cell keep the sum far below a machine word.
-- Assumes nothing.
use native.Mathlib.Omega.{arith}
use Rattle.pool.specs.Index.{hash_of}
use Rattle.term.specs.ReadLaws.{kind_most}
use Rattle.pool.proofs.hash_of.Goals as goal

pub overflow_add-result : goal.overflow_add-result
overflow_add-result c = omega (arith, kind_most c.args.node, c.kind_of.ensures, c.first_of.ensures, c.requires.first)

pub overflow_add-result-2 : goal.overflow_add-result-2
overflow_add-result-2 c =
    omega (
      arith,
      kind_most c.args.node,
      c.kind_of.ensures,
      c.first_of.ensures,
      c.second_of.ensures,
      c.requires.first,
      c.requires.second,
    )

pub returns : goal.returns
unfolding hash_of
returns c = rw (c.kind_of.ensures, c.first_of.ensures, c.second_of.ensures)
