-- `term::compare_pairs` meets its contract: the library compares numbers, and puts one comparison before another, as the order does.
-- Assumes nothing.
use Rattle.std.specs.Ordering.{nat_cmp}
use Rattle.term.specs.CompareLaws.{ordering_number, ordering_also}
use Rattle.term.proofs.compare_pairs.Goals as goal

pub returns : goal.returns
returns c =
    rw (
      c.then.ensures,
      c.cmp.ensures,
      c.cmp-2.ensures,
      ordering_also (nat_cmp c.args.a c.args.c) (nat_cmp c.args.b c.args.d),
      ordering_number c.args.a c.args.c,
      ordering_number c.args.b c.args.d,
    )
