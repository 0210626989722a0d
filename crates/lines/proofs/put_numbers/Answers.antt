-- Each turn puts a space and one number, which has twenty digits at most; the newline follows behind the last.
use Rattle.std.proofs.Common.{get_or, arith}
use Rattle.number.specs.Lists.{writes_then}
use Rattle.lines.specs.LineLaws.{decimal_fits, more_none, more_more}
use Rattle.lines.proofs.put_numbers.Goals as goal

pub put_decimal-next-requires : goal.put_decimal-next-requires
put_decimal-next-requires c = omega (arith, decimal_fits c.args.first c.ranges.first.fits, c.requires)

pub loop-n-init : goal.loop-n-init
loop-n-init c =
    record {
      room = omega (arith, decimal_fits c.args.first c.ranges.first.fits, c.put_decimal-next.ensures.place);
      leads = λ s next w. writes_then (omega (arith, c.requires)) c.put_decimal-next.ensures w;
    }

pub put_decimal-next-requires-in-loop-n : goal.put_decimal-next-requires-in-loop-n
put_decimal-next-requires-in-loop-n c =
    omega (arith, decimal_fits (get_or c.args.more.now c.loop-n.n-index 0) (omega (arith, c.type_inv.more c.loop-n.n-index)), c.put_byte-number.ensures.place)

pub loop-n-preserved : goal.loop-n-preserved
loop-n-preserved c =
    record {
      room = omega (arith, decimal_fits (get_or c.args.more.now c.loop-n.n-index 0) (omega (arith, c.type_inv.more c.loop-n.n-index)), c.put_byte-number.ensures.place, c.put_decimal-next-in-loop-n.ensures.place);
      leads = λ s next w. c.loop-n.invariant.leads s next
          (more_more c.args.more.now c.loop-n.n-index (omega arith) (omega arith) (omega arith) c.put_byte-number.ensures c.put_decimal-next-in-loop-n.ensures w);
    }

pub returns-clause-writes : goal.returns-clause-writes
returns-clause-writes c = c.loop-n.invariant.leads _ _ (more_none c.args.more.now c.loop-n.n-index (omega arith) c.put_byte.ensures)
