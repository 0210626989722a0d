-- Each turn puts one byte in two digits, and what is behind it is left; the newline follows at the text's end.
use Rattle.std.proofs.Common.{arith}
use Rattle.lines.specs.LineLaws.{hex_none, hex_more}
use Rattle.lines.proofs.put_hex_line.Goals as goal

pub loop-i-preserved : goal.loop-i-preserved
loop-i-preserved c =
    record {
      room = omega (arith, c.put_hex-end.ensures.place);
      leads = λ s next w. c.loop-i.invariant.leads s next (hex_more c.args.text.now c.loop-i.i (omega arith) (omega arith) c.put_hex-end.ensures w);
    }

pub returns-clause-writes : goal.returns-clause-writes
returns-clause-writes c = c.loop-i.invariant.leads _ _ (hex_none c.args.text.now c.loop-i.i (omega arith) c.put_byte.ensures)
