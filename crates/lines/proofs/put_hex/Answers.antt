-- The high digit, then the low one.
use Rattle.std.proofs.Common.{arith}
use Rattle.lines.specs.LineLaws.{hex_written}
use Rattle.lines.proofs.put_hex.Goals as goal

pub returns : goal.returns
returns c =
    hex_written c.args.byte _ _ c.digit.ensures c.digit-2.ensures (omega (arith, c.requires))
    c.put_byte-last.ensures c.put_byte.ensures
