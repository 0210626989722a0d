-- The line's bytes from i on are left.
use Rattle.std.proofs.Common.{arith}
use Rattle.phrases.specs.Left.{left_all}
use Rattle.phrases.specs.WriteLaws.{shown_some, shown_more, shown_to_newline, shown_to_end}
use Rattle.phrases.proofs.put_shown.Goals as goal

pub loop-i-init : goal.loop-i-init
loop-i-init c = left_all _ _ _ c.requires

pub put_byte-requires : goal.put_byte-requires
put_byte-requires c = shown_some c.args.text.now c.loop-i.i c.loop-i.invariant

pub returns-then-text-i-eq-NEWLINE : goal.returns-then-text-i-eq-NEWLINE
returns-then-text-i-eq-NEWLINE c =
    shown_to_newline c.args.text.now c.loop-i.i (omega arith) c.if-text-i-eq-NEWLINE.true c.loop-i.invariant c.put_byte.ensures

pub put_byte-end-requires : goal.put_byte-end-requires
put_byte-end-requires c = shown_some c.args.text.now c.loop-i.i c.loop-i.invariant

pub loop-i-preserved : goal.loop-i-preserved
loop-i-preserved c =
    shown_more c.args.text.now c.loop-i.i (omega arith) c.if-text-i-eq-NEWLINE.false c.printed.ensures c.loop-i.invariant c.put_byte-end.ensures

pub put_byte-requires-2 : goal.put_byte-requires-2
put_byte-requires-2 c = shown_some c.args.text.now c.loop-i.i c.loop-i.invariant

pub returns : goal.returns
returns c = shown_to_end c.args.text.now c.loop-i.i (omega arith) c.loop-i.invariant c.put_byte-2.ensures
