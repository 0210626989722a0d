-- The spaces are a run of the line, and behind them stands the mark.
use Rattle.std.proofs.Common.{arith, length-take, length-drop}
use Rattle.phrases.specs.Left.{left_byte, left_last}
use Rattle.phrases.specs.WriteLaws.{mark_length, mark_all, mark_spaces}
use Rattle.phrases.proofs.put_mark.Goals as goal

pub overflow_add-end : goal.overflow_add-end
overflow_add-end c = omega (arith, c.requires, mark_length c.args.before)

pub slice_bounds-fill-end : goal.slice_bounds-fill-end
slice_bounds-fill-end c = omega (arith, c.requires, mark_length c.args.before)

pub put_byte-below-requires : goal.put_byte-below-requires
put_byte-below-requires c = omega (arith, c.requires, mark_length c.args.before)

pub put_byte-requires : goal.put_byte-requires
put_byte-requires c = omega (arith, c.requires, mark_length c.args.before, c.put_byte-below.ensures.place)

pub returns : goal.returns
returns c =
    left_last
    (left_byte
    (mark_spaces c.args.before _ _ _ (mark_all c.args.before c.args.out.now c.args.at c.requires) (omega arith) (c.fill.ensures.after (λ y e. e))
    (simp (length-take, length-drop) (omega (arith, c.requires, mark_length c.args.before))))
    c.put_byte-below.ensures)
    c.put_byte.ensures
