-- One line, or the two of a difference, whose text is the front of the area.
use Rattle.std.proofs.Common.{arith, refl}
use Rattle.compare_lines.specs.ToldLinesLaws.{parted, told_as, told_part, told_differs}
use Rattle.compare_lines.proofs.put_answer.Goals as goal

pub put_hex_line-requires : goal.put_hex_line-requires
put_hex_line-requires c =
    omega (arith, c.requires.area_len, c.requires.compare_room_in_bounds, c.put_differs-at.ensures.upper_bound, c.put_differs-at.auto.out, told_part c.args.area.now _ c.in-Ok-Some.found.len refl)

pub returns-in-Ok-None : goal.returns-in-Ok-None
returns-in-Ok-None c =
    record { writes = told_as _ _ _ (parted c.in-Ok-None.is (rw c.in-Ok-None.is at c.in-Ok-None.field-0-is)) c.put_same.ensures.writes; upper_bound = omega (arith, c.requires.compare_room_in_bounds, c.put_same.ensures.upper_bound, c.put_same.auto.out) }

pub returns-in-Ok-Some : goal.returns-in-Ok-Some
returns-in-Ok-Some c =
    let part = told_part c.args.area.now _ c.in-Ok-Some.found.len refl in
    record { writes = told_differs _ _ _ _ (parted c.in-Ok-Some.is (rw c.in-Ok-Some.is at c.in-Ok-Some.field-0-is)) refl c.put_differs-at.ensures.writes c.put_hex_line.ensures.writes; upper_bound = omega (arith, c.requires.area_len, c.requires.compare_room_in_bounds, c.put_differs-at.ensures.upper_bound, c.put_differs-at.auto.out, c.put_hex_line.ensures.upper_bound, c.put_hex_line.auto.out, part) }

pub returns-in-Err : goal.returns-in-Err
returns-in-Err c =
    record { writes = told_as _ _ _ c.in-Err.is c.put_refused.ensures.writes; upper_bound = omega (arith, c.requires.compare_room_in_bounds, c.put_refused.ensures.upper_bound, c.put_refused.auto.out) }
