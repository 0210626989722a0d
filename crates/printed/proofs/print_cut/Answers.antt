-- What the beginning put is all, or nothing, and then the turns print the whole.
use Rattle.cut_lines.proofs.PartLaws.{print_some}
use Rattle.printed.specs.HandedLaws.{over_none, over_due, over_last}
use Rattle.printed.proofs.print_cut.Goals as goal

pub print_next-requires-clause-due : goal.print_next-requires-clause-due
print_next-requires-clause-due g c = over_due c.in-Err.ensures.part (over_none _)

pub returns-in-Err : goal.returns-in-Err
returns-in-Err g c =
    over_last c.print_next.result (over_none _) (print_some c.args.book.now c.args.text.now) c.in-Err.ensures.part c.print_next.ensures
