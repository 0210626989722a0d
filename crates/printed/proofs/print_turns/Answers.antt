-- Each turn's part is due, and goes from what is left to what was handed over.
use Rattle.std.proofs.Common.{arith, ◌+◌, ◌≡◌}
use Rattle.std.proofs.lemmas.Result.{err_from_is_err_and}
use Rattle.turns.specs.Turned.{kind_by}
use Rattle.cut_lines.proofs.PartLaws.{rest_some}
use Rattle.printed.specs.HandedLaws.{front_length, over_due, over_more, over_less, over_last}
use Rattle.printed.proofs.print_turns.Goals as goal

pub print_next-requires-clause-due : goal.print_next-requires-clause-due
print_next-requires-clause-due g c = over_due c.in-Last.ensures.goes.part c.loop-end.invariant.5

pub returns-in-Last : goal.returns-in-Last
returns-in-Last g c =
    over_last c.print_next.result c.loop-end.invariant.5
    (rest_some (kind_by c.args.kinds.now) c.args.count c.args.labels.now c.args.targets.now c.args.text.now c.loop-end.from c.loop-end.sum)
    c.in-Last.ensures.goes.part c.print_next.ensures

pub print_next-requires-in-Onward-clause-due : goal.print_next-requires-in-Onward-clause-due
print_next-requires-in-Onward-clause-due g c = over_due c.in-Onward.ensures.goes.part c.loop-end.invariant.5

pub returns-in_err-handed-in-Onward : goal.returns-in_err-handed-in-Onward
returns-in_err-handed-in-Onward g c =
    let less = over_less c.loop-end.invariant.5
    (rest_some (kind_by c.args.kinds.now) c.args.count c.args.labels.now c.args.targets.now c.args.text.now c.loop-end.from c.loop-end.sum) in
    let told = err_from_is_err_and c.from_residual.result c.from_residual.ensures.1 in
    rw (told.1, told.2) (omega (arith, c.in_err-handed-in-Onward.ensures, less))

pub loop-end-preserved : goal.loop-end-preserved
loop-end-preserved g c =
    let i = c.loop-end.invariant in
    let goes = c.in-Onward.ensures.goes in
    let further = goes.further in
    let room = c.next_part.auto.out in
    let more = over_more goes.part i.5 in
    let now : c.in_ok-handed-in-Onward.handed ≡ c.loop-end.handed + c.in-Onward.end = omega (arith, c.in_ok-handed-in-Onward.ensures, front_length goes.part) in (
      omega (arith, i.0, c.next_part.auto.records),
      omega (arith, i.1, room),
      further.1,
      omega (arith, i.3, further.2),
      omega (arith, now, goes.part.inside, room, i.1, i.4, c.requires.out_len, further.0),
      rw now more,
    )
