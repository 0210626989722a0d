-- Each turn stores the last digit of the rest before those that were found.
use Rattle.std.proofs.Common.{◌-◌, length, set, arith, refl, ap, ◌∙◌, length-set}
use Rattle.std.proofs.lemmas.Slice.{between_to_end}
use Rattle.lines.specs.DigitLaws.{found_none, found_room, found_more, found_all}
use Rattle.lines.specs.LineLaws.{writes_as}
use Rattle.lines.proofs.put_decimal.Goals as goal

pub loop-rest-init : goal.loop-rest-init
loop-rest-init c = found_none c.args.n _ (omega arith) refl

pub overflow_sub-from : goal.overflow_sub-from
overflow_sub-from c = found_room c.loop-rest.invariant

pub loop-rest-preserved : goal.loop-rest-preserved
loop-rest-preserved c = found_more c.loop-rest.invariant _ (omega (arith, c.loop-rest-test.true)) c.digit.ensures

pub overflow_sub-from-2 : goal.overflow_sub-from-2
overflow_sub-from-2 c = found_room c.loop-rest.invariant

pub put_text-requires : goal.put_text-requires
put_text-requires c =
    let all = found_all c.loop-rest.invariant c.digit-2.result (omega (arith, c.loop-rest-test.false)) c.digit-2.ensures in
    let whole = between_to_end (set c.loop-rest.digits (c.loop-rest.from - 1) c.digit-2.result) (c.loop-rest.from - 1) 20 (omega (arith, c.loop-rest.invariant.twenty, length-set c.loop-rest.digits (c.loop-rest.from - 1) c.digit-2.result)) in
    omega (arith, c.requires, ap length (whole ∙ all))

pub returns : goal.returns
returns c =
    let all = found_all c.loop-rest.invariant c.digit-2.result (omega (arith, c.loop-rest-test.false)) c.digit-2.ensures in
    let whole = between_to_end (set c.loop-rest.digits (c.loop-rest.from - 1) c.digit-2.result) (c.loop-rest.from - 1) 20 (omega (arith, c.loop-rest.invariant.twenty, length-set c.loop-rest.digits (c.loop-rest.from - 1) c.digit-2.result)) in
    writes_as (whole ∙ all) c.put_text.ensures
