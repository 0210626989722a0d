-- `typing::finish` meets its contract: one law a return.
-- Assumes nothing.
use native.Mathlib.Omega.{arith}
use Rattle.std.proofs.Common.{rules, sym, length-take-le}
use Rattle.std.proofs.lemmas.Result.{err_from_is_err_and}
use Rattle.number.specs.Limits.{first_version}
use Rattle.laid.specs.ByteLaws.{width_most}
use Rattle.typing.specs.SumLaws.{rules_ok, rules_err, roomy_of, finish_none, finish_book, copied}
use Rattle.typing.proofs.finish.Goals as goal

pub returns-in_err-sum : goal.returns-in_err-sum
returns-in_err-sum c =
    let told = err_from_is_err_and c.from_residual.result c.from_residual.ensures.1 in
    rw (told.1, told.2)
    (rules_err c.args.text.now c.args.book.now c.args.out.now c.args.rules _ c.map_err.ensures.cases c.in_err-sum.was (λ fault q p. search rules))

pub returns-then-sum-eq0 : goal.returns-then-sum-eq0
returns-then-sum-eq0 c = rw (rules_ok c.args.rules _ c.map_err.ensures.cases c.in_ok-sum.was) (finish_none _ _ _ _ c.if-sum-eq0.true)

pub write_number-at_count-requires-clause-n_in_bounds : goal.write_number-at_count-requires-clause-n_in_bounds
write_number-at_count-requires-clause-n_in_bounds c = omega (arith, width_most first_version, c.requires.1)

pub write_number-first-requires-clause-n_in_bounds : goal.write_number-first-requires-clause-n_in_bounds
write_number-first-requires-clause-n_in_bounds c = omega (arith, width_most first_version, width_most c.in_ok-sum.sum.rules, c.write_number-at_count.ensures.value, c.write_number-at_count.auto.out, c.requires.1)

pub overflow_add-end : goal.overflow_add-end
overflow_add-end c = let k = (roomy_of (rules_ok c.args.rules _ c.map_err.ensures.cases c.in_ok-sum.was) c.requires.0).counts in omega (arith, k.few, k.small, k.short, width_most first_version, width_most c.in_ok-sum.sum.rules, c.write_number-at_count.ensures.value, c.write_number-first.ensures.value)

pub slice_bounds-copy_from_slice-end : goal.slice_bounds-copy_from_slice-end
slice_bounds-copy_from_slice-end c = let k = (roomy_of (rules_ok c.args.rules _ c.map_err.ensures.cases c.in_ok-sum.was) c.requires.0).counts in omega (arith, k.few, k.small, k.short, width_most first_version, width_most c.in_ok-sum.sum.rules, c.write_number-at_count.ensures.value, c.write_number-at_count.auto.out, c.write_number-first.ensures.value, c.write_number-first.auto.out, c.requires.1)

pub returns : goal.returns
returns c =
    let r = roomy_of (rules_ok c.args.rules _ c.map_err.ensures.cases c.in_ok-sum.was) c.requires.0 in
    let k = r.counts in
    rw (rules_ok c.args.rules _ c.map_err.ensures.cases c.in_ok-sum.was) (finish_book _ _ _ _ _ _ _ _ _ _ c.if-sum-eq0.false r c.requires.1 (record { place = c.write_number-at_count.ensures.value; out = c.write_number-at_count.ensures.out_after }) (record { place = c.write_number-first.ensures.value; out = c.write_number-first.ensures.out_after }) (copied _ _ _ _ _ _ (sym (length-take-le c.in_ok-sum.sum.end c.args.book.now (omega (arith, k.few, k.small, k.short, r.book_is)))) (omega arith) c.copy_from_slice.ensures.after))
