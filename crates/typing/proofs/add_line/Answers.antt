-- `typing::add_line` meets its contract: one law a return.
-- Assumes nothing.
use native.Mathlib.Omega.{arith}
use mathlib.Core.Path.{refl, sym, ◌∙◌}
use Rattle.std.proofs.Common.{length-take-le}
use Rattle.std.proofs.lemmas.Result.{err_from_is_err_and}
use Rattle.laid.specs.ByteLaws.{width_most}
use Rattle.typed.specs.CallLaws.{in_of}
use Rattle.typing.specs.SumLaws.{roomy_of, add_faulty, add_out, add_in}
use Rattle.typing.proofs.add_line.Goals as goal

pub returns-in_err-sum : goal.returns-in_err-sum
returns-in_err-sum c =
    let told = err_from_is_err_and c.from_residual.result c.from_residual.ensures.1 in
    rw (told.1, told.2, c.in_err-sum.was) (add_faulty c.in_err-sum.field-0.0 _ _ _ _ (roomy_of c.in_err-sum.was c.requires.0))

pub returns-then-out_of : goal.returns-then-out_of
returns-then-out_of c = let r = roomy_of c.in_ok-sum.was c.requires.0 in rw c.in_ok-sum.was (add_out _ _ _ _ _ r _ refl (sym c.out_of.ensures ∙ c.if-out_of.true))

pub write_number-second-requires-clause-n_lt_three_groups : goal.write_number-second-requires-clause-n_lt_three_groups
write_number-second-requires-clause-n_lt_three_groups c = let i = in_of _ _ _ _ (sym c.out_of.ensures ∙ c.if-out_of.false) in omega (arith, i.1)

pub write_number-second-requires-clause-n_in_bounds : goal.write_number-second-requires-clause-n_in_bounds
write_number-second-requires-clause-n_in_bounds c = let i = in_of _ _ _ _ (sym c.out_of.ensures ∙ c.if-out_of.false) in let r = roomy_of c.in_ok-sum.was c.requires.0 in omega (arith, i.0, i.2, width_most c.args.kind, r.counts.short, r.book_is)

pub write_number-first-requires-clause-n_in_bounds : goal.write_number-first-requires-clause-n_in_bounds
write_number-first-requires-clause-n_in_bounds c = let i = in_of _ _ _ _ (sym c.out_of.ensures ∙ c.if-out_of.false) in let r = roomy_of c.in_ok-sum.was c.requires.0 in omega (arith, i.0, i.2, width_most c.args.kind, width_most c.args.count, c.write_number-second.ensures.value, c.write_number-second.auto.out, r.counts.short, r.book_is)

pub slice_bounds-write_cells-end : goal.slice_bounds-write_cells-end
slice_bounds-write_cells-end c = let i = in_of _ _ _ _ (sym c.out_of.ensures ∙ c.if-out_of.false) in sym (length-take-le c.args.count c.args.cells.now (omega (arith, i.2)))

pub write_cells-end-requires : goal.write_cells-end-requires
write_cells-end-requires c = let i = in_of _ _ _ _ (sym c.out_of.ensures ∙ c.if-out_of.false) in let r = roomy_of c.in_ok-sum.was c.requires.0 in omega (arith, i.0, i.2, length-take-le c.args.count c.args.cells.now (omega (arith, i.2)), width_most c.args.kind, width_most c.args.count, c.write_number-second.ensures.value, c.write_number-second.auto.out, c.write_number-first.ensures.value, c.write_number-first.auto.out, r.counts.short, r.book_is)

pub returns : goal.returns
returns c = let r = roomy_of c.in_ok-sum.was c.requires.0 in rw c.in_ok-sum.was (add_in _ _ _ c.args.cells.now _ r _ _ _ _ _ _ (sym c.out_of.ensures ∙ c.if-out_of.false) (record { place = c.write_number-second.ensures.value; out = c.write_number-second.ensures.out_after }) (record { place = c.write_number-first.ensures.value; out = c.write_number-first.ensures.out_after }) c.write_cells-end.ensures (omega arith) _ refl)

pub shared_ref_as_front-write_cells : goal.shared_ref_as_front-write_cells
shared_ref_as_front-write_cells c = let i = in_of _ _ _ _ (sym c.out_of.ensures ∙ c.if-out_of.false) in omega (arith, i.2)
