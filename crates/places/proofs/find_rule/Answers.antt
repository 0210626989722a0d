-- `places::find_rule` meets its contract: the way that is left leads where the whole way does, by one law of the way to a rule a turn.
-- Assumes nothing.
use Prim.Native.Nat.{suc, ◌+◌, ◌-◌}
use native.Mathlib.Nat.{sub-zero}
use native.Mathlib.Omega.{arith}
use mathlib.Core.Path.{◌≡◌, sym, ◌∙◌}
use Rattle.std.proofs.lemmas.Result.{err_from_is_err_and}
use Rattle.book.specs.PlaceLaws.{head_few, find_head_refused, find_here, find_nodes_refused, find_onward}
use Rattle.places.proofs.find_rule.Goals as goal

pub loop-init : goal.loop-init
loop-init c = rw sub-zero

pub returns-in_err-head : goal.returns-in_err-head
returns-in_err-head c =
    let told = err_from_is_err_and c.from_residual.result c.from_residual.ensures.1 in
    rw (told.1, told.2) (sym (c.loop.invariant ∙ find_head_refused _ _ _ _ _ (sym c.in_err-head.ensures)))

pub check_nodes-requires : goal.check_nodes-requires
check_nodes-requires c = omega (arith, head_few _ _ _ _ _ (sym c.in_ok-head.ensures))

pub returns-in_err-next : goal.returns-in_err-next
returns-in_err-next c =
    let told = err_from_is_err_and c.from_residual-in_err-next.result c.from_residual-in_err-next.ensures.1 in
    let some : c.args.left - c.loop.counter ≡ suc (c.args.left - (c.loop.counter + 1)) = omega arith in
    rw (told.1, told.2) (sym (c.loop.invariant ∙ find_nodes_refused _ _ _ _ _ _ _ _ some (sym c.in_ok-head.ensures) (sym c.in_err-next.ensures)))

pub loop-preserved : goal.loop-preserved
loop-preserved c =
    let some : c.args.left - c.loop.counter ≡ suc (c.args.left - (c.loop.counter + 1)) = omega arith in
    c.loop.invariant ∙ find_onward _ _ _ _ _ _ _ _ _ some (sym c.in_ok-head.ensures) (sym c.in_ok-next.ensures)

pub returns : goal.returns
returns c = c.read_head-2.ensures ∙ sym (c.loop.invariant ∙ find_here _ _ _ _ (omega arith))
