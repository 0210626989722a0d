-- `checking::check_nodes` meets its contract: what is left to read tells what was asked, by one law of the nodes of a rule a turn.
-- Assumes nothing.
use Prim.Native.Nat.{suc, ◌+◌, ◌-◌}
use native.Mathlib.Nat.{sub-zero}
use native.Mathlib.Omega.{arith}
use mathlib.Core.Path.{◌≡◌, refl, sym}
use Rattle.std.proofs.lemmas.Result.{err_from_is_err_and}
use Rattle.book.specs.AnswerLaws.{got_is}
use Rattle.book.specs.CodeLaws.{nodes_one_left, nodes_not_one, nodes_refused, nodes_lack, nodes_rest_refused, nodes_rest_got}
use Rattle.checking.proofs.check_nodes.Goals as goal

pub loop-init : goal.loop-init
loop-init c = (omega arith, λ r e. rw sub-zero at e, λ n all after s e. got_is (rw sub-zero at e) (omega arith) refl)

pub returns-in_err-node : goal.returns-in_err-node
returns-in_err-node c =
    let told = err_from_is_err_and c.from_residual.result c.from_residual.ensures.1 in
    let some : c.args.count - c.loop.counter ≡ suc (c.args.count - (c.loop.counter + 1)) = omega arith in
    rw (told.1, told.2) (sym (c.loop.invariant.1 _ (nodes_refused _ _ _ _ _ _ _ some (sym c.in_err-node.ensures))))

pub returns-then-standing-needs : goal.returns-then-standing-needs
returns-then-standing-needs c =
    let some : c.args.count - c.loop.counter ≡ suc (c.args.count - (c.loop.counter + 1)) = omega arith in
    sym (c.loop.invariant.1 _ (nodes_lack _ _ _ _ _ _ _ _ _ some (sym c.in_ok-node.ensures) c.takes-needs.ensures c.if-standing-needs.true))

pub loop-preserved : goal.loop-preserved
loop-preserved c =
    let some : c.args.count - c.loop.counter ≡ suc (c.args.count - (c.loop.counter + 1)) = omega arith in (
      omega arith,
      λ r e. c.loop.invariant.1 r
          (nodes_rest_refused _ _ _ _ _ _ _ _ _ _ r some (sym c.in_ok-node.ensures) c.takes-needs.ensures c.if-standing-needs.false refl e),
      λ n all after s e. c.loop.invariant.2 (n + 1) all after (omega arith)
          (nodes_rest_got _ _ _ _ _ _ _ _ _ _ n after some (sym c.in_ok-node.ensures) c.takes-needs.ensures c.if-standing-needs.false refl e),
    )

pub returns-then-standing-eq1 : goal.returns-then-standing-eq1
returns-then-standing-eq1 c =
    sym (c.loop.invariant.2 0 _ _ (omega arith) (nodes_one_left _ _ _ _ _ (omega arith) c.if-standing-eq1.true))

pub returns : goal.returns
returns c =
    sym (c.loop.invariant.1 _ (nodes_not_one _ _ _ _ _ (omega arith) c.if-standing-eq1.false))
