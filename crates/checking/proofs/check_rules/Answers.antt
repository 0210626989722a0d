-- `checking::check_rules` meets its contract: what is left to read tells what was asked, by one law of the rules of a book a turn.
-- Assumes nothing.
use Prim.Native.Nat.{suc, ◌+◌, ◌-◌, ◌≤◌}
use native.Mathlib.Nat.{sub-zero}
use native.Mathlib.Omega.{arith}
use mathlib.Core.Path.{◌≡◌, refl, sym}
use borrow.Author.Rules.{rules}
use Rattle.std.proofs.lemmas.Result.{err_from_is_err_and}
use Rattle.number.specs.Limits.{nodes}
use Rattle.number.proofs.NumberLaws.{field_read}
use Rattle.book.specs.AnswerLaws.{got_is}
use Rattle.book.specs.CodeLaws.{HeadRead, rules_none, rules_kind_refused, rules_count_refused, rules_over}
use Rattle.book.specs.CodeLaws.{rules_nodes_refused, rules_rest_refused, rules_rest_got}
use Rattle.checking.proofs.check_rules.Goals as goal
use Rattle.checking.proofs.check_rules.Goals.{In_ok-size}

-- a rule's kind and its node count, as they were read
head_read : (c : In_ok-size)
    → HeadRead c.args.book.now c.loop.place c.in_ok-at_count.field-0-0 c.in_ok-at_count.at_count c.in_ok-size.size c.in_ok-size.first
head_read c = record { kind_read = sym c.in_ok-at_count.ensures.answer; count_read = sym c.in_ok-size.ensures.answer }

pub loop-init : goal.loop-init
loop-init c = (omega arith, λ r e. rw sub-zero at e, λ n all after s e. got_is (rw sub-zero at e) (omega arith) refl)

pub returns-in_err-at_count : goal.returns-in_err-at_count
returns-in_err-at_count c =
    let told = err_from_is_err_and c.from_residual.result c.from_residual.ensures.1 in
    let some : c.args.count - c.loop.counter ≡ suc (c.args.count - (c.loop.counter + 1)) = omega arith in
    rw (told.1, told.2) (sym (c.loop.invariant.1 _ (rules_kind_refused _ _ _ _ _ _ _ some (sym c.in_err-at_count.ensures.answer))))

pub returns-in_err-size : goal.returns-in_err-size
returns-in_err-size c =
    let told = err_from_is_err_and c.from_residual-in_err-size.result c.from_residual-in_err-size.ensures.1 in
    let some : c.args.count - c.loop.counter ≡ suc (c.args.count - (c.loop.counter + 1)) = omega arith in
    rw (told.1, told.2) (sym (c.loop.invariant.1 _
    (rules_count_refused _ _ _ _ _ _ _ _ _ some (sym c.in_ok-at_count.ensures.answer) (sym c.in_err-size.ensures.answer))))

pub overflow_add-sum : goal.overflow_add-sum
overflow_add-sum c =
    let count_fits : c.in_ok-size.size ≤ nodes = (field_read _ _ _ _ _ _ (head_read c).count_read).high in
    search rules

pub returns-then-sum-size-gt-NODES : goal.returns-then-sum-size-gt-NODES
returns-then-sum-size-gt-NODES c =
    let some : c.args.count - c.loop.counter ≡ suc (c.args.count - (c.loop.counter + 1)) = omega arith in
    sym (c.loop.invariant.1 _ (rules_over _ _ _ _ _ _ _ _ _ _ some (head_read (goal.at.returns-then-sum-size-gt-NODES c).In_ok-size) c.if-sum-size-gt-NODES.true))

pub returns-in_err-next : goal.returns-in_err-next
returns-in_err-next c =
    let told = err_from_is_err_and c.from_residual-in_err-next.result c.from_residual-in_err-next.ensures.1 in
    let some : c.args.count - c.loop.counter ≡ suc (c.args.count - (c.loop.counter + 1)) = omega arith in
    rw (told.1, told.2) (sym (c.loop.invariant.1 _
    (rules_nodes_refused _ _ _ _ _ _ _ _ _ _ _ some (head_read (goal.at.returns-in_err-next c).In_ok-size) c.if-sum-size-gt-NODES.false (sym c.in_err-next.ensures))))

pub loop-preserved : goal.loop-preserved
loop-preserved c =
    let head = head_read (goal.at.loop-preserved c).In_ok-size in
    let some : c.args.count - c.loop.counter ≡ suc (c.args.count - (c.loop.counter + 1)) = omega arith in (
      c.if-sum-size-gt-NODES.false,
      λ r e. c.loop.invariant.1 r (rules_rest_refused _ _ _ _ _ _ _ _ _ _ _ _ r some head c.if-sum-size-gt-NODES.false (sym c.in_ok-next.ensures) e),
      λ n all after s e. c.loop.invariant.2 _ all after (omega arith)
          (rules_rest_got _ _ _ _ _ _ _ _ _ _ _ _ n after some head c.if-sum-size-gt-NODES.false (sym c.in_ok-next.ensures) e),
    )

pub returns : goal.returns
returns c = sym (c.loop.invariant.2 0 _ _ (omega arith) (rules_none _ _ _ _ _ (omega arith)))
