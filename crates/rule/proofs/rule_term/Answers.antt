-- `rule::rule_term` meets its contract: the rule's nodes stand at its place, each turn works off one of them, and at any time
-- what the rest of the work makes is the rule's normal form. Assumes nothing.
use Prim.Native.Nat.{ℕ, ◌+◌, ◌-◌}
use native.Mathlib.Nat.{sub-zero}
use native.Mathlib.Omega.{arith}
use mathlib.Core.Path.{◌≡◌, refl, sym, ap, ◌∙◌}
use Rattle.number.specs.Numbers.{Bytes}
use Rattle.book.specs.Book.{takes}
use Rattle.book.specs.Answers.{node_read}
use Rattle.normal.specs.AnswerLaws.{got}
use Rattle.rule.specs.WorkLaws.{Step, step_read, node_is_read, work_ends, step_asks, step_long, step_on, step_made, rule_is_placed, rule_works, rule_made}
use Rattle.rule.proofs.rule_term.Goals as goal
use Rattle.rule.proofs.rule_term.Goals.{After-unwrap-node}

pub unwrap-place-requires : goal.unwrap-place-requires
unwrap-place-requires c = rule_is_placed _ c.requires.has c.rule_place.ensures

pub loop-init : goal.loop-init
loop-init c =
    let all : Bytes c.args.book.now = λ i h. omega (arith, c.type_inv.book i) in
    let place = sym c.unwrap-place.ensures ∙ c.rule_place.ensures in
    rw sub-zero (
      rule_works _ _ c.requires.has all _ place c.requires.sound c.requires.room,
      refl,
      λ s r m. rule_made _ _ c.requires.has all _ place c.requires.sound m,
    )

-- there is a node left
some : (c : After-unwrap-node) → c.unwrap-place.result.nodes - c.loop.counter ≡ c.unwrap-place.result.nodes - (c.loop.counter + 1) + 1
some c = omega arith

-- the node that was read, and what is left behind it
step : (c : After-unwrap-node) (t : ℕ) → t ≡ takes c.unwrap-node.result.0
    → Step c.args.book.now c.unwrap-place.result.version c.loop.at (c.unwrap-place.result.nodes - c.loop.counter) c.loop.height
    c.unwrap-node.result.0 c.unwrap-node.result.1 t
step c t e = step_read _ _ _ _ _ _ _ t c.loop.invariant.0.standing (omega (arith, some c)) (sym c.read_node.ensures ∙ ap node_read c.unwrap-node.ensures) e

pub unwrap-node-requires : goal.unwrap-node-requires
unwrap-node-requires c = node_is_read _ c.loop.invariant.0.standing (omega arith) c.read_node.ensures

pub node_term-requires-clause-operands : goal.node_term-requires-clause-operands
node_term-requires-clause-operands c =
    step_asks c.loop.invariant.0 (step (goal.at.node_term-requires-clause-operands c).After-unwrap-node _ refl) refl refl

pub returns-in_err-made : goal.returns-in_err-made
returns-in_err-made c =
    rw c.from_residual.ensures (c.loop.invariant.2 _ _
    (step_long c.loop.invariant.0 (step (goal.at.returns-in_err-made c).After-unwrap-node _ refl) refl refl c.node_term.ensures c.in_err-made.was))

pub overflow_sub-kept : goal.overflow_sub-kept
overflow_sub-kept c = (step (goal.at.overflow_sub-kept c).After-unwrap-node _ c.takes.ensures).enough

pub loop-preserved : goal.loop-preserved
loop-preserved c =
    let k = step (goal.at.loop-preserved c).After-unwrap-node _ c.takes.ensures in
    let x = got c.node_term.ensures c.in_ok-made.was in
    let less : c.unwrap-place.result.nodes - (c.loop.counter + 1) ≡ c.unwrap-place.result.nodes - c.loop.counter - 1 = omega arith in
    rw less (
      step_on c.loop.invariant.0 k refl refl x,
      x.makes.grown.same_length ∙ c.loop.invariant.1,
      λ s r m. c.loop.invariant.2 s r (step_made c.loop.invariant.0 k refl refl x m),
    )

pub returns : goal.returns
returns c = c.loop.invariant.2 _ _ (work_ends c.loop.invariant.0 (omega arith) refl)
