-- `pooling::copy_out` meets its contract: one law a way through a turn, and one for the end of the loop. Assumes nothing.
use Rattle.std.proofs.Common.{◌≡◌, sym, ◌∙◌, arith, length-set}
use Rattle.meaning.specs.PartLaws.{size_some}
use Rattle.term.specs.Cells.{term}
use Rattle.term.specs.Nodes.{arity_of}
use Rattle.term.specs.ReadLaws.{arity_two}
use Rattle.pooling.specs.CopyLaws.{copying_first, copied, last_inside, start_some, at_inside, leaf_next}
use Rattle.pooling.specs.CopyLaws.{first_inside, one_next, second_inside, two_next}
use Rattle.pooling.proofs.copy_out.Goals as goal

pub bounds-out-0 : goal.bounds-out-0
bounds-out-0 c = omega (arith, c.requires.i_in_bounds, size_some (term c.args.cells.now c.args.i))

pub loop-waiting-init : goal.loop-waiting-init
loop-waiting-init c = copying_first c.args.out.now c.requires.sound c.requires.sound_2 c.requires.i_in_bounds

pub bounds-out-waiting : goal.bounds-out-waiting
bounds-out-waiting c = last_inside c.loop-waiting.invariant c.loop-waiting-test.true

pub offset_bounds-out-waiting : goal.offset_bounds-out-waiting
offset_bounds-out-waiting c =
    let inside = last_inside c.loop-waiting.invariant c.loop-waiting-test.true in
    omega (arith, inside, c.loop-waiting.invariant.same_length, length-set c.args.out.now 0 c.args.i)

pub overflow_sub-start : goal.overflow_sub-start
overflow_sub-start c = start_some c.loop-waiting.invariant c.loop-waiting-test.true

pub bounds-cells-at : goal.bounds-cells-at
bounds-cells-at c = at_inside c.loop-waiting.invariant c.loop-waiting-test.true

pub bounds-out-start : goal.bounds-out-start
bounds-out-start c =
    let t = c.loop-waiting.invariant in
    omega (arith, start_some t c.loop-waiting-test.true, t.within, t.same_length)

pub node_at-node-requires : goal.node_at-node-requires
node_at-node-requires c = at_inside c.loop-waiting.invariant c.loop-waiting-test.true

pub loop-waiting-smaller-then-children-eq0 : goal.loop-waiting-smaller-then-children-eq0
loop-waiting-smaller-then-children-eq0 c = omega (arith, start_some c.loop-waiting.invariant c.loop-waiting-test.true)

pub loop-waiting-preserved-then-children-eq0 : goal.loop-waiting-preserved-then-children-eq0
loop-waiting-preserved-then-children-eq0 c =
    leaf_next c.loop-waiting.invariant c.loop-waiting-test.true c.node_at-node.ensures
    (sym c.arity-children.ensures ∙ c.if-children-eq0.true)

pub wait-waiting-requires : goal.wait-waiting-requires
wait-waiting-requires c = first_inside c.loop-waiting.invariant c.loop-waiting-test.true c.node_at-node.ensures

pub loop-waiting-smaller-then-children-eq1 : goal.loop-waiting-smaller-then-children-eq1
loop-waiting-smaller-then-children-eq1 c = omega (arith, start_some c.loop-waiting.invariant c.loop-waiting-test.true)

pub loop-waiting-preserved-then-children-eq1 : goal.loop-waiting-preserved-then-children-eq1
loop-waiting-preserved-then-children-eq1 c =
    one_next c.loop-waiting.invariant c.loop-waiting-test.true c.node_at-node.ensures c.first_of.ensures c.wait-waiting.ensures
    (sym c.arity-children.ensures ∙ c.if-children-eq1.true)

pub wait-waiting-requires-in-loop-waiting : goal.wait-waiting-requires-in-loop-waiting
wait-waiting-requires-in-loop-waiting c =
    let two : arity_of c.node_at-node.result ≡ 2 = arity_two c.node_at-node.result (λ e. c.if-children-eq0.false (c.arity-children.ensures ∙ e))
    (λ e. c.if-children-eq1.false (c.arity-children.ensures ∙ e)) in
    second_inside c.loop-waiting.invariant c.loop-waiting-test.true c.node_at-node.ensures c.first_of.ensures
    c.wait-waiting.ensures two c.second_of.ensures

pub loop-waiting-smaller : goal.loop-waiting-smaller
loop-waiting-smaller c = omega (arith, start_some c.loop-waiting.invariant c.loop-waiting-test.true)

pub loop-waiting-preserved : goal.loop-waiting-preserved
loop-waiting-preserved c =
    let two : arity_of c.node_at-node.result ≡ 2 = arity_two c.node_at-node.result (λ e. c.if-children-eq0.false (c.arity-children.ensures ∙ e))
    (λ e. c.if-children-eq1.false (c.arity-children.ensures ∙ e)) in
    two_next c.loop-waiting.invariant c.loop-waiting-test.true c.node_at-node.ensures c.first_of.ensures
    c.wait-waiting.ensures two c.second_of.ensures c.wait-waiting-in-loop-waiting.ensures

pub returns : goal.returns
returns c = copied c.loop-waiting.invariant (omega arith)
