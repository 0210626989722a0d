-- `term::is_short` meets its contract: one law a way through a turn, and one for each end of the loop.
-- Assumes nothing.
use Prim.Native.Nat.{ℕ, ◌+◌, ◌-◌, ◌<◌}
use native.Mathlib.Omega.{arith}
use mathlib.Core.Path.{◌≡◌, sym, ◌∙◌}
use lib.ListN.{get_or}
use Rattle.number.specs.Limits.{tree_nodes}
use Rattle.term.specs.Cells.{node_of}
use Rattle.term.specs.Nodes.{arity_of}
use Rattle.term.specs.Counts.{Countable, Counting}
use Rattle.term.specs.CountLaws.{counting_first, at_inside, told_long, told_short, last_inside, leaf_next, one_next, end_inside, two_next}
use Rattle.term.proofs.is_short.Goals as goal

one_seen : (n : ℕ) → tree_nodes - (n + 1) ≡ tree_nodes - n - 1
one_seen n = omega arith

pub loop-seen-init : goal.loop-seen-init
loop-seen-init c = counting_first c.requires

pub node_at-node-requires : goal.node_at-node-requires
node_at-node-requires c = at_inside c.requires c.loop-seen.invariant

pub shape_of-cells-then-end-top : goal.shape_of-cells-then-end-top
shape_of-cells-then-end-top c =
    let invariant : Counting c.args.cells.now c.args.top c.args.i c.loop-seen.cells c.loop-seen.at c.loop-seen.end (tree_nodes - c.loop-seen._seen) = c.loop-seen.invariant in
    invariant.wasted.same_length

pub returns-then-end-top : goal.returns-then-end-top
returns-then-end-top c =
    let asked : Countable c.args.cells.now c.args.top c.args.i = c.requires in
    let invariant : Counting c.args.cells.now c.args.top c.args.i c.loop-seen.cells c.loop-seen.at c.loop-seen.end (tree_nodes - c.loop-seen._seen) = c.loop-seen.invariant in
    let some : 0 < tree_nodes - c.loop-seen._seen = omega (arith, c.loop-seen-test.true) in
    let told : c.node_at-node.result ≡ node_of (get_or c.loop-seen.cells c.loop-seen.at 0) = c.node_at-node.ensures in
    let leaf : arity_of c.node_at-node.result ≡ 0 = sym c.arity-children.ensures ∙ c.if-children-eq0.true in
    told_short asked invariant some told leaf (omega (arith, c.if-end-top.true))

pub offset_bounds-cells-end : goal.offset_bounds-cells-end
offset_bounds-cells-end c =
    let asked : Countable c.args.cells.now c.args.top c.args.i = c.requires in
    let invariant : Counting c.args.cells.now c.args.top c.args.i c.loop-seen.cells c.loop-seen.at c.loop-seen.end (tree_nodes - c.loop-seen._seen) = c.loop-seen.invariant in
    let some : 0 < tree_nodes - c.loop-seen._seen = omega (arith, c.loop-seen-test.true) in
    let told : c.node_at-node.result ≡ node_of (get_or c.loop-seen.cells c.loop-seen.at 0) = c.node_at-node.ensures in
    let leaf : arity_of c.node_at-node.result ≡ 0 = sym c.arity-children.ensures ∙ c.if-children-eq0.true in
    let inside = last_inside asked invariant some told leaf c.if-end-top.false in
    omega (arith, asked.sound.small, invariant.wasted.same_length)

pub bounds-cells-end : goal.bounds-cells-end
bounds-cells-end c =
    let asked : Countable c.args.cells.now c.args.top c.args.i = c.requires in
    let invariant : Counting c.args.cells.now c.args.top c.args.i c.loop-seen.cells c.loop-seen.at c.loop-seen.end (tree_nodes - c.loop-seen._seen) = c.loop-seen.invariant in
    let some : 0 < tree_nodes - c.loop-seen._seen = omega (arith, c.loop-seen-test.true) in
    let told : c.node_at-node.result ≡ node_of (get_or c.loop-seen.cells c.loop-seen.at 0) = c.node_at-node.ensures in
    let leaf : arity_of c.node_at-node.result ≡ 0 = sym c.arity-children.ensures ∙ c.if-children-eq0.true in
    last_inside asked invariant some told leaf c.if-end-top.false

pub loop-seen-preserved-then-children-eq0 : goal.loop-seen-preserved-then-children-eq0
loop-seen-preserved-then-children-eq0 c =
    let asked : Countable c.args.cells.now c.args.top c.args.i = c.requires in
    let invariant : Counting c.args.cells.now c.args.top c.args.i c.loop-seen.cells c.loop-seen.at c.loop-seen.end (tree_nodes - c.loop-seen._seen) = c.loop-seen.invariant in
    let some : 0 < tree_nodes - c.loop-seen._seen = omega (arith, c.loop-seen-test.true) in
    let told : c.node_at-node.result ≡ node_of (get_or c.loop-seen.cells c.loop-seen.at 0) = c.node_at-node.ensures in
    let leaf : arity_of c.node_at-node.result ≡ 0 = sym c.arity-children.ensures ∙ c.if-children-eq0.true in
    rw (one_seen c.loop-seen._seen)
    (leaf_next asked invariant some told leaf c.if-end-top.false)

pub loop-seen-preserved-then-children-eq1 : goal.loop-seen-preserved-then-children-eq1
loop-seen-preserved-then-children-eq1 c =
    let asked : Countable c.args.cells.now c.args.top c.args.i = c.requires in
    let invariant : Counting c.args.cells.now c.args.top c.args.i c.loop-seen.cells c.loop-seen.at c.loop-seen.end (tree_nodes - c.loop-seen._seen) = c.loop-seen.invariant in
    let some : 0 < tree_nodes - c.loop-seen._seen = omega (arith, c.loop-seen-test.true) in
    let told : c.node_at-node.result ≡ node_of (get_or c.loop-seen.cells c.loop-seen.at 0) = c.node_at-node.ensures in
    rw (one_seen c.loop-seen._seen)
    (one_next asked invariant some told (sym c.arity-children.ensures ∙ c.if-children-eq1.true) c.first_of-at.ensures)

pub offset_bounds-cells-end-in-loop-seen : goal.offset_bounds-cells-end-in-loop-seen
offset_bounds-cells-end-in-loop-seen c =
    let asked : Countable c.args.cells.now c.args.top c.args.i = c.requires in
    let invariant : Counting c.args.cells.now c.args.top c.args.i c.loop-seen.cells c.loop-seen.at c.loop-seen.end (tree_nodes - c.loop-seen._seen) = c.loop-seen.invariant in
    let some : 0 < tree_nodes - c.loop-seen._seen = omega (arith, c.loop-seen-test.true) in
    let told : c.node_at-node.result ≡ node_of (get_or c.loop-seen.cells c.loop-seen.at 0) = c.node_at-node.ensures in
    let inside = end_inside asked invariant some told in
    omega (arith, asked.sound.small, invariant.wasted.same_length)

pub bounds-cells-end-in-loop-seen : goal.bounds-cells-end-in-loop-seen
bounds-cells-end-in-loop-seen c =
    let asked : Countable c.args.cells.now c.args.top c.args.i = c.requires in
    let invariant : Counting c.args.cells.now c.args.top c.args.i c.loop-seen.cells c.loop-seen.at c.loop-seen.end (tree_nodes - c.loop-seen._seen) = c.loop-seen.invariant in
    let some : 0 < tree_nodes - c.loop-seen._seen = omega (arith, c.loop-seen-test.true) in
    let told : c.node_at-node.result ≡ node_of (get_or c.loop-seen.cells c.loop-seen.at 0) = c.node_at-node.ensures in
    end_inside asked invariant some told

pub loop-seen-preserved : goal.loop-seen-preserved
loop-seen-preserved c =
    let asked : Countable c.args.cells.now c.args.top c.args.i = c.requires in
    let invariant : Counting c.args.cells.now c.args.top c.args.i c.loop-seen.cells c.loop-seen.at c.loop-seen.end (tree_nodes - c.loop-seen._seen) = c.loop-seen.invariant in
    let some : 0 < tree_nodes - c.loop-seen._seen = omega (arith, c.loop-seen-test.true) in
    let told : c.node_at-node.result ≡ node_of (get_or c.loop-seen.cells c.loop-seen.at 0) = c.node_at-node.ensures in
    rw (one_seen c.loop-seen._seen)
    (two_next asked invariant some told (λ e. c.if-children-eq0.false (c.arity-children.ensures ∙ e))
    (λ e. c.if-children-eq1.false (c.arity-children.ensures ∙ e)) c.first_of-at.ensures c.second_of.ensures)

pub shape_of-cells : goal.shape_of-cells
shape_of-cells c = c.loop-seen.invariant.wasted.same_length

pub returns : goal.returns
returns c = told_long c.requires c.loop-seen.invariant (λ h. omega arith)
