-- `normal::chain` meets its contract: a turn lists a member of the chain, and after the last all are nested.
-- The measure is the number of the cell at hand. Assumes nothing.
use Prim.Native.Nat.{◌<◌}
use native.Mathlib.Omega.{arith}
use mathlib.Core.Path.{◌≡◌}
use lib.ListN.{get_or}
use Rattle.number.specs.Limits.{work_cells}
use Rattle.term.specs.Cells.{node_of}
use Rattle.normal.specs.Asked.{Links}
use Rattle.normal.specs.ChainLaws.{Chaining, chaining_first, last_inside, end_inside, chain_falls, chaining_next, chain_asks, chain_made}
use Rattle.normal.proofs.chain.Goals as goal

pub loop-last-init : goal.loop-last-init
loop-last-init c = chaining_first c.requires

pub node_at-node-requires : goal.node_at-node-requires
node_at-node-requires c = last_inside c.requires c.loop-last.invariant

pub offset_bounds-cells-end : goal.offset_bounds-cells-end
offset_bounds-cells-end c =
    let chaining : Chaining c.args.cells.now c.args.top c.args.a c.args.b c.loop-last.cells c.loop-last.last
    c.loop-last.end = c.loop-last.invariant in
    let asked : Links c.args.cells.now c.args.top c.args.a c.args.b = c.requires in
    let small : c.loop-last.end < work_cells = omega (arith, end_inside asked chaining, asked.sound.small, chaining.listing.wasted.same_length) in
    omega (arith, small)

pub bounds-cells-end : goal.bounds-cells-end
bounds-cells-end c =
    let asked : Links c.args.cells.now c.args.top c.args.a c.args.b = c.requires in
    let chaining : Chaining c.args.cells.now c.args.top c.args.a c.args.b c.loop-last.cells c.loop-last.last
    c.loop-last.end = c.loop-last.invariant in
    end_inside asked chaining

pub overflow_add-end : goal.overflow_add-end
overflow_add-end c =
    let chaining : Chaining c.args.cells.now c.args.top c.args.a c.args.b c.loop-last.cells c.loop-last.last
    c.loop-last.end = c.loop-last.invariant in
    let asked : Links c.args.cells.now c.args.top c.args.a c.args.b = c.requires in
    let small : c.loop-last.end < work_cells = omega (arith, end_inside asked chaining, asked.sound.small, chaining.listing.wasted.same_length) in
    omega (arith, small)

pub loop-last-smaller : goal.loop-last-smaller
loop-last-smaller c =
    let asked : Links c.args.cells.now c.args.top c.args.a c.args.b = c.requires in
    let chaining : Chaining c.args.cells.now c.args.top c.args.a c.args.b c.loop-last.cells c.loop-last.last
    c.loop-last.end = c.loop-last.invariant in
    let told : c.node_at-node.result ≡ node_of (get_or c.loop-last.cells c.loop-last.last 0) = c.node_at-node.ensures in
    chain_falls asked chaining told c.joins.ensures c.if-joins.true c.first_of.ensures
    c.second_of-last.ensures

pub loop-last-preserved : goal.loop-last-preserved
loop-last-preserved c =
    let asked : Links c.args.cells.now c.args.top c.args.a c.args.b = c.requires in
    let chaining : Chaining c.args.cells.now c.args.top c.args.a c.args.b c.loop-last.cells c.loop-last.last
    c.loop-last.end = c.loop-last.invariant in
    let told : c.node_at-node.result ≡ node_of (get_or c.loop-last.cells c.loop-last.last 0) = c.node_at-node.ensures in
    chaining_next asked chaining told c.joins.ensures c.if-joins.true c.first_of.ensures
    c.second_of-last.ensures

pub offset_bounds-cells-end-in-loop-last : goal.offset_bounds-cells-end-in-loop-last
offset_bounds-cells-end-in-loop-last c =
    let chaining : Chaining c.args.cells.now c.args.top c.args.a c.args.b c.loop-last.cells c.loop-last.last
    c.loop-last.end = c.loop-last.invariant in
    let asked : Links c.args.cells.now c.args.top c.args.a c.args.b = c.requires in
    let small : c.loop-last.end < work_cells = omega (arith, end_inside asked chaining, asked.sound.small, chaining.listing.wasted.same_length) in
    omega (arith, small)

pub bounds-cells-end-in-loop-last : goal.bounds-cells-end-in-loop-last
bounds-cells-end-in-loop-last c =
    let asked : Links c.args.cells.now c.args.top c.args.a c.args.b = c.requires in
    let chaining : Chaining c.args.cells.now c.args.top c.args.a c.args.b c.loop-last.cells c.loop-last.last
    c.loop-last.end = c.loop-last.invariant in
    end_inside asked chaining

pub overflow_add-end-in-loop-last : goal.overflow_add-end-in-loop-last
overflow_add-end-in-loop-last c =
    let chaining : Chaining c.args.cells.now c.args.top c.args.a c.args.b c.loop-last.cells c.loop-last.last
    c.loop-last.end = c.loop-last.invariant in
    let asked : Links c.args.cells.now c.args.top c.args.a c.args.b = c.requires in
    let small : c.loop-last.end < work_cells = omega (arith, end_inside asked chaining, asked.sound.small, chaining.listing.wasted.same_length) in
    omega (arith, small)

pub nest-requires : goal.nest-requires
nest-requires c =
    let asked : Links c.args.cells.now c.args.top c.args.a c.args.b = c.requires in
    let chaining : Chaining c.args.cells.now c.args.top c.args.a c.args.b c.loop-last.cells c.loop-last.last
    c.loop-last.end = c.loop-last.invariant in
    let told : c.node_at-node.result ≡ node_of (get_or c.loop-last.cells c.loop-last.last 0) = c.node_at-node.ensures in
    chain_asks asked chaining told c.joins.ensures c.if-joins.false

pub returns-in-loop-last : goal.returns-in-loop-last
returns-in-loop-last c =
    let asked : Links c.args.cells.now c.args.top c.args.a c.args.b = c.requires in
    let chaining : Chaining c.args.cells.now c.args.top c.args.a c.args.b c.loop-last.cells c.loop-last.last
    c.loop-last.end = c.loop-last.invariant in
    let told : c.node_at-node.result ≡ node_of (get_or c.loop-last.cells c.loop-last.last 0) = c.node_at-node.ensures in
    chain_made asked chaining told c.joins.ensures c.if-joins.false
    c.nest.ensures

pub shape_of-cells-in-loop-last : goal.shape_of-cells-in-loop-last
shape_of-cells-in-loop-last c = (returns-in-loop-last c).grown.same_length
