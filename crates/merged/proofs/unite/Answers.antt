-- `merged::unite` meets its contract: a turn lists a member of the merge, and where what is left stands in a cell all are nested.
-- Assumes nothing.
use Rattle.std.proofs.Common.{arith, ◌<◌}
use Rattle.number.specs.Limits.{work_cells}
use Rattle.merged.specs.UniteLaws.{whole, pair, more, meets, uniting_first, whole_asks, whole_made}
use Rattle.merged.specs.UniteLaws.{pair_inside, pair_asks, pair_made, more_inside, uniting_next}
use Rattle.merged.proofs.unite.Goals as goal

pub loop-root-init : goal.loop-root-init
loop-root-init c = uniting_first c.requires

pub next_member-step-requires : goal.next_member-step-requires
next_member-step-requires c = meets c.loop-root.invariant.rest

pub nest-requires : goal.nest-requires
nest-requires c = whole_asks c.requires c.loop-root.invariant (whole c.next_member-step.ensures c.in-Whole.is)

pub returns-in-Whole : goal.returns-in-Whole
returns-in-Whole c =
    whole_made c.requires c.loop-root.invariant (whole c.next_member-step.ensures c.in-Whole.is) c.nest.ensures

pub bounds-cells-end : goal.bounds-cells-end
bounds-cells-end c = pair_inside c.requires c.loop-root.invariant (pair c.next_member-step.ensures c.in-Pair.is)

pub offset_bounds-cells-end : goal.offset_bounds-cells-end
offset_bounds-cells-end c =
    let inside = pair_inside c.requires c.loop-root.invariant (pair c.next_member-step.ensures c.in-Pair.is) in
    let small : c.loop-root.end < work_cells = omega (arith, inside, c.loop-root.invariant.rest.sound.small) in
    omega (arith, small)

pub overflow_add-end : goal.overflow_add-end
overflow_add-end c =
    let inside = pair_inside c.requires c.loop-root.invariant (pair c.next_member-step.ensures c.in-Pair.is) in
    let small : c.loop-root.end < work_cells = omega (arith, inside, c.loop-root.invariant.rest.sound.small) in
    omega (arith, small)

pub nest-requires-in-Pair : goal.nest-requires-in-Pair
nest-requires-in-Pair c =
    pair_asks c.requires c.loop-root.invariant (pair c.next_member-step.ensures c.in-Pair.is)

pub returns-in-Pair : goal.returns-in-Pair
returns-in-Pair c =
    pair_made c.requires c.loop-root.invariant (pair c.next_member-step.ensures c.in-Pair.is) c.nest-in-Pair.ensures

pub bounds-cells-end-in-More : goal.bounds-cells-end-in-More
bounds-cells-end-in-More c = more_inside c.requires c.loop-root.invariant (more c.next_member-step.ensures c.in-More.is)

pub offset_bounds-cells-end-in-More : goal.offset_bounds-cells-end-in-More
offset_bounds-cells-end-in-More c =
    let inside = more_inside c.requires c.loop-root.invariant (more c.next_member-step.ensures c.in-More.is) in
    let small : c.loop-root.end < work_cells = omega (arith, inside, c.loop-root.invariant.rest.sound.small) in
    omega (arith, small)

pub overflow_add-end-in-More : goal.overflow_add-end-in-More
overflow_add-end-in-More c =
    let inside = more_inside c.requires c.loop-root.invariant (more c.next_member-step.ensures c.in-More.is) in
    let small : c.loop-root.end < work_cells = omega (arith, inside, c.loop-root.invariant.rest.sound.small) in
    omega (arith, small)

pub loop-root-smaller : goal.loop-root-smaller
loop-root-smaller c = (more c.next_member-step.ensures c.in-More.is).falls

pub loop-root-preserved : goal.loop-root-preserved
loop-root-preserved c =
    uniting_next c.requires c.loop-root.invariant (more c.next_member-step.ensures c.in-More.is)
