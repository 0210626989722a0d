-- `turns::cut_turn` meets its contract: in each arm the lines of the words that the cut left, and then the last line, if it is due.
-- Assumes nothing.
use Prim.Native.Nat.{◌-◌, ◌/◌}
use native.Mathlib.Omega.{arith}
use mathlib.Core.Path.{ap}
use lib.ListN.{length}
use Rattle.cutting.specs.Calls.{ended}
use Rattle.cutting.specs.Cut.Ending.{Done, StuckAt, FullAt}
use Rattle.cutting.specs.Flat.{record_cells}
use Rattle.turns.specs.Turned.{kind_by, turn_of}
use Rattle.turns.specs.TurnedLaws.{Came, came, came_not, turn_done, turn_stuck, turn_full, turn_refused}
use Rattle.turns.proofs.cut_turn.Goals as goal
use Rattle.turns.proofs.cut_turn.Goals.{In-Ok-Done, In-Ok-Stuck, In-Ok-Full}

-- what the cut left, at each of its ends
done : (c : In-Ok-Done)
    → Came (turn_of c.args.count c.args.labels.now c.args.targets.now c.args.text.now c.args.place (length c.args.records.now / record_cells))
    c.cut_from.new.records (length c.args.records.now / record_cells) (length c.args.text.now - c.args.place) c.in-Ok-Done.n Done
done c = came _ _ _ _ _ _ _ _ c.cut_from.ensures _ _ (rw (c.in-Ok-Done.is, c.in-Ok-Done.field-0-is))

stuck : (c : In-Ok-Stuck)
    → Came (turn_of c.args.count c.args.labels.now c.args.targets.now c.args.text.now c.args.place (length c.args.records.now / record_cells))
    c.cut_from.new.records (length c.args.records.now / record_cells) (length c.args.text.now - c.args.place) c.in-Ok-Stuck.n (StuckAt c.in-Ok-Stuck.stuck)
stuck c = came _ _ _ _ _ _ _ _ c.cut_from.ensures _ _ (rw (c.in-Ok-Stuck.is, c.in-Ok-Stuck.field-0-is))

full : (c : In-Ok-Full)
    → Came (turn_of c.args.count c.args.labels.now c.args.targets.now c.args.text.now c.args.place (length c.args.records.now / record_cells))
    c.cut_from.new.records (length c.args.records.now / record_cells) (length c.args.text.now - c.args.place) c.in-Ok-Full.n (FullAt c.in-Ok-Full.full)
full c = came _ _ _ _ _ _ _ _ c.cut_from.ensures _ _ (rw (c.in-Ok-Full.is, c.in-Ok-Full.field-0-is))

pub put_words-next-requires : goal.put_words-next-requires
put_words-next-requires c =
    let k = done (goal.at.put_words-next-requires c).In-Ok-Done in
    record { count_in_bounds = omega (arith, k.few, c.cut_from.auto.records); count_in_bounds_2 = omega (arith, k.few, c.requires.record_cells_in_bounds) }

pub overflow_add-total : goal.overflow_add-total
overflow_add-total c =
    let k = done (goal.at.overflow_add-total c).In-Ok-Done in
    omega (arith, k.short, c.requires.place_bound)

pub put_done-requires : goal.put_done-requires
put_done-requires c =
    let k = done (goal.at.put_done-requires c).In-Ok-Done in
    omega (arith, k.few, c.requires.record_cells_in_bounds, c.put_words-next.ensures.upper_bound, c.put_words-next.auto.out)

pub put_words-next-requires-in-Ok-Stuck : goal.put_words-next-requires-in-Ok-Stuck
put_words-next-requires-in-Ok-Stuck c =
    let k = stuck (goal.at.put_words-next-requires-in-Ok-Stuck c).In-Ok-Stuck in
    record { count_in_bounds = omega (arith, k.few, c.cut_from.auto.records); count_in_bounds_2 = omega (arith, k.few, c.requires.record_cells_in_bounds) }

pub put_stuck-requires : goal.put_stuck-requires
put_stuck-requires c =
    let k = stuck (goal.at.put_stuck-requires c).In-Ok-Stuck in
    omega (arith, k.few, c.requires.record_cells_in_bounds, c.put_words-next-in-Ok-Stuck.ensures.upper_bound, c.put_words-next-in-Ok-Stuck.auto.out)

pub put_words-next-requires-in-Ok-Full : goal.put_words-next-requires-in-Ok-Full
put_words-next-requires-in-Ok-Full c =
    let k = full (goal.at.put_words-next-requires-in-Ok-Full c).In-Ok-Full in
    record { count_in_bounds = omega (arith, k.few, c.cut_from.auto.records); count_in_bounds_2 = omega (arith, k.few, c.requires.record_cells_in_bounds) }

pub overflow_add-result : goal.overflow_add-result
overflow_add-result c =
    let k = full (goal.at.overflow_add-result c).In-Ok-Full in
    omega (arith, k.short, c.requires.place_bound)

pub returns-in-Ok-Done : goal.returns-in-Ok-Done
returns-in-Ok-Done c =
    let k = done (goal.at.returns-in-Ok-Done c).In-Ok-Done in
    turn_done (kind_by c.args.kinds.now) c.args.total _ c.put_words-next.ensures.writes
    (omega (arith, k.few, c.requires.record_cells_in_bounds, c.put_words-next.ensures.upper_bound, c.put_words-next.auto.out, c.put_done.ensures.upper_bound, c.put_done.auto.out)) k c.put_done.ensures.writes

pub returns-in-Ok-Stuck : goal.returns-in-Ok-Stuck
returns-in-Ok-Stuck c =
    let k = stuck (goal.at.returns-in-Ok-Stuck c).In-Ok-Stuck in
    turn_stuck (kind_by c.args.kinds.now) c.args.total _ c.put_words-next-in-Ok-Stuck.ensures.writes
    (omega (arith, k.few, c.requires.record_cells_in_bounds, c.put_words-next-in-Ok-Stuck.ensures.upper_bound, c.put_words-next-in-Ok-Stuck.auto.out, c.put_stuck.ensures.upper_bound, c.put_stuck.auto.out)) _ k c.put_stuck.ensures.writes

pub returns-in-Ok-Full : goal.returns-in-Ok-Full
returns-in-Ok-Full c =
    let k = full (goal.at.returns-in-Ok-Full c).In-Ok-Full in
    turn_full (kind_by c.args.kinds.now) c.args.total _ _ c.put_words-next-in-Ok-Full.ensures.writes
    (omega (arith, k.few, c.requires.record_cells_in_bounds, c.put_words-next-in-Ok-Full.ensures.upper_bound, c.put_words-next-in-Ok-Full.auto.out)) k

pub returns-in-Err : goal.returns-in-Err
returns-in-Err c =
    turn_refused (kind_by c.args.kinds.now) c.args.total _
    (came_not _ _ _ _ _ _ _ _ c.cut_from.ensures _ (ap ended c.in-Err.is))
    c.put_refused.ensures.writes (omega (arith, c.requires.record_cells_in_bounds, c.put_refused.ensures.upper_bound, c.put_refused.auto.out))
