-- `cutting::cut_into` meets its contract: a table that passes its test can be walked, and each turn is one law of what remains of the cut.
-- Assumes nothing.
use native.Mathlib.Omega.{arith}
use mathlib.Core.Path.{sym, ap, ◌∙◌}
use lib.ListN.{drop}
use Rattle.table.specs.Table.{lent}
use Rattle.cutting.specs.Walk.{next}
use Rattle.cutting.specs.WalkLaws.{well_walkable}
use Rattle.cutting.specs.CutLaws.{by_table, found_fits}
use Rattle.cutting.specs.TurnLaws.{stands_done, stands_stuck, stands_full, stands_word, slots_end}
use Rattle.cutting.proofs.cut_into.Goals as goal

pub dead_state-dead-requires : goal.dead_state-dead-requires
dead_state-dead-requires g c = well_walkable _ _ _ (sym c.well_formed-2.ensures.answer ∙ c.if-not-well_formed.false)

pub next_word-requires : goal.next_word-requires
next_word-requires g c =
    record {
      walkable = well_walkable _ _ _ (sym c.well_formed-2.ensures.answer ∙ c.if-not-well_formed.false);
      found = c.dead_state-dead.ensures;
    }

pub returns-in_default : goal.returns-in_default
returns-in_default g c =
    let formed = sym c.well_formed-2.ensures.answer ∙ c.if-not-well_formed.false in
    slots_end _ _ _ _ _ _ _ formed (stands_stuck _ _ _ _ c.loop-at.invariant.1 c.loop-at-test.true (ap next (sym c.in_default.is) ∙ c.next_word.ensures))

pub returns-then-room-k : goal.returns-then-room-k
returns-then-room-k g c =
    let formed = sym c.well_formed-2.ensures.answer ∙ c.if-not-well_formed.false in
    slots_end _ _ _ _ _ _ _ formed (stands_full _ _ _ _ c.loop-at.invariant.1 c.loop-at-test.true _ _ c.in-Some.ensures (omega (arith, c.if-room-k.true, c.room-room.ensures)))

pub overflow_add-at : goal.overflow_add-at
overflow_add-at g c =
    omega (arith, found_fits (by_table (lent c.args.count c.args.labels.now c.args.targets.now)) c.args.text.now c.loop-at.at c.in-Some.len c.in-Some.rule c.in-Some.ensures)

pub loop-at-smaller : goal.loop-at-smaller
loop-at-smaller g c =
    let by = by_table (lent c.args.count c.args.labels.now c.args.targets.now) in
    let some = (by.proper (drop c.loop-at.at c.args.text.now) c.in-Some.len c.in-Some.rule (rw (← c.in-Some.ensures) at (by.found (drop c.loop-at.at c.args.text.now)))).0 in
    omega (arith, some, c.loop-at-test.true)

pub loop-at-preserved : goal.loop-at-preserved
loop-at-preserved g c = (
  c.put.ensures.room ∙ c.loop-at.invariant.0,
  rw c.put.ensures.put
      (stands_word _ _ _ _ c.loop-at.invariant.1 c.loop-at-test.true _ _ c.in-Some.ensures (omega (arith, c.if-room-k.false, c.room-room.ensures))),
)

pub returns : goal.returns
returns g c =
    let formed = sym c.well_formed-2.ensures.answer ∙ c.if-not-well_formed.false in
    slots_end _ _ _ _ _ _ _ formed (stands_done _ _ _ _ c.loop-at.invariant.1 c.loop-at-test.false)
