-- `turns::put_words` meets its contract: each turn puts the line of one record, and those of the others are left.
-- Assumes nothing.
use Prim.Native.Nat.{ℕ, suc, ◌+◌, ◌-◌, ◌*◌, ◌/◌, ◌<◌, ◌≤◌}
use native.Mathlib.Nat.{sub-zero}
use native.Mathlib.Omega.{arith}
use mathlib.Core.Path.{◌≡◌, refl}
use lib.ListN.{length, drop}
use Rattle.std.proofs.Common.{add-zero, length-take}
use Rattle.cutting.specs.Flat.{record_cells}
use Rattle.turns.specs.Turned.{kind_by}
use Rattle.turns.specs.TurnedLaws.{record_at, lines_none, lines_more}
use Rattle.turns.proofs.put_words.Goals as goal

pub loop-start-init : goal.loop-start-init
loop-start-init c = (refl, omega arith, λ s next w. rw sub-zero at w)

pub loop-start-preserved : goal.loop-start-preserved
loop-start-preserved c =
    let within : c.loop-start.start-index < c.args.count = omega (arith, c.loop-start-test.true, length-take c.args.count c.as_chunks.result.0.now) in
    let few : c.args.count ≤ length c.args.records.now / record_cells = omega (arith, c.requires.count_in_bounds) in
    let cell = λ (j : ℕ) (h : j < record_cells). record_at c.args.records.now c.args.count c.loop-start.start-index j c.as_chunks.ensures.front within few h in
    let start = rw add-zero at (cell 0 (omega arith)) in
    let len = cell 1 (omega arith) in
    let rule = cell 2 (omega arith) in
    let left : c.args.count - c.loop-start.start-index ≡ suc (c.args.count - (c.loop-start.start-index + 1)) = omega arith in (
      omega (arith, c.loop-start.invariant.0, c.put_word-end.auto.out),
      omega (arith, c.loop-start.invariant.1, c.put_word-end.ensures.upper_bound),
      λ s next w. c.loop-start.invariant.2 s next (lines_more (kind_by c.args.kinds.now) c.args.records.now c.loop-start.start-index _ _ _ left
          (omega (arith, c.requires.count_in_bounds_2, c.loop-start.invariant.0, c.loop-start.invariant.1, within))
          (rw rule at c.kind_at-kind.ensures) (rw (start, len, rule) at c.put_word-end.ensures.writes) w),
    )

pub returns-clause-writes : goal.returns-clause-writes
returns-clause-writes c =
    let all : c.args.count ≤ c.loop-start.start-index =
    omega (arith, c.loop-start-test.false, length-take c.args.count c.as_chunks.result.0.now, c.as_chunks.ensures.front_len, c.requires.count_in_bounds) in
    c.loop-start.invariant.2 c.loop-start.out c.loop-start.end
    (lines_none (kind_by c.args.kinds.now) (drop (record_cells * c.loop-start.start-index) c.args.records.now) c.loop-start.out _ c.loop-start.end (omega arith))
