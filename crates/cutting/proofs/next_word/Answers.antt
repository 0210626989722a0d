-- `cutting::next_word` meets its contract: each return is one law of the walk, and so is what a run and the state after it leave of the scan.
-- Assumes nothing.
use native.Mathlib.Omega.{arith}
use mathlib.Core.Path.{sym, ◌∙◌}
use Rattle.cutting.specs.WalkLaws.{better_new, along_none, along_start, along_dead, along_ends, goes_on, along_next}
use Rattle.cutting.proofs.Byte.{byte_fits}
use Rattle.cutting.proofs.next_word.Goals as goal

pub returns-then-text-at : goal.returns-then-text-at
returns-then-text-at c =
    along_none _ _ _ _ _ c.requires.walkable (byte_fits _ c.type_inv.text) c.if-text-at.true

pub returns-then-state-dead : goal.returns-then-state-dead
returns-then-state-dead c =
    let start = along_start c.args.count c.args.labels.now c.args.targets.now c.args.text.now c.args.at c.requires.walkable (byte_fits _ c.type_inv.text) (omega arith) in
    along_dead _ _ _ _ _ c.requires.walkable (byte_fits _ c.type_inv.text) start (c.if-state-dead.true ∙ c.requires.found)

pub loop-ran-init : goal.loop-ran-init
loop-ran-init c =
    (omega arith, omega arith, omega arith, along_start _ _ _ _ _ c.requires.walkable (byte_fits _ c.type_inv.text) (omega arith))

pub returns-then-l-eq0 : goal.returns-then-l-eq0
returns-then-l-eq0 c =
    let last = along_ends _ _ _ _ _ c.requires.walkable (byte_fits _ c.type_inv.text) c.loop-ran.invariant.3 c.run_from-ran.ensures c.requires.found c.if-ran-dead.true in
    c.best_word.ensures ∙ rw c.if-l-eq0.true at last

pub returns-then-ran-dead : goal.returns-then-ran-dead
returns-then-ran-dead c =
    let last = along_ends _ _ _ _ _ c.requires.walkable (byte_fits _ c.type_inv.text) c.loop-ran.invariant.3 c.run_from-ran.ensures c.requires.found c.if-ran-dead.true in
    c.best_word-then-ran-dead.ensures ∙ sym (better_new _ _ _ c.if-l-eq0.false) ∙ last

pub loop-ran-preserved-then-l-ne0 : goal.loop-ran-preserved-then-l-ne0
loop-ran-preserved-then-l-ne0 c =
    let next = along_next _ _ _ _ _ c.requires.walkable (byte_fits _ c.type_inv.text) c.loop-ran.invariant.3 c.run_from-ran.ensures c.if-ran-dead.false in (
      omega (arith, c.run_from-ran.ensures.onward, c.loop-ran.invariant.1),
      omega (arith, c.run_from-ran.ensures.onward, c.loop-ran.invariant.1),
      goes_on _ _ _ _ _ c.requires.walkable (byte_fits _ c.type_inv.text) c.loop-ran.invariant.3 c.run_from-ran.ensures c.if-ran-dead.false,
      rw (better_new _ _ _ c.if-l-ne0.true) at next,
    )

pub loop-ran-preserved : goal.loop-ran-preserved
loop-ran-preserved c =
    let next = along_next _ _ _ _ _ c.requires.walkable (byte_fits _ c.type_inv.text) c.loop-ran.invariant.3 c.run_from-ran.ensures c.if-ran-dead.false in (
      c.loop-ran.invariant.0,
      omega (arith, c.run_from-ran.ensures.onward, c.loop-ran.invariant.1),
      goes_on _ _ _ _ _ c.requires.walkable (byte_fits _ c.type_inv.text) c.loop-ran.invariant.3 c.run_from-ran.ensures c.if-ran-dead.false,
      rw c.if-l-ne0.false at next,
    )
