-- `cutting::is_dead` meets its contract: a label, or a byte that leads out, is told, and after all bytes the flag is.
-- Assumes nothing.
use Prim.Native.Nat.{◌+◌, ◌*◌}
use native.Mathlib.Omega.{arith}
use mathlib.Core.Path.{◌≡◌, sym, ap, ◌∙◌}
use Rattle.number.specs.Limits.{bytes}
use Rattle.cutting.specs.Dead.{keeps}
use Rattle.cutting.specs.DeadLaws.{keeps_none, keeps_more, keeps_not, dead_not, dead_told}
use Rattle.cutting.proofs.is_dead.Goals as goal
use Rattle.cutting.proofs.is_dead.Goals.{then-targets-row, else-targets-row}

pub returns-then-labels-state-ne0 : goal.returns-then-labels-state-ne0
returns-then-labels-state-ne0 c = dead_not _ _ _ (λ d. c.if-labels-state-ne0.true d.unlabelled)

pub returns-then-first-state : goal.returns-then-first-state
returns-then-first-state c =
    let start : c.args.state * bytes + 0 ≡ c.args.state * bytes = omega arith in
    dead_not _ _ _ (λ d. c.if-first-state.true (rw start at (d.stays 0 (omega arith))))

pub loop-c-init : goal.loop-c-init
loop-c-init c = sym (keeps_none _ _)

pub loop-c-preserved : goal.loop-c-preserved
loop-c-preserved c =
    elim c.if-targets-row.branch [
      | then-targets-row w ↦ w.stays-is ∙ keeps_not _ _ c.loop-c.c (λ e. w.if-targets-row.true (e ∙ sym c.if-first-state.false))
      | else-targets-row w ↦ w.stays-is ∙ c.loop-c.invariant ∙ keeps_more _ _ c.loop-c.c (w.if-targets-row.false ∙ c.if-first-state.false)
    ]

pub returns : goal.returns
returns c =
    let all : c.loop-c.c ≡ bytes = omega arith in
    c.loop-c.invariant ∙ ap (keeps c.args.targets.now c.args.state) all ∙ dead_told _ _ _ c.if-labels-state-ne0.false
