-- `cutting::run_from` meets its contract. The loop's invariant: the bytes from the start up to i stay in the state.
-- Assumes nothing.
use Prim.Native.Nat.{ℕ, ◌<◌, ◌≤◌}
use mathlib.Core.Path.{◌≡◌}
use Rattle.cutting.specs.Walk.{led}
use Rattle.cutting.proofs.run_from.Given as goal

abbrev pub invariant-loop-i : goal.invariant-loop-i
invariant-loop-i l = (j : ℕ) → l.from ≤ j → j < l.i → led l.targets l.text l.state j ≡ l.state
