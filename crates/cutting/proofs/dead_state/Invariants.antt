-- `cutting::dead_state` meets its contract. The loop's invariant: the search from s on finds what the whole search finds.
-- Assumes nothing.
use Prim.Native.Nat.{◌-◌}
use mathlib.Core.Path.{◌≡◌}
use Rattle.cutting.specs.Dead.{dead_from, dead_of}
use Rattle.cutting.proofs.dead_state.Given as goal

abbrev pub invariant-loop-s : goal.invariant-loop-s
invariant-loop-s l = dead_from l.labels l.targets l.s (l.count - l.s) ≡ dead_of l.count l.labels l.targets
