-- `cutting::is_dead` meets its contract. The loop's invariant: the flag tells whether no byte below c leads out.
-- Assumes nothing.
use mathlib.Core.Path.{◌≡◌}
use Rattle.cutting.specs.Dead.{keeps}
use Rattle.cutting.proofs.is_dead.Given as goal

abbrev pub invariant-loop-c : goal.invariant-loop-c
invariant-loop-c l = l.stays ≡ keeps l.targets l.state l.c
