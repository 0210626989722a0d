-- `laid::lay_set` meets its contract: the loop has laid the ranges from the set's first up to i.
-- Assumes nothing.
use Prim.Native.Nat.{◌≤◌}
use Rattle.laid.specs.Laid.{Adds}
use Rattle.laid.specs.TableLaws.{nodes_of, some}
use Rattle.laid.proofs.lay_set.Given as goal

abbrev pub invariant-loop-i : goal.invariant-loop-i
invariant-loop-i l = (l.i ≤ l.end) × Adds l.initial.cells l.top (nodes_of (some l.from l.i)) l.cells l.t
