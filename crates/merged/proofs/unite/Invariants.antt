-- `merged::unite` meets its contract: a turn lists a member of the merge, and where what is left stands in a cell all are nested.
-- The measure is the sum of both cells' numbers. Assumes nothing.
use Prim.Native.Nat.{◌+◌}
use Rattle.merged.specs.UniteLaws.{Uniting}
use Rattle.merged.proofs.unite.Given as goal

abbrev pub invariant-loop-root : goal.invariant-loop-root
invariant-loop-root l = Uniting l.join l.initial.cells l.top l.a l.b l.cells l.left l.right l.end

abbrev pub decreases-loop-root : goal.decreases-loop-root
decreases-loop-root l = l.left + l.right
