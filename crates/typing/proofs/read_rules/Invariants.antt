-- `typing::read_rules` meets its contract: the lines up to p are read and added.
-- Assumes nothing.
use Prim.Native.Nat.{◌-◌}
use lib.ListN.{length}
use Rattle.typing.specs.SumLaws.{RulesSoFar}
use Rattle.typing.proofs.read_rules.Given as goal

abbrev pub invariant-loop-p : goal.invariant-loop-p
invariant-loop-p l = RulesSoFar l.text l.p l.sum l.cells l.book

abbrev pub decreases-loop-p : goal.decreases-loop-p
decreases-loop-p l = length l.text - l.p
