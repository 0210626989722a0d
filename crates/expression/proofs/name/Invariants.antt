-- `expression::name` meets its contract: the bytes so far begin a name, and no cell has changed.
-- Assumes nothing.
use mathlib.Core.Path.{◌≡◌}
use Rattle.expression.specs.LeafLaws.{NamedSoFar}
use Rattle.expression.proofs.name.Given as goal

abbrev pub invariant-loop-to : goal.invariant-loop-to
invariant-loop-to l = NamedSoFar l.text l.at l.to × (l.cells ≡ l.initial.cells)
