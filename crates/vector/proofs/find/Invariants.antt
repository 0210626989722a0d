-- `find` looks for an item: so far no item passed has this sheet state and these numbers.
-- The first that has ends it; past the last there is none.
use Rattle.std.proofs.Common.{ℕ, ◌<◌}
use Rattle.vector.specs.Promises.{IsPair}
use Rattle.vector.proofs.find.Given as goal

abbrev pub invariant-loop-k : goal.invariant-loop-k
invariant-loop-k l = (j : ℕ) → j < l.k → IsPair l.cells j l.sheet l.v.at → ⊥
