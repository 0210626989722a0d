-- `is_pair` tells whether an item has a sheet state and a vector: so far every place passed has the same number in both.
-- A place that differs shows that the vectors do.
use Rattle.std.proofs.Common.{ℕ, ◌<◌, ◌≡◌}
use Rattle.std.specs.Prelude.{length, get_or}
use Rattle.number.specs.Limits.{rules}
use Rattle.vector.specs.Memory.{numbers_at}
use Rattle.vector.proofs.is_pair.Given as goal

abbrev pub invariant-loop-place : goal.invariant-loop-place
invariant-loop-place l = (length l.v.at ≡ rules) × ((j : ℕ) → j < l.place → get_or (numbers_at l.cells l.k) j 0 ≡ get_or l.v.at j 0)
