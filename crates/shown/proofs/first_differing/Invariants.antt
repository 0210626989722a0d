-- `shown::first_differing` meets its contract. The loop's invariant: the items passed agree, so that the answer is that of the others.
-- Assumes nothing.
use Rattle.shown.specs.ShowLaws.{Left}
use Rattle.shown.proofs.first_differing.Given as goal

abbrev pub invariant-loop-k : goal.invariant-loop-k
invariant-loop-k l = Left l.cells l.n l.count l.labels l.k
