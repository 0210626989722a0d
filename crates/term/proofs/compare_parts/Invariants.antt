-- `term::compare_parts` meets its contract: one law a way through a turn, and one for each end of the loop.
-- The measure is the number of nodes of the first term that are still to be seen. Assumes nothing.
use Rattle.term.specs.Places.{ahead}
use Rattle.term.specs.Compares.{lefts, rights, Comparing}
use Rattle.term.proofs.compare_parts.Given as goal

abbrev pub invariant-loop-order : goal.invariant-loop-order
invariant-loop-order l = Comparing l.cells l.i l.j (lefts l.pairs) (rights l.pairs) l.waiting l.a l.b

abbrev pub decreases-loop-order : goal.decreases-loop-order
decreases-loop-order l = ahead l.cells (lefts l.pairs) l.waiting l.a
