-- `term::is_short` meets its contract: one law a way through a turn, and one for each end of the loop. Assumes nothing.
use Prim.Native.Nat.{◌-◌}
use Rattle.number.specs.Limits.{tree_nodes}
use Rattle.term.specs.Counts.{Counting}
use Rattle.term.proofs.is_short.Given as goal

abbrev pub invariant-loop-seen : goal.invariant-loop-seen
invariant-loop-seen l = Counting l.initial.cells l.top l.i l.cells l.at l.end (tree_nodes - l._seen)
