-- `shown::write_text` meets its contract. The loop's invariant: the area lacks the text of the item that was reached, and only that.
-- The measure is the item's number, since each was found from a lower one. Assumes nothing.
use Rattle.shown.specs.ShowLaws.{Lacks}
use Rattle.shown.proofs.write_text.Given as goal

abbrev pub invariant-loop-item : goal.invariant-loop-item
invariant-loop-item l = Lacks l.cells l.k l.initial.area l.area l.item l.left

abbrev pub decreases-loop-item : goal.decreases-loop-item
decreases-loop-item l = l.item
