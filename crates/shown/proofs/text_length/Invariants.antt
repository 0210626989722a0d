-- `shown::text_length` meets its contract. The loop's invariant: the bytes counted and those of the item's text are the text's that was asked.
-- The measure is the item's number, since each was found from a lower one. Assumes nothing.
use Prim.Native.Nat.{◌+◌, ◌≤◌}
use mathlib.Core.Path.{◌≡◌}
use lib.ListN.{length}
use Rattle.vector.specs.Memory.{text_of}
use Rattle.shown.proofs.text_length.Given as goal

abbrev pub invariant-loop-item : goal.invariant-loop-item
invariant-loop-item l = (l.item ≤ l.k) × (l.len + length (text_of l.cells l.item) ≡ length (text_of l.cells l.k))

abbrev pub decreases-loop-item : goal.decreases-loop-item
decreases-loop-item l = l.item
