-- `filled::fill_labels` meets its contract: the labels of the items below the next one stand at the front of the area.
-- Assumes nothing.
use mathlib.Core.Path.{◌≡◌}
use Rattle.number.specs.Lists.{written}
use Rattle.vector.specs.Memory.{items_of}
use Rattle.filled.specs.Tabled.{labels_of}
use Rattle.filled.proofs.fill_labels.Given as goal

abbrev pub invariant-loop-i : goal.invariant-loop-i
invariant-loop-i l = l.labels ≡ written l.initial.labels 0 (labels_of (items_of l.cells l.n l.i))
