-- `filled::fill_labels` meets its contract: the labels of the items below the next one stand at the front of the area.
-- Assumes nothing.
use native.Mathlib.Omega.{arith}
use Rattle.filled.specs.TabledLaws.{labelled_first, labelled_small, labelled_more}
use Rattle.filled.proofs.fill_labels.Goals as goal

pub loop-i-init : goal.loop-i-init
loop-i-init c = labelled_first c.requires

pub overflow_cast-labels : goal.overflow_cast-labels
overflow_cast-labels c =
    let small = labelled_small c.requires c.loop-i-test.true c.load.ensures c.label_of.ensures in
    omega arith

pub loop-i-preserved : goal.loop-i-preserved
loop-i-preserved c =
    labelled_more c.requires c.loop-i-test.true c.load.ensures c.label_of.ensures c.loop-i.auto.labels c.loop-i.invariant
