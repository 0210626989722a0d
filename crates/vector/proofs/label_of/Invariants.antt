-- `label_of` works out the label of a part of a vector: so far no term passed matches the empty text, so the label is that of what remains.
-- The first that matches ends it; past the last rule there is none.
use Rattle.vector.specs.PlaceLaws.{LabelLeft}
use Rattle.vector.proofs.label_of.Given as goal

abbrev pub invariant-loop-i : goal.invariant-loop-i
invariant-loop-i l = LabelLeft l.cells l.from l.to l.v.at l.i
