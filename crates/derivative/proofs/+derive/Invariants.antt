-- `derivative::derive` calls itself at a part of its term, which stands in a cell of a smaller number. Assumes nothing.
use Rattle.derivative.proofs.+derive.Given as goal

abbrev pub decreases-derive : goal.decreases-derive
decreases-derive l = l.i
