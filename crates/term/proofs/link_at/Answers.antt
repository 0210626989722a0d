-- `term::link_at` meets its contract: the cell's link is what `link_of` takes out of it.
-- Assumes nothing.
use mathlib.Core.Path.{refl}
use Rattle.term.specs.Cells.{link_of}
use Rattle.term.proofs.link_at.Goals as goal

pub returns : goal.returns
unfolding link_of
returns c = refl
