-- `table::fill` meets its contract: the library fills the part, which is then written there. Assumes nothing.
use Rattle.table.specs.FillLaws.{part_filled}
use Rattle.table.proofs.fill.Goals as goal

pub returns : goal.returns
returns c = part_filled c.args.cells.now c.args.from c.args.end c.args.value c.requires.1 (c.fill.ensures.after (λ y h. h))
