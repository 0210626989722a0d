-- `table::all_below` meets its contract: the largest of the cells is tested for all of them. Assumes nothing.
use Rattle.std.proofs.Common.{sym, ◌∙◌}
use Rattle.std.proofs.lemmas.Iterator.{YieldsList-from_slice}
use Rattle.std.proofs.lemmas.Iterator.Adapters.{option_map_id}
use Rattle.std.proofs.lemmas.Iterator.Consumers.{YieldsList-at, YieldsList-from_copied, max_from_yields_List}
use Rattle.table.specs.TableLaws.{below_none, below_most}
use Rattle.table.proofs.all_below.Goals as goal

pub returns-in-Some : goal.returns-in-Some
returns-in-Some c =
    let cells = YieldsList-from_copied (YieldsList-at c.copied.ensures.source (YieldsList-from_slice c.args.cells.now cc)) in
    let largest = sym (option_map_id _) ∙ max_from_yields_List c.copied.result _ c.max.ensures.ran cells in
    below_most c.args.limit c.in-Some.most c.args.cells.now (sym c.in-Some.is ∙ largest)

pub returns-in-None : goal.returns-in-None
returns-in-None c =
    let cells = YieldsList-from_copied (YieldsList-at c.copied.ensures.source (YieldsList-from_slice c.args.cells.now cc)) in
    let largest = sym (option_map_id _) ∙ max_from_yields_List c.copied.result _ c.max.ensures.ran cells in
    below_none c.args.limit c.args.cells.now (sym c.in-None.is ∙ largest)
