-- `merged::merge` meets its contract: Nothing on a side is told by `beside`, and all else is the merge.
-- Assumes nothing.
use Rattle.term.specs.Nodes.{Found}
use Rattle.term.specs.CellLaws.{found}
use Rattle.normal.specs.NodeLaws.{told_nothing}
use Rattle.merged.specs.Asked.{Sides}
use Rattle.merged.specs.UniteLaws.{none_left, none_right, merge_asks, merge_made}
use Rattle.merged.proofs.merge.Goals as goal

pub returns-then-is_nothing : goal.returns-then-is_nothing
returns-then-is_nothing c =
    let asked : Sides c.args.join c.args.cells.now c.args.top c.args.a c.args.b = c.requires in
    let x : Found c.args.cells.now c.args.a c.node_at-x.result = found _ _ _ _ asked.sound asked.left c.node_at-x.ensures in
    none_left asked (told_nothing x c.is_nothing.ensures c.if-is_nothing.true) c.beside.ensures

pub returns-then-is_nothing-2 : goal.returns-then-is_nothing-2
returns-then-is_nothing-2 c =
    let asked : Sides c.args.join c.args.cells.now c.args.top c.args.a c.args.b = c.requires in
    let y : Found c.args.cells.now c.args.b c.node_at-y.result = found _ _ _ _ asked.sound asked.right c.node_at-y.ensures in
    none_right asked (told_nothing y c.is_nothing-2.ensures c.if-is_nothing-2.true) c.beside-then-is_nothing-2.ensures

pub unite-requires : goal.unite-requires
unite-requires c =
    let asked : Sides c.args.join c.args.cells.now c.args.top c.args.a c.args.b = c.requires in
    let x : Found c.args.cells.now c.args.a c.node_at-x.result = found _ _ _ _ asked.sound asked.left c.node_at-x.ensures in
    let y : Found c.args.cells.now c.args.b c.node_at-y.result = found _ _ _ _ asked.sound asked.right c.node_at-y.ensures in
    merge_asks asked (told_nothing x c.is_nothing.ensures c.if-is_nothing.false)
    (told_nothing y c.is_nothing-2.ensures c.if-is_nothing-2.false)

pub returns : goal.returns
returns c =
    let asked : Sides c.args.join c.args.cells.now c.args.top c.args.a c.args.b = c.requires in
    let x : Found c.args.cells.now c.args.a c.node_at-x.result = found _ _ _ _ asked.sound asked.left c.node_at-x.ensures in
    let y : Found c.args.cells.now c.args.b c.node_at-y.result = found _ _ _ _ asked.sound asked.right c.node_at-y.ensures in
    merge_made asked (told_nothing x c.is_nothing.ensures c.if-is_nothing.false)
    (told_nothing y c.is_nothing-2.ensures c.if-is_nothing-2.false) c.unite.ensures
