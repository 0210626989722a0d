-- `normal::cat` meets its contract: one law a return, by what the tests told of the two sides.
-- Assumes nothing.
use Rattle.term.specs.Nodes.{Found}
use Rattle.term.specs.CellLaws.{found}
use Rattle.normal.specs.Asked.{Links}
use Rattle.normal.specs.NodeLaws.{told_nothing, told_empty}
use Rattle.normal.specs.ChainLaws.{cat_none_left, cat_none_right, cat_skip_left, cat_skip_right, cat_both}
use Rattle.normal.proofs.cat.Goals as goal

pub returns-then-is_nothing : goal.returns-then-is_nothing
returns-then-is_nothing c =
    let asked : Links c.args.cells.now c.args.top c.args.a c.args.b = c.requires in
    let x : Found c.args.cells.now c.args.a c.node_at-x.result = found _ _ _ _ asked.sound asked.left c.node_at-x.ensures in
    cat_none_left asked (told_nothing x c.is_nothing.ensures c.if-is_nothing.true)

pub returns-then-is_nothing-2 : goal.returns-then-is_nothing-2
returns-then-is_nothing-2 c =
    let asked : Links c.args.cells.now c.args.top c.args.a c.args.b = c.requires in
    let x : Found c.args.cells.now c.args.a c.node_at-x.result = found _ _ _ _ asked.sound asked.left c.node_at-x.ensures in
    let y : Found c.args.cells.now c.args.b c.node_at-y.result = found _ _ _ _ asked.sound asked.right c.node_at-y.ensures in
    cat_none_right asked (told_nothing x c.is_nothing.ensures c.if-is_nothing.false)
    (told_nothing y c.is_nothing-2.ensures c.if-is_nothing-2.true)

pub returns-then-is_empty : goal.returns-then-is_empty
returns-then-is_empty c =
    let asked : Links c.args.cells.now c.args.top c.args.a c.args.b = c.requires in
    let x : Found c.args.cells.now c.args.a c.node_at-x.result = found _ _ _ _ asked.sound asked.left c.node_at-x.ensures in
    let y : Found c.args.cells.now c.args.b c.node_at-y.result = found _ _ _ _ asked.sound asked.right c.node_at-y.ensures in
    cat_skip_left asked (told_nothing x c.is_nothing.ensures c.if-is_nothing.false)
    (told_nothing y c.is_nothing-2.ensures c.if-is_nothing-2.false) (told_empty x c.is_empty.ensures c.if-is_empty.true)

pub returns-then-is_empty-2 : goal.returns-then-is_empty-2
returns-then-is_empty-2 c =
    let asked : Links c.args.cells.now c.args.top c.args.a c.args.b = c.requires in
    let x : Found c.args.cells.now c.args.a c.node_at-x.result = found _ _ _ _ asked.sound asked.left c.node_at-x.ensures in
    let y : Found c.args.cells.now c.args.b c.node_at-y.result = found _ _ _ _ asked.sound asked.right c.node_at-y.ensures in
    cat_skip_right asked (told_nothing x c.is_nothing.ensures c.if-is_nothing.false)
    (told_nothing y c.is_nothing-2.ensures c.if-is_nothing-2.false) (told_empty x c.is_empty.ensures c.if-is_empty.false)
    (told_empty y c.is_empty-2.ensures c.if-is_empty-2.true)

pub returns : goal.returns
returns c =
    let asked : Links c.args.cells.now c.args.top c.args.a c.args.b = c.requires in
    let x : Found c.args.cells.now c.args.a c.node_at-x.result = found _ _ _ _ asked.sound asked.left c.node_at-x.ensures in
    let y : Found c.args.cells.now c.args.b c.node_at-y.result = found _ _ _ _ asked.sound asked.right c.node_at-y.ensures in
    cat_both asked (told_nothing x c.is_nothing.ensures c.if-is_nothing.false)
    (told_nothing y c.is_nothing-2.ensures c.if-is_nothing-2.false) (told_empty x c.is_empty.ensures c.if-is_empty.false)
    (told_empty y c.is_empty-2.ensures c.if-is_empty-2.false) c.chain.ensures
