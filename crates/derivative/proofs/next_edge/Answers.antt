-- `derivative::next_edge` meets its contract: a leaf is answered at once, and then one law a way through a turn and one for the end.
-- The measure is the number of nodes that are to come. Assumes nothing.
use Prim.Native.Nat.{◌+◌, min}
use native.Mathlib.Omega.{arith}
use mathlib.Core.Path.{◌≡◌, sym, ap, ◌∙◌}
use mathlib.Core.Bool.{true}
use lib.ListN.{get_or}
use borrow.Author.Rules.{rules}
use Rattle.meaning.specs.Limited.{short}
use Rattle.term.specs.Cells.{node_of, term, Sound}
use Rattle.term.specs.Nodes.{arity_of, Found}
use Rattle.term.specs.CellLaws.{below_fields, found}
use Rattle.term.specs.ReadLaws.{arity_two}
use Rattle.derivative.specs.Waiting.{leaf_edge, Passing}
use Rattle.derivative.specs.EdgeLaws as laws
use Rattle.derivative.proofs.next_edge.Goals as goal

pub node_at-whole-requires : goal.node_at-whole-requires
node_at-whole-requires c = omega (arith, c.requires.sound.room)

pub leaf_edge-requires : goal.leaf_edge-requires
leaf_edge-requires c =
    let only : Found c.args.cells.now c.args.i c.node_at-whole.result = found _ _ _ _ c.requires.sound (omega arith) c.node_at-whole.ensures in
    below_fields _ c.args.i (omega (arith, c.requires.sound.room, c.requires.sound.small)) only.below

pub returns-then-arity-eq0 : goal.returns-then-arity-eq0
returns-then-arity-eq0 c =
    let only : Found c.args.cells.now c.args.i c.node_at-whole.result = found _ _ _ _ c.requires.sound (omega arith) c.node_at-whole.ensures in
    let only-leaf : arity_of c.node_at-whole.result ≡ 0 = sym c.arity.ensures ∙ c.if-arity-eq0.true in
    c.leaf_edge.ensures ∙ sym (laws.leaf_edge_lem only c.args.byte only-leaf)

pub loop-node-init : goal.loop-node-init
loop-node-init c =
    laws.passing_first c.requires.sound c.requires.i_value _

pub node_at-node-requires : goal.node_at-node-requires
node_at-node-requires c = omega (arith, c.requires.sound.room, c.loop-node.invariant.held)

pub leaf_edge-requires-then-children-eq0 : goal.leaf_edge-requires-then-children-eq0
leaf_edge-requires-then-children-eq0 c =
    let sound : Sound c.args.cells.now (c.args.i + 1) = c.requires.sound in
    let fits : short (term c.args.cells.now c.args.i) ≡ true = c.requires.i_value in
    let passing : Passing c.args.cells.now c.args.i c.args.byte c.loop-node.waiting c.loop-node.count c.loop-node.least
    c.loop-node.at = c.loop-node.invariant in
    let told : c.node_at-node.result ≡ node_of (get_or c.args.cells.now c.loop-node.at 0) = c.node_at-node.ensures in
    laws.fields sound fits _ passing told

pub returns-then-count-eq0 : goal.returns-then-count-eq0
returns-then-count-eq0 c =
    let sound : Sound c.args.cells.now (c.args.i + 1) = c.requires.sound in
    let fits : short (term c.args.cells.now c.args.i) ≡ true = c.requires.i_value in
    let passing : Passing c.args.cells.now c.args.i c.args.byte c.loop-node.waiting c.loop-node.count c.loop-node.least
    c.loop-node.at = c.loop-node.invariant in
    let told : c.node_at-node.result ≡ node_of (get_or c.args.cells.now c.loop-node.at 0) = c.node_at-node.ensures in
    let leaf : arity_of c.node_at-node.result ≡ 0 = sym c.arity-children.ensures ∙ c.if-children-eq0.true in
    let least : c.min-least.result
    ≡ min c.loop-node.least
    (leaf_edge c.node_at-node.result c.args.byte) = c.min-least.ensures ∙ ap (min c.loop-node.least) c.leaf_edge-then-children-eq0.ensures in
    laws.edge_told sound fits _ passing told leaf least c.if-count-eq0.true

pub bounds-waiting-count : goal.bounds-waiting-count
bounds-waiting-count c =
    let sound : Sound c.args.cells.now (c.args.i + 1) = c.requires.sound in
    let fits : short (term c.args.cells.now c.args.i) ≡ true = c.requires.i_value in
    let passing : Passing c.args.cells.now c.args.i c.args.byte c.loop-node.waiting c.loop-node.count c.loop-node.least
    c.loop-node.at = c.loop-node.invariant in
    let told : c.node_at-node.result ≡ node_of (get_or c.args.cells.now c.loop-node.at 0) = c.node_at-node.ensures in
    let leaf : arity_of c.node_at-node.result ≡ 0 = sym c.arity-children.ensures ∙ c.if-children-eq0.true in
    laws.last_inside sound fits _ passing told leaf c.if-count-eq0.false

pub offset_bounds-waiting-count : goal.offset_bounds-waiting-count
offset_bounds-waiting-count c = let inside = bounds-waiting-count c in search rules

pub loop-node-smaller-then-children-eq0 : goal.loop-node-smaller-then-children-eq0
loop-node-smaller-then-children-eq0 c =
    let sound : Sound c.args.cells.now (c.args.i + 1) = c.requires.sound in
    let fits : short (term c.args.cells.now c.args.i) ≡ true = c.requires.i_value in
    let passing : Passing c.args.cells.now c.args.i c.args.byte c.loop-node.waiting c.loop-node.count c.loop-node.least
    c.loop-node.at = c.loop-node.invariant in
    let told : c.node_at-node.result ≡ node_of (get_or c.args.cells.now c.loop-node.at 0) = c.node_at-node.ensures in
    let leaf : arity_of c.node_at-node.result ≡ 0 = sym c.arity-children.ensures ∙ c.if-children-eq0.true in
    laws.leaf_less sound fits _ passing told leaf c.if-count-eq0.false

pub loop-node-preserved-then-children-eq0 : goal.loop-node-preserved-then-children-eq0
loop-node-preserved-then-children-eq0 c =
    let sound : Sound c.args.cells.now (c.args.i + 1) = c.requires.sound in
    let fits : short (term c.args.cells.now c.args.i) ≡ true = c.requires.i_value in
    let passing : Passing c.args.cells.now c.args.i c.args.byte c.loop-node.waiting c.loop-node.count c.loop-node.least
    c.loop-node.at = c.loop-node.invariant in
    let told : c.node_at-node.result ≡ node_of (get_or c.args.cells.now c.loop-node.at 0) = c.node_at-node.ensures in
    let leaf : arity_of c.node_at-node.result ≡ 0 = sym c.arity-children.ensures ∙ c.if-children-eq0.true in
    let least : c.min-least.result
    ≡ min c.loop-node.least
    (leaf_edge c.node_at-node.result c.args.byte) = c.min-least.ensures ∙ ap (min c.loop-node.least) c.leaf_edge-then-children-eq0.ensures in
    laws.leaf_next sound fits _ passing told leaf c.if-count-eq0.false least

pub overflow_cast-at : goal.overflow_cast-at
overflow_cast-at c = let held = (loop-node-preserved-then-children-eq0 c).held in search rules

pub loop-node-smaller-then-children-eq1 : goal.loop-node-smaller-then-children-eq1
loop-node-smaller-then-children-eq1 c =
    let sound : Sound c.args.cells.now (c.args.i + 1) = c.requires.sound in
    let fits : short (term c.args.cells.now c.args.i) ≡ true = c.requires.i_value in
    let passing : Passing c.args.cells.now c.args.i c.args.byte c.loop-node.waiting c.loop-node.count c.loop-node.least
    c.loop-node.at = c.loop-node.invariant in
    let told : c.node_at-node.result ≡ node_of (get_or c.args.cells.now c.loop-node.at 0) = c.node_at-node.ensures in
    laws.one_less sound fits _ passing told (sym c.arity-children.ensures ∙ c.if-children-eq1.true) c.first_of-at.ensures

pub loop-node-preserved-then-children-eq1 : goal.loop-node-preserved-then-children-eq1
loop-node-preserved-then-children-eq1 c =
    let sound : Sound c.args.cells.now (c.args.i + 1) = c.requires.sound in
    let fits : short (term c.args.cells.now c.args.i) ≡ true = c.requires.i_value in
    let passing : Passing c.args.cells.now c.args.i c.args.byte c.loop-node.waiting c.loop-node.count c.loop-node.least
    c.loop-node.at = c.loop-node.invariant in
    let told : c.node_at-node.result ≡ node_of (get_or c.args.cells.now c.loop-node.at 0) = c.node_at-node.ensures in
    laws.one_next sound fits _ passing told (sym c.arity-children.ensures ∙ c.if-children-eq1.true) c.first_of-at.ensures

pub overflow_cast-waiting : goal.overflow_cast-waiting
overflow_cast-waiting c =
    let sound : Sound c.args.cells.now (c.args.i + 1) = c.requires.sound in
    let fits : short (term c.args.cells.now c.args.i) ≡ true = c.requires.i_value in
    let passing : Passing c.args.cells.now c.args.i c.args.byte c.loop-node.waiting c.loop-node.count c.loop-node.least
    c.loop-node.at = c.loop-node.invariant in
    let told : c.node_at-node.result ≡ node_of (get_or c.args.cells.now c.loop-node.at 0) = c.node_at-node.ensures in
    let two : arity_of c.node_at-node.result ≡ 2 = arity_two c.node_at-node.result (λ e. c.if-children-eq0.false (c.arity-children.ensures ∙ e))
    (λ e. c.if-children-eq1.false (c.arity-children.ensures ∙ e)) in
    let small =
    laws.second_small sound fits _ passing told two c.first_of-at.ensures c.second_of.ensures in
    search rules

pub bounds-waiting-count-in-loop-node : goal.bounds-waiting-count-in-loop-node
bounds-waiting-count-in-loop-node c =
    let sound : Sound c.args.cells.now (c.args.i + 1) = c.requires.sound in
    let fits : short (term c.args.cells.now c.args.i) ≡ true = c.requires.i_value in
    let passing : Passing c.args.cells.now c.args.i c.args.byte c.loop-node.waiting c.loop-node.count c.loop-node.least
    c.loop-node.at = c.loop-node.invariant in
    let told : c.node_at-node.result ≡ node_of (get_or c.args.cells.now c.loop-node.at 0) = c.node_at-node.ensures in
    let two : arity_of c.node_at-node.result ≡ 2 = arity_two c.node_at-node.result (λ e. c.if-children-eq0.false (c.arity-children.ensures ∙ e))
    (λ e. c.if-children-eq1.false (c.arity-children.ensures ∙ e)) in
    laws.end_inside sound fits _ passing told two c.first_of-at.ensures c.second_of.ensures

pub offset_bounds-waiting-count-in-loop-node : goal.offset_bounds-waiting-count-in-loop-node
offset_bounds-waiting-count-in-loop-node c = let inside = bounds-waiting-count-in-loop-node c in search rules

pub overflow_add-count : goal.overflow_add-count
overflow_add-count c = let inside = bounds-waiting-count-in-loop-node c in search rules

pub loop-node-smaller : goal.loop-node-smaller
loop-node-smaller c =
    let sound : Sound c.args.cells.now (c.args.i + 1) = c.requires.sound in
    let fits : short (term c.args.cells.now c.args.i) ≡ true = c.requires.i_value in
    let passing : Passing c.args.cells.now c.args.i c.args.byte c.loop-node.waiting c.loop-node.count c.loop-node.least
    c.loop-node.at = c.loop-node.invariant in
    let told : c.node_at-node.result ≡ node_of (get_or c.args.cells.now c.loop-node.at 0) = c.node_at-node.ensures in
    let two : arity_of c.node_at-node.result ≡ 2 = arity_two c.node_at-node.result (λ e. c.if-children-eq0.false (c.arity-children.ensures ∙ e))
    (λ e. c.if-children-eq1.false (c.arity-children.ensures ∙ e)) in
    laws.two_less sound fits _ passing told two c.first_of-at.ensures c.second_of.ensures

pub loop-node-preserved : goal.loop-node-preserved
loop-node-preserved c =
    let sound : Sound c.args.cells.now (c.args.i + 1) = c.requires.sound in
    let fits : short (term c.args.cells.now c.args.i) ≡ true = c.requires.i_value in
    let passing : Passing c.args.cells.now c.args.i c.args.byte c.loop-node.waiting c.loop-node.count c.loop-node.least
    c.loop-node.at = c.loop-node.invariant in
    let told : c.node_at-node.result ≡ node_of (get_or c.args.cells.now c.loop-node.at 0) = c.node_at-node.ensures in
    let two : arity_of c.node_at-node.result ≡ 2 = arity_two c.node_at-node.result (λ e. c.if-children-eq0.false (c.arity-children.ensures ∙ e))
    (λ e. c.if-children-eq1.false (c.arity-children.ensures ∙ e)) in
    laws.two_next sound fits _ passing told two c.first_of-at.ensures c.second_of.ensures
