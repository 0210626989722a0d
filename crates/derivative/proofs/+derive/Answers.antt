-- `derivative::derive` meets its contract: one law of the limited derivative a call and a return. Assumes nothing.
use Rattle.std.proofs.Common.{ℕ, refl, ◌∙◌, arith}
use Rattle.meaning.specs.Limited.{deriv_fit}
use Rattle.term.specs.Cells.{term}
use Rattle.term.specs.Nodes.{kind_of}
use Rattle.term.specs.CellLaws.{found}
use Rattle.normal.specs.AnswerLaws.{Got, got}
use Rattle.derivative.specs.Derives.{deriv_cells, rest_fit, rest_cells}
use Rattle.derivative.specs.DeriveLaws.{leaf_asks, leaf_up, Parts, parts, first_asks, first_long, rest_asks, rest_long, both_asks, both_told, left_alone, second_asks, second_long, merge_asks, merge_up}
use Rattle.derivative.proofs.+derive.Goals as goal
use Rattle.derivative.proofs.+derive.Goals.{After-rest_of-rest, In_ok-da, In_ok-left, In_ok-db}

-- the parts of a node that has some
has : (t : ℕ) (c : After-rest_of-rest t) → Parts c.args.cells.now c.args.i (kind_of c.node_at-node.result) c.first_of-a.result c.rest_of-rest.result
has t c =
    parts (found _ _ _ _ c.requires.sound c.requires.held c.node_at-node.ensures) (λ e. c.if-arity-eq0.false (c.arity.ensures ∙ e))
    c.requires.in_shape refl c.first_of-a.ensures c.rest_of-rest.ensures

-- what the callees made, where it is a term: of the first part, with the rest behind it, and of the second side
da : (t : ℕ) (c : In_ok-da t) → Got c.args.cells.now c.args.top c.derive.new.cells c.in_ok-da.da.root c.in_ok-da.da.top
    (deriv_fit c.args.byte (term c.args.cells.now c.first_of-a.result)) (deriv_cells (term c.args.cells.now c.first_of-a.result))
da t c = got c.derive.ensures c.in_ok-da.was

led : (t : ℕ) (c : In_ok-left t) → Got c.derive.new.cells c.in_ok-da.da.top c.with_rest.new.cells c.in_ok-left.left.root c.in_ok-left.left.top
    (rest_fit (kind_of c.node_at-node.result) (term c.derive.new.cells c.in_ok-da.da.root) (term c.derive.new.cells c.rest_of-rest.result))
    (rest_cells (kind_of c.node_at-node.result) (term c.derive.new.cells c.in_ok-da.da.root) (term c.derive.new.cells c.rest_of-rest.result))
led t c = got c.with_rest.ensures c.in_ok-left.was

db : (t : ℕ) (c : In_ok-db t) → Got c.with_rest.new.cells c.in_ok-left.left.top c.derive-then-both_sides.new.cells c.in_ok-db.db.root c.in_ok-db.db.top
    (deriv_fit c.args.byte (term c.with_rest.new.cells c.rest_of-rest.result)) (deriv_cells (term c.with_rest.new.cells c.rest_of-rest.result))
db t c = got c.derive-then-both_sides.ensures c.in_ok-db.was

pub store-requires : goal.store-requires
store-requires t c =
    let node = found _ _ _ _ c.requires.sound c.requires.held c.node_at-node.ensures in
    let asked = leaf_asks c.requires node (omega (arith, c.arity.ensures)) c.args.byte c.leaf_left.ensures in
    record { sound = asked.0; top_in_bounds = asked.1.0; below = asked.1.1 }

pub returns-then-arity-eq0 : goal.returns-then-arity-eq0
returns-then-arity-eq0 t c =
    let node = found _ _ _ _ c.requires.sound c.requires.held c.node_at-node.ensures in
    leaf_up c.requires node (omega (arith, c.arity.ensures)) c.args.byte c.leaf_left.ensures c.store.ensures

pub derive-requires : goal.derive-requires
derive-requires t c =
    let p = has t (goal.at.derive-requires t c).After-rest_of-rest in
    (omega (arith, c.decreases, p.first), first_asks c.requires p c.args.byte)

pub returns-in_err-da : goal.returns-in_err-da
returns-in_err-da t c =
    rw c.from_residual.ensures
    (first_long c.requires (has t (goal.at.returns-in_err-da t c).After-rest_of-rest) c.args.byte c.derive.ensures c.in_err-da.was)

pub with_rest-requires : goal.with_rest-requires
with_rest-requires t c =
    let a = goal.at.with_rest-requires t c in
    rest_asks c.requires (has t a.After-rest_of-rest) c.args.byte (da t a.In_ok-da)

pub returns-in_err-left : goal.returns-in_err-left
returns-in_err-left t c =
    let a = goal.at.returns-in_err-left t c in
    rw c.from_residual-in_err-left.ensures
    (rest_long c.requires (has t a.After-rest_of-rest) c.args.byte (da t a.In_ok-da) c.with_rest.ensures c.in_err-left.was)

pub both_sides-requires : goal.both_sides-requires
both_sides-requires t c =
    let a = goal.at.both_sides-requires t c in
    both_asks c.requires (has t a.After-rest_of-rest) c.args.byte (da t a.In_ok-da) (led t a.In_ok-left)

pub derive-requires-then-both_sides : goal.derive-requires-then-both_sides
derive-requires-then-both_sides t c =
    let a = goal.at.derive-requires-then-both_sides t c in
    let p = has t a.After-rest_of-rest in
    let d = da t a.In_ok-da in
    let l = led t a.In_ok-left in
    let yes = both_told c.requires p c.args.byte d l c.both_sides.ensures c.if-both_sides.true in
    (omega (arith, c.decreases, (p.second yes).0), second_asks c.requires p c.args.byte d l yes)

pub returns-in_err-db : goal.returns-in_err-db
returns-in_err-db t c =
    let a = goal.at.returns-in_err-db t c in
    let p = has t a.After-rest_of-rest in
    let d = da t a.In_ok-da in
    let l = led t a.In_ok-left in
    let yes = both_told c.requires p c.args.byte d l c.both_sides.ensures c.if-both_sides.true in
    rw c.from_residual-in_err-db.ensures
    (second_long c.requires p c.args.byte d l yes c.derive-then-both_sides.ensures c.in_err-db.was)

pub merge_short-requires : goal.merge_short-requires
merge_short-requires t c =
    let a = goal.at.merge_short-requires t c in
    let p = has t a.After-rest_of-rest in
    let d = da t a.In_ok-da in
    let l = led t a.In_ok-left in
    let yes = both_told c.requires p c.args.byte d l c.both_sides.ensures c.if-both_sides.true in
    merge_asks c.requires p c.args.byte d l yes (db t a.In_ok-db) c.join_of.ensures

pub returns-then-both_sides : goal.returns-then-both_sides
returns-then-both_sides t c =
    let a = goal.at.returns-then-both_sides t c in
    let p = has t a.After-rest_of-rest in
    let d = da t a.In_ok-da in
    let l = led t a.In_ok-left in
    let yes = both_told c.requires p c.args.byte d l c.both_sides.ensures c.if-both_sides.true in
    merge_up c.requires p c.args.byte d l yes (db t a.In_ok-db) c.join_of.ensures c.merge_short.ensures

pub returns : goal.returns
returns t c =
    let a = goal.at.returns t c in
    let p = has t a.After-rest_of-rest in
    let d = da t a.In_ok-da in
    let l = led t a.In_ok-left in
    left_alone c.requires p c.args.byte d l (both_told c.requires p c.args.byte d l c.both_sides.ensures c.if-both_sides.false)
