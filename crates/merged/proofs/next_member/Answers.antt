-- `merged::next_member` meets its contract: one law of the merge a return, by the order of the first members.
-- Assumes nothing.
use native.Mathlib.Omega.{arith}
use mathlib.Core.Path.{◌≡◌, refl, sym, ap, ◌∙◌}
use Rattle.meaning.specs.Order.{order}
use Rattle.std.proofs.Common.{Ordering, Less, Equal, Greater}
use Rattle.term.specs.Cells.{term}
use Rattle.term.specs.Nodes.{ordering, Found}
use Rattle.term.specs.CellLaws.{found}
use Rattle.normal.specs.NodeLaws.{told_joins, told_single}
use Rattle.merged.specs.Asked.{Meets}
use Rattle.merged.specs.Merge.{Heads}
use Rattle.merged.specs.MergeLaws.{heads, heads_ask, less_one, less_more, same_one, same_left, same_more, greater_one, greater_more}
use Rattle.merged.proofs.next_member.Goals as goal

pub compare_terms-order-requires : goal.compare_terms-order-requires
compare_terms-order-requires c =
    let m : Meets c.args.join c.args.cells.now c.args.a c.args.b = c.requires in
    let x : Found c.args.cells.now c.args.a c.node_at-x.result = found _ _ _ _ m.left_sound (omega arith) c.node_at-x.ensures in
    let p : Heads c.args.join c.args.cells.now c.args.a c.head_of-head.result = heads m.sorts m.left x c.head_of-head.ensures in
    let y : Found c.args.cells.now c.args.b c.node_at-y.result = found _ _ _ _ m.right_sound (omega arith) c.node_at-y.ensures in
    let q : Heads c.args.join c.args.cells.now c.args.b c.head_of-rival.result = heads m.sorts m.right y c.head_of-rival.ensures in
    let asked = heads_ask m p q in
    record { sound = asked.0; sound_2 = asked.1.0; i_value = asked.1.1 }

pub returns-then-joins : goal.returns-then-joins
returns-then-joins c =
    let m : Meets c.args.join c.args.cells.now c.args.a c.args.b = c.requires in
    let x : Found c.args.cells.now c.args.a c.node_at-x.result = found _ _ _ _ m.left_sound (omega arith) c.node_at-x.ensures in
    let p : Heads c.args.join c.args.cells.now c.args.a c.head_of-head.result = heads m.sorts m.left x c.head_of-head.ensures in
    let y : Found c.args.cells.now c.args.b c.node_at-y.result = found _ _ _ _ m.right_sound (omega arith) c.node_at-y.ensures in
    let q : Heads c.args.join c.args.cells.now c.args.b c.head_of-rival.result = heads m.sorts m.right y c.head_of-rival.ensures in
    let compared : (o : Ordering) → c.compare_terms-order.result ≡ o → order (term c.args.cells.now c.head_of-head.result) (term c.args.cells.now c.head_of-rival.result) ≡ ordering o = λ o e. sym c.compare_terms-order.ensures ∙ ap ordering e in
    let f = told_joins c.args.join x c.joins.ensures c.if-joins.true refl c.second_of.ensures in
    record {
      told = less_more m p q f
          (compared Less c.in-Less.is);
    }

pub returns-then-joins-3 : goal.returns-then-joins-3
returns-then-joins-3 c =
    let m : Meets c.args.join c.args.cells.now c.args.a c.args.b = c.requires in
    let x : Found c.args.cells.now c.args.a c.node_at-x.result = found _ _ _ _ m.left_sound (omega arith) c.node_at-x.ensures in
    let y : Found c.args.cells.now c.args.b c.node_at-y.result = found _ _ _ _ m.right_sound (omega arith) c.node_at-y.ensures in
    let p : Heads c.args.join c.args.cells.now c.args.a c.head_of-head.result = heads m.sorts m.left x c.head_of-head.ensures in
    let q : Heads c.args.join c.args.cells.now c.args.b c.head_of-rival.result = heads m.sorts m.right y c.head_of-rival.ensures in
    let compared : (o : Ordering) → c.compare_terms-order.result ≡ o → order (term c.args.cells.now c.head_of-head.result) (term c.args.cells.now c.head_of-rival.result) ≡ ordering o = λ o e. sym c.compare_terms-order.ensures ∙ ap ordering e in
    let f = told_joins c.args.join x c.joins-in-Equal.ensures c.if-joins-2.true
    refl c.second_of-then-joins-3.ensures in
    let g = told_joins c.args.join y c.joins-then-joins-2.ensures c.if-joins-3.true refl c.second_of-then-joins-3-2.ensures in
    record {
      told = same_more m p q f g
          (compared Equal c.in-Equal.is);
    }

pub returns-then-joins-2 : goal.returns-then-joins-2
returns-then-joins-2 c =
    let m : Meets c.args.join c.args.cells.now c.args.a c.args.b = c.requires in
    let x : Found c.args.cells.now c.args.a c.node_at-x.result = found _ _ _ _ m.left_sound (omega arith) c.node_at-x.ensures in
    let p : Heads c.args.join c.args.cells.now c.args.a c.head_of-head.result = heads m.sorts m.left x c.head_of-head.ensures in
    let y : Found c.args.cells.now c.args.b c.node_at-y.result = found _ _ _ _ m.right_sound (omega arith) c.node_at-y.ensures in
    let q : Heads c.args.join c.args.cells.now c.args.b c.head_of-rival.result = heads m.sorts m.right y c.head_of-rival.ensures in
    let compared : (o : Ordering) → c.compare_terms-order.result ≡ o → order (term c.args.cells.now c.head_of-head.result) (term c.args.cells.now c.head_of-rival.result) ≡ ordering o = λ o e. sym c.compare_terms-order.ensures ∙ ap ordering e in
    let f = told_joins c.args.join x c.joins-in-Equal.ensures c.if-joins-2.true refl refl in
    record {
      told = same_left m p q f (told_single c.args.join y c.joins-then-joins-2.ensures c.if-joins-3.false)
          (compared Equal c.in-Equal.is);
    }

pub returns-then-joins-4 : goal.returns-then-joins-4
returns-then-joins-4 c =
    let m : Meets c.args.join c.args.cells.now c.args.a c.args.b = c.requires in
    let y : Found c.args.cells.now c.args.b c.node_at-y.result = found _ _ _ _ m.right_sound (omega arith) c.node_at-y.ensures in
    let x : Found c.args.cells.now c.args.a c.node_at-x.result = found _ _ _ _ m.left_sound (omega arith) c.node_at-x.ensures in
    let p : Heads c.args.join c.args.cells.now c.args.a c.head_of-head.result = heads m.sorts m.left x c.head_of-head.ensures in
    let q : Heads c.args.join c.args.cells.now c.args.b c.head_of-rival.result = heads m.sorts m.right y c.head_of-rival.ensures in
    let compared : (o : Ordering) → c.compare_terms-order.result ≡ o → order (term c.args.cells.now c.head_of-head.result) (term c.args.cells.now c.head_of-rival.result) ≡ ordering o = λ o e. sym c.compare_terms-order.ensures ∙ ap ordering e in
    let g = told_joins c.args.join y c.joins-in-Greater.ensures c.if-joins-4.true refl c.second_of-then-joins-4.ensures in
    record {
      told = greater_more m p q g
          (compared Greater c.in-Greater.is);
    }

pub returns-else-joins : goal.returns-else-joins
returns-else-joins c =
    let m : Meets c.args.join c.args.cells.now c.args.a c.args.b = c.requires in
    let x : Found c.args.cells.now c.args.a c.node_at-x.result = found _ _ _ _ m.left_sound (omega arith) c.node_at-x.ensures in
    let p : Heads c.args.join c.args.cells.now c.args.a c.head_of-head.result = heads m.sorts m.left x c.head_of-head.ensures in
    let y : Found c.args.cells.now c.args.b c.node_at-y.result = found _ _ _ _ m.right_sound (omega arith) c.node_at-y.ensures in
    let q : Heads c.args.join c.args.cells.now c.args.b c.head_of-rival.result = heads m.sorts m.right y c.head_of-rival.ensures in
    let compared : (o : Ordering) → c.compare_terms-order.result ≡ o → order (term c.args.cells.now c.head_of-head.result) (term c.args.cells.now c.head_of-rival.result) ≡ ordering o = λ o e. sym c.compare_terms-order.ensures ∙ ap ordering e in
    record {
      told = less_one m p q (told_single c.args.join x c.joins.ensures c.if-joins.false)
          (compared Less c.in-Less.is);
    }

pub returns-else-joins-2 : goal.returns-else-joins-2
returns-else-joins-2 c =
    let m : Meets c.args.join c.args.cells.now c.args.a c.args.b = c.requires in
    let x : Found c.args.cells.now c.args.a c.node_at-x.result = found _ _ _ _ m.left_sound (omega arith) c.node_at-x.ensures in
    let p : Heads c.args.join c.args.cells.now c.args.a c.head_of-head.result = heads m.sorts m.left x c.head_of-head.ensures in
    let y : Found c.args.cells.now c.args.b c.node_at-y.result = found _ _ _ _ m.right_sound (omega arith) c.node_at-y.ensures in
    let q : Heads c.args.join c.args.cells.now c.args.b c.head_of-rival.result = heads m.sorts m.right y c.head_of-rival.ensures in
    let compared : (o : Ordering) → c.compare_terms-order.result ≡ o → order (term c.args.cells.now c.head_of-head.result) (term c.args.cells.now c.head_of-rival.result) ≡ ordering o = λ o e. sym c.compare_terms-order.ensures ∙ ap ordering e in
    record {
      told = same_one m p q (told_single c.args.join x c.joins-in-Equal.ensures c.if-joins-2.false)
          (compared Equal c.in-Equal.is);
    }

pub returns-else-joins-4 : goal.returns-else-joins-4
returns-else-joins-4 c =
    let m : Meets c.args.join c.args.cells.now c.args.a c.args.b = c.requires in
    let x : Found c.args.cells.now c.args.a c.node_at-x.result = found _ _ _ _ m.left_sound (omega arith) c.node_at-x.ensures in
    let p : Heads c.args.join c.args.cells.now c.args.a c.head_of-head.result = heads m.sorts m.left x c.head_of-head.ensures in
    let y : Found c.args.cells.now c.args.b c.node_at-y.result = found _ _ _ _ m.right_sound (omega arith) c.node_at-y.ensures in
    let q : Heads c.args.join c.args.cells.now c.args.b c.head_of-rival.result = heads m.sorts m.right y c.head_of-rival.ensures in
    let compared : (o : Ordering) → c.compare_terms-order.result ≡ o → order (term c.args.cells.now c.head_of-head.result) (term c.args.cells.now c.head_of-rival.result) ≡ ordering o = λ o e. sym c.compare_terms-order.ensures ∙ ap ordering e in
    record {
      told = greater_one m p q (told_single c.args.join y c.joins-in-Greater.ensures c.if-joins-4.false)
          (compared Greater c.in-Greater.is);
    }
