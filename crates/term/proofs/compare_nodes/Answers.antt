-- `term::compare_nodes` meets its contract: one law of the order a return, over what the two nodes told.
-- Assumes nothing.
use Prim.Native.Nat.{ℕ, compare}
use native.Mathlib.Omega.{arith}
use mathlib.Core.Path.{◌≡◌, sym, ◌∙◌}
use Rattle.std.proofs.Common.{Ordering, nat_cmp}
use Rattle.term.specs.Nodes.{kind_of, ordering, Found}
use Rattle.term.specs.CellLaws.{found}
use Rattle.term.specs.ReadLaws.{order_one, order_leaf}
use Rattle.term.specs.CompareLaws.{ordering_number, ordering_decides, kinds_apart, kinds_same, only, both}
use Rattle.term.proofs.compare_nodes.Goals as goal

pub returns-then-i-j : goal.returns-then-i-j
returns-then-i-j c = record { shown = sym (order_one _ _ _ c.if-i-j.true) }

-- the kinds as the code compares them
told : {k l m n : ℕ} {o : Ordering} → o ≡ nat_cmp k l → k ≡ m → l ≡ n → ordering o ≡ compare m n
told {k} {l} e p q = rw (e, ordering_number k l, p, q)

pub returns-then-is_ne : goal.returns-then-is_ne
returns-then-is_ne c =
    let x : Found c.args.cells.now c.args.i c.node_at-x.result = found _ _ _ _ c.requires.sound (omega arith) c.node_at-x.ensures in
    let y : Found c.args.cells.now c.args.j c.node_at-y.result = found _ _ _ _ c.requires.sound_2 (omega arith) c.node_at-y.ensures in
    record {
      shown = kinds_apart x y (told c.cmp-kinds.ensures c.kind_of.ensures c.kind_of-2.ensures)
          (sym (ordering_decides c.cmp-kinds.result) ∙ sym c.is_ne.ensures ∙ c.if-is_ne.true);
    }

pub returns-then-children-eq0 : goal.returns-then-children-eq0
returns-then-children-eq0 c =
    let x : Found c.args.cells.now c.args.i c.node_at-x.result = found _ _ _ _ c.requires.sound (omega arith) c.node_at-x.ensures in
    let y : Found c.args.cells.now c.args.j c.node_at-y.result = found _ _ _ _ c.requires.sound_2 (omega arith) c.node_at-y.ensures in
    let same : kind_of c.node_at-x.result ≡ kind_of c.node_at-y.result =
    kinds_same (told c.cmp-kinds.ensures c.kind_of.ensures c.kind_of-2.ensures)
    (sym (ordering_decides c.cmp-kinds.result) ∙ sym c.is_ne.ensures ∙ c.if-is_ne.false) in
    record {
      shown = c.compare_pairs.ensures ∙ sym (order_leaf x y same
          (sym c.arity-children.ensures ∙ c.if-children-eq0.true) c.first_of.ensures
          c.second_of.ensures c.first_of-then-children-eq0.ensures c.second_of-then-children-eq0.ensures);
    }

pub returns-then-children-eq1 : goal.returns-then-children-eq1
returns-then-children-eq1 c =
    let x : Found c.args.cells.now c.args.i c.node_at-x.result = found _ _ _ _ c.requires.sound (omega arith) c.node_at-x.ensures in
    let y : Found c.args.cells.now c.args.j c.node_at-y.result = found _ _ _ _ c.requires.sound_2 (omega arith) c.node_at-y.ensures in
    let same : kind_of c.node_at-x.result ≡ kind_of c.node_at-y.result =
    kinds_same (told c.cmp-kinds.ensures c.kind_of.ensures c.kind_of-2.ensures)
    (sym (ordering_decides c.cmp-kinds.result) ∙ sym c.is_ne.ensures ∙ c.if-is_ne.false) in
    record {
      shown = only x y same (sym c.arity-children.ensures ∙ c.if-children-eq1.true)
          c.first_of-then-children-eq1.ensures c.first_of-then-children-eq1-2.ensures;
    }

pub returns : goal.returns
returns c =
    let x : Found c.args.cells.now c.args.i c.node_at-x.result = found _ _ _ _ c.requires.sound (omega arith) c.node_at-x.ensures in
    let y : Found c.args.cells.now c.args.j c.node_at-y.result = found _ _ _ _ c.requires.sound_2 (omega arith) c.node_at-y.ensures in
    let same : kind_of c.node_at-x.result ≡ kind_of c.node_at-y.result =
    kinds_same (told c.cmp-kinds.ensures c.kind_of.ensures c.kind_of-2.ensures)
    (sym (ordering_decides c.cmp-kinds.result) ∙ sym c.is_ne.ensures ∙ c.if-is_ne.false) in
    record {
      shown = both x y same (λ z. c.if-children-eq0.false (c.arity-children.ensures ∙ z))
          (λ z. c.if-children-eq1.false (c.arity-children.ensures ∙ z)) c.first_of-2.ensures
          c.first_of-3.ensures c.second_of-2.ensures c.second_of-3.ensures;
    }
