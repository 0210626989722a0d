-- `normal::star` meets its contract: one law a return, by what the tests told of the part.
-- Assumes nothing.
use mathlib.Core.Path.{◌≡◌, refl, ap}
use Rattle.std.proofs.Common.{inl, inr}
use mathlib.Core.Bool.{true}
use Rattle.term.specs.Nodes.{kind_of, nothing_node, empty_node, Found}
use Rattle.term.specs.CellLaws.{found}
use Rattle.normal.specs.NodeLaws.{told_nothing, told_empty, not_nothing, not_empty}
use Rattle.term.specs.ReadLaws.{of_kind}
use Rattle.normal.specs.ChainLaws.{star_nothing, star_empty, star_star, star_new}
use Rattle.normal.proofs.star.Goals as goal

pub returns-in-Nothing : goal.returns-in-Nothing
returns-in-Nothing c =
    let x : Found c.args.cells.now c.args.a c.node_at.result = found _ _ _ _ c.requires.sound c.requires.a_lt_top c.node_at.ensures in
    let e : true ≡ nothing_node c.node_at.result = rw c.in-Nothing.is in
    star_nothing x (told_nothing x e refl) c.store.ensures

pub returns-in-Empty : goal.returns-in-Empty
returns-in-Empty c =
    let x : Found c.args.cells.now c.args.a c.node_at.result = found _ _ _ _ c.requires.sound c.requires.a_lt_top c.node_at.ensures in
    elim c.in-Empty.is [
      | inl h ↦
          let m : true ≡ empty_node c.node_at.result = rw h in
          star_empty x c.requires.sound c.requires.a_lt_top (told_empty x m refl)
      | inr h ↦ star_star x c.requires.sound c.requires.a_lt_top (ap kind_of h.1)
    ]

pub returns-in_default : goal.returns-in_default
returns-in_default c =
    let x : Found c.args.cells.now c.args.a c.node_at.result = found _ _ _ _ c.requires.sound c.requires.a_lt_top c.node_at.ensures in
    star_new x (told_nothing x (not_nothing _ c.in_default.not-Nothing) refl) (told_empty x (not_empty _ c.in_default.not-Empty) refl)
    (λ k. c.in_default.not-Star _ (of_kind c.node_at.result 5 k)) c.store-in_default.ensures
