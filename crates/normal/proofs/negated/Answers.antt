-- `normal::negated` meets its contract: one law a return, by what the test told of the term.
-- Assumes nothing.
use mathlib.Core.Path.{sym, ap}
use Rattle.term.specs.Nodes.{kind_of, first_of, Found}
use Rattle.term.specs.CellLaws.{found}
use Rattle.term.specs.ReadLaws.{of_kind}
use Rattle.normal.specs.ChainLaws.{negated_not, negated_new}
use Rattle.normal.proofs.negated.Goals as goal

pub returns-in-Not : goal.returns-in-Not
returns-in-Not c =
    let x : Found c.args.cells.now c.args.a c.node_at.result = found _ _ _ _ c.requires.sound c.requires.a_lt_top c.node_at.ensures in
    negated_not x c.requires.sound c.requires.a_lt_top (ap kind_of c.in-Not.is) (sym (ap first_of c.in-Not.is))

pub returns : goal.returns
returns c =
    let x : Found c.args.cells.now c.args.a c.node_at.result = found _ _ _ _ c.requires.sound c.requires.a_lt_top c.node_at.ensures in
    negated_new x (λ k. c.in_default.not-Not _ (of_kind c.node_at.result 7 k)) c.store.ensures
