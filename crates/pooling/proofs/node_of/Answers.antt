-- `pooling::node_of` meets its contract: one law for each number of children, over what taking these told.
-- The first child is taken from the front that the second one left. Assumes nothing.
use Rattle.std.proofs.Common.{◌≡◌, ◌<◌, ℕ, length, get_or, arith, sym, ◌∙◌, get_or-take}
use Rattle.term.specs.Nodes.{arity_of}
use Rattle.term.specs.ReadLaws.{arity_two}
use Rattle.pooling.specs.PutLaws.{takes_one, takes_two, takes_last, taken_there, rooted_none, rooted_one, rooted_two}
use Rattle.pooling.proofs.node_of.Goals as goal

pub returns-then-children-eq0 : goal.returns-then-children-eq0
returns-then-children-eq0 c = rooted_none c.requires (sym c.arity-children.ensures ∙ c.if-children-eq0.true)

pub child_of-child-requires : goal.child_of-child-requires
child_of-child-requires c = takes_one c.requires (sym c.arity-children.ensures ∙ c.if-children-eq1.true) c.first_of.ensures

pub returns-then-children-eq1 : goal.returns-then-children-eq1
returns-then-children-eq1 c =
    rooted_one c.requires c.rebuilt.ensures c.kind_of-kind.ensures (sym c.arity-children.ensures ∙ c.if-children-eq1.true)
    c.first_of.ensures c.child_of-child.ensures.taken

pub child_of-second-requires : goal.child_of-second-requires
child_of-second-requires c =
    let two : arity_of c.args.node ≡ 2 = arity_two c.args.node (λ e. c.if-children-eq0.false (c.arity-children.ensures ∙ e)) (λ e. c.if-children-eq1.false (c.arity-children.ensures ∙ e)) in
    takes_last c.requires two c.second_of.ensures

pub child_of-first-requires : goal.child_of-first-requires
child_of-first-requires c =
    let two : arity_of c.args.node ≡ 2 = arity_two c.args.node (λ e. c.if-children-eq0.false (c.arity-children.ensures ∙ e)) (λ e. c.if-children-eq1.false (c.arity-children.ensures ∙ e)) in
    let enough = takes_two c.requires two c.first_of-2.ensures c.second_of.ensures in
    omega (arith, enough, c.child_of-second.ensures.taken.fewer)

pub returns : goal.returns
returns c =
    let two : arity_of c.args.node ≡ 2 = arity_two c.args.node (λ e. c.if-children-eq0.false (c.arity-children.ensures ∙ e)) (λ e. c.if-children-eq1.false (c.arity-children.ensures ∙ e)) in
    let front = c.child_of-second.result.1.now in
    let same : (j : ℕ) → j < length front → get_or c.args.stack.now j 0 ≡ get_or front j 0 =
    λ j h. sym (get_or-take (length front) c.args.stack.now j 0 h) ∙ (rw (← c.child_of-second.ensures.front)) in
    rooted_two c.requires c.rebuilt-2.ensures c.kind_of-kind.ensures two
    c.first_of-2.ensures c.second_of.ensures
    c.child_of-second.ensures.taken (taken_there front c.args.stack.now same c.child_of-first.ensures.taken)
