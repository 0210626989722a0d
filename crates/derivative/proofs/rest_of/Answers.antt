-- `derivative::rest_of` meets its contract: the number of children was compared as its definition compares it.
-- Assumes nothing.
use mathlib.Core.Path.{sym, ◌∙◌}
use borrow.Author.Tests.{eq-eqb, ne_eqb}
use Rattle.derivative.proofs.rest_of.Goals as goal

pub returns-then-arity-eq1 : goal.returns-then-arity-eq1
returns-then-arity-eq1 c = rw (eq-eqb _ 1 (sym c.arity.ensures ∙ c.if-arity-eq1.true))

pub returns : goal.returns
returns c = rw (ne_eqb _ 1 (λ e. c.if-arity-eq1.false (c.arity.ensures ∙ e))) c.second_of.ensures
