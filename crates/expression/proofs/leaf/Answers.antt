-- `expression::leaf` meets its contract: one law a return.
-- Assumes nothing.
use native.Mathlib.Omega.{arith}
use mathlib.Core.Path.{sym, ◌∙◌}
use Rattle.expression.specs.LeafLaws.{there, leaf_escape, leaf_name, leaf_dot, leaf_bare, leaf_wrong}
use Rattle.expression.proofs.leaf.Goals as goal

pub escape-requires : goal.escape-requires
escape-requires c = omega (arith, there _ _ _ c.byte_at-c.ensures (λ z. omega (arith, c.in-92.is)))

pub returns-in-92 : goal.returns-in-92
returns-in-92 c = leaf_escape _ _ _ c.byte_at-c.ensures _ _ _ _ c.in-92.is c.escape.ensures

pub name-requires : goal.name-requires
name-requires c = omega (arith, there _ _ _ c.byte_at-c.ensures (λ z. omega (arith, c.in-60.is)))

pub returns-in-60 : goal.returns-in-60
returns-in-60 c = leaf_name _ _ _ c.byte_at-c.ensures _ _ _ _ c.in-60.is c.name.ensures

pub returns-in-46 : goal.returns-in-46
returns-in-46 c = leaf_dot _ _ _ c.byte_at-c.ensures _ _ _ _ _ c.in-46.is c.range_cell-any.ensures c.lay-t.ensures

pub returns-in_default : goal.returns-in_default
returns-in_default c = leaf_bare _ _ _ c.byte_at-c.ensures _ _ _ _ _ (sym c.is_bare.ensures ∙ c.if-is_bare.true) c.range_cell-x.ensures c.lay-t-in_default.ensures

pub returns-in_default-2 : goal.returns-in_default-2
returns-in_default-2 c = leaf_wrong _ _ c.byte_at-c.result c.byte_at-c.ensures _ _ c.requires (λ z. omega arith) (λ z. omega arith) (λ z. omega arith) (sym c.is_bare.ensures ∙ c.if-is_bare.false)
