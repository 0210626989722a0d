-- `expression::name` meets its contract: the bytes so far begin a name, and no cell has changed.
-- Assumes nothing.
use mathlib.Core.Path.{refl, ap}
use mathlib.Core.List.{List}
use Prim.Native.Nat.{ℕ}
use lib.ListN.{length}
use Rattle.expression.specs.LeafLaws.{naming_none, naming_more, name_read, name_unknown, name_ends, name_from}
use Rattle.expression.proofs.name.Goals as goal

pub loop-to-init : goal.loop-to-init
loop-to-init c = (naming_none _ _ c.requires, refl)

pub returns-in-Whole : goal.returns-in-Whole
returns-in-Whole c = name_from c.loop-to.invariant.1 (name_read _ _ _ c.loop-to-test.true c.loop-to.invariant.0 _ _ _ _ _ c.in-Whole.ensures c.lay_set-t.ensures)

pub returns-in-Unknown : goal.returns-in-Unknown
returns-in-Unknown c = name_unknown _ _ _ c.loop-to-test.true c.loop-to.invariant.0 _ _ _ (ap (λ (l : List ℕ). length l) c.loop-to.invariant.1) c.in-Unknown.ensures

pub loop-to-preserved : goal.loop-to-preserved
loop-to-preserved c = (naming_more _ _ _ c.loop-to-test.true c.loop-to.invariant.0 c.in-Begun.ensures, c.loop-to.invariant.1)

pub returns : goal.returns
returns c = name_ends _ _ _ _ _ _ c.loop-to-test.false c.loop-to.invariant.0 (ap (λ (l : List ℕ). length l) c.loop-to.invariant.1)
