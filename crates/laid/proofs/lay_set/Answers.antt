-- `laid::lay_set` meets its contract: the loop has laid the ranges from the set's first up to i.
-- Assumes nothing.
use mathlib.Core.Path.{refl}
use native.Mathlib.Omega.{arith}
use Rattle.laid.specs.TableLaws.{set_start, set_none, set_more, set_all}
use Rattle.std.proofs.Common.{get_or}
use Rattle.laid.specs.Tables.{starts}
use Rattle.laid.proofs.lay_set.Goals as goal

pub loop-i-init : goal.loop-i-init
loop-i-init c = ((set_start c.args.k _ _ c.requires refl refl).0, set_none _ _ (get_or starts c.args.k 0))

pub loop-i-preserved : goal.loop-i-preserved
loop-i-preserved c =
    let e = set_start c.args.k _ _ c.requires refl refl in
    (omega arith, set_more _ _ _ _ _ _ _ _ _ _ c.loop-i.auto.i (omega (arith, e.1)) refl refl c.loop-i.invariant.1 c.lay_range-t.ensures)

pub returns : goal.returns
returns c = set_all _ _ _ _ _ _ _ _ c.requires refl refl c.loop-i.invariant.0 c.loop-i-test.false c.loop-i.invariant.1
