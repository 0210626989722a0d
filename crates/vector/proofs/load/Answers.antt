-- `load` reads the vector of an item: so far the places passed are those of memory.
-- All 32 passed, the vector is the item's.
use Rattle.std.proofs.Common.{◌≡◌, ◌+◌, ◌*◌, sym, ◌∙◌, arith}
use borrow.Author.Rules.{rules as steps}
use Rattle.std.proofs.Math.Seq.{take_all}
use Rattle.number.specs.Limits.{rules}
use Rattle.vector.specs.Layout.{vectors_at}
use Rattle.vector.specs.PlaceLaws.{copied_more}
use Rattle.vector.proofs.load.Goals as goal

pub loop-i-preserved : goal.loop-i-preserved
loop-i-preserved c = (
  search steps,
  copied_more c.loop-i.at c.args.cells.now (vectors_at + c.args.k * rules) c.loop-i.i (omega arith) (omega arith) c.loop-i.invariant.1,
)

pub returns : goal.returns
returns c =
    let e : c.loop-i.i ≡ rules = omega arith in
    sym (take_all rules c.loop-i.at (omega arith)) ∙ (rw e at c.loop-i.invariant.1)
