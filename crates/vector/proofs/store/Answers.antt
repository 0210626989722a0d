-- `store` puts a vector where its item has it: so far the places passed are written, and nothing else is.
-- All 32 passed, the whole vector stands there.
use Rattle.std.proofs.Common.{◌≡◌, ◌+◌, ◌*◌, arith}
use Rattle.std.proofs.Math.Seq.{paste-zero}
use Rattle.number.specs.Limits.{rules}
use Rattle.vector.specs.Layout.{vectors_at}
use Rattle.vector.specs.PlaceLaws.{pasted_more}
use Rattle.vector.proofs.store.Goals as goal

pub loop-i-init : goal.loop-i-init
loop-i-init c = paste-zero c.args.cells.now (vectors_at + c.args.k * rules) c.args.v.at

pub loop-i-preserved : goal.loop-i-preserved
loop-i-preserved c = pasted_more _ _ _ _ _ (omega arith) (omega arith) c.loop-i.invariant

pub returns : goal.returns
returns c =
    let e : c.loop-i.i ≡ rules = omega arith in
    rw e at c.loop-i.invariant
