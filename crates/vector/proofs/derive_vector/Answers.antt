-- `derive_vector` derives a vector place by place: so far the first places are done, in a pool that holds their terms.
-- A place that is too long ends it; past the last rule the whole vector is done.
use native.Mathlib.Omega.{arith}
use mathlib.Core.Path.{◌≡◌, refl}
use borrow.Author.Rules.{rules as steps}
use lib.ListN.{length-replicate, get_or-replicate, replicate}
use Rattle.number.specs.Limits.{rules}
use Rattle.normal.specs.AnswerLaws.{got}
use Rattle.vector.specs.Layout.{nothing_cell}
use Rattle.vector.specs.DeriveLaws.{going_first, place_derives, place_spared, place_long, place_puts, place_more}
use Rattle.vector.proofs.derive_vector.Goals as goal

pub loop-i-init : goal.loop-i-init
loop-i-init c = (
  refl,
  going_first c.args.byte (replicate rules nothing_cell) c.requires (length-replicate rules nothing_cell)
      (λ i h. get_or-replicate rules i nothing_cell 0 h),
)

pub derive-requires : goal.derive-requires
derive-requires c =
    place_derives c.requires c.loop-i.invariant.1 (omega arith)

pub returns-in_err-made : goal.returns-in_err-made
returns-in_err-made c =
    rw c.from_residual.ensures (record {
      spared = place_spared c.requires c.loop-i.invariant.1 (omega arith) c.derive.ensures c.in_err-made.was;
      too_long = place_long c.requires c.loop-i.invariant.1 (omega arith) c.derive.ensures c.in_err-made.was;
      done = tt;
      indexed = tt;
    })

pub put_term-placed-requires : goal.put_term-placed-requires
put_term-placed-requires c =
    let p = place_puts c.requires c.loop-i.invariant.1 (omega arith) (got c.derive.ensures c.in_ok-made.was) in
    record { fact = p.ready; sound = p.sound; i_bound = p.small }

pub loop-i-preserved : goal.loop-i-preserved
loop-i-preserved c = (
  search steps,
  place_more c.requires c.loop-i.invariant.1 (omega arith) (got c.derive.ensures c.in_ok-made.was)
      c.put_term-placed.ensures,
)

pub returns : goal.returns
returns c =
    let e : c.loop-i.i ≡ c.args.n = omega (arith, c.loop-i.invariant.1.within) in
    record {
      spared = c.loop-i.invariant.1.spared;
      too_long = tt;
      done = rw e at c.loop-i.invariant.1.done;
      indexed = c.loop-i.invariant.1.indexed;
    }
