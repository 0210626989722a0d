-- `filled::fill_rows` meets its contract: the rows of the items below the next one stand in the targets.
-- A refused row ends the walk; where no item remains it is whole. Assumes nothing.
use native.Mathlib.Omega.{arith}
use mathlib.Core.Path.{refl}
use borrow.Author.Rules.{rules}
use Rattle.std.proofs.lemmas.Result.{err_from_is_err_and}
use Rattle.filled.specs.TabledLaws.{rowing_first, rowing_fillable, rowing_stop, rowing_more, rowing_end}
use Rattle.filled.proofs.fill_rows.Goals as goal

pub loop-i-init : goal.loop-i-init
loop-i-init c = (refl, refl, rowing_first c.requires.fillable, refl, c.requires.indexed)

pub fill_row-requires : goal.fill_row-requires
fill_row-requires c =
    record { fillable = rowing_fillable c.loop-i.invariant.2 (omega (arith, c.loop-i.invariant.1, c.requires.fillable.room)); i_lt_count = c.loop-i-test.true; indexed = c.loop-i.invariant.4 }

pub returns-in_err-next : goal.returns-in_err-next
returns-in_err-next c =
    let told = err_from_is_err_and c.from_residual.result c.from_residual.ensures.1 in
    rw (told.1, told.2) (record { comes = rowing_stop c.loop-i.invariant.2 c.loop-i-test.true c.fill_row.ensures.row_filled c.in_err-next.was })

pub overflow_add-i : goal.overflow_add-i
overflow_add-i c = omega (arith, c.loop-i.invariant.2.few)

pub loop-i-smaller : goal.loop-i-smaller
loop-i-smaller c = omega (arith, c.loop-i.invariant.2.few)

pub loop-i-preserved : goal.loop-i-preserved
loop-i-preserved c = (
  search rules,
  search rules,
  rowing_more c.loop-i.invariant.2 c.loop-i-test.true c.fill_row.ensures.row_filled c.in_ok-next.was,
  search rules,
  c.in_ok-next.ensures.follows,
)

pub returns : goal.returns
returns c = record { comes = rowing_end c.loop-i.invariant.2 c.loop-i-test.false }
