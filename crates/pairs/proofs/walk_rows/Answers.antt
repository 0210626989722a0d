-- `pairs::walk_rows` meets its contract. The loop's invariant: with what remains, the numbers reached so far are the whole walk.
-- The measure is how many items may still be walked. Assumes nothing.
use native.Mathlib.Omega.{arith}
use mathlib.Core.Path.{refl}
use borrow.Author.Rules.{rules}
use Rattle.pairs.specs.BesideLaws.{rounds_first, rounds_end, rounds_stop, rounds_next}
use Rattle.std.proofs.lemmas.Result.{err_from_is_err_and}
use Rattle.pairs.proofs.walk_rows.Goals as goal

pub loop-i-init : goal.loop-i-init
loop-i-init c =
    (rounds_first c.args.cells.now c.args.n c.args.held.top c.args.held.count c.args.targets.now c.requires.beside, refl, c.requires.indexed)

pub walk_row-requires : goal.walk_row-requires
walk_row-requires c =
    record { beside = c.loop-i.invariant.0.beside; closed = c.requires.closed; i_lt_count = c.loop-i-test.true; indexed = c.loop-i.invariant.2 }

pub returns-in_err-next : goal.returns-in_err-next
returns-in_err-next c =
    let told = err_from_is_err_and c.from_residual.result c.from_residual.ensures.1 in
    rw (told.1, told.2) (rounds_stop _ _ _ _ _ _ _ _ _ c.loop-i.invariant.0 c.loop-i-test.true _ _ c.walk_row.ensures.ends _ c.in_err-next.was)

pub overflow_add-i : goal.overflow_add-i
overflow_add-i c = omega (arith, c.loop-i.invariant.0.beside.few, c.loop-i-test.true)

pub loop-i-smaller : goal.loop-i-smaller
loop-i-smaller c = omega (arith, c.loop-i.invariant.0.beside.few, c.loop-i-test.true)

pub loop-i-preserved : goal.loop-i-preserved
loop-i-preserved c = (
  rounds_next _ _ _ _ _ _ _ _ _ c.loop-i.invariant.0 c.loop-i-test.true _ _ c.walk_row.ensures.ends c.walk_row.auto.cells _ c.in_ok-next.was,
  search rules,
  c.in_ok-next.ensures.follows,
)

pub returns : goal.returns
returns c = rounds_end _ _ _ _ _ _ _ _ _ c.loop-i.invariant.0 c.loop-i-test.false
