-- `row::fill_row` meets its contract: the bytes below the next one are passed, and their numbers stand in the item's row.
-- A refused step ends the row; past the last byte the row is whole. Assumes nothing.
use native.Mathlib.Omega.{arith}
use mathlib.Core.Path.{refl}
use borrow.Author.Rules.{rules}
use Rattle.std.proofs.lemmas.Result.{err_from_is_err_and}
use Rattle.row.specs.FillLaws.{filling_first, filling_within, filling_reads, filling_ready, filling_stop, filling_small, filling_more, filling_end, edge_on, edge_most}
use Rattle.steps.specs.CallLaws.{followed}
use Rattle.row.proofs.fill_row.Goals as goal

pub overflow_mul-base : goal.overflow_mul-base
overflow_mul-base c = omega (arith, c.requires.fillable.few, c.requires.i_lt_count)

pub loop-byte-init : goal.loop-byte-init
loop-byte-init c = (refl, refl, filling_first c.args.i c.requires.fillable, refl, c.requires.indexed)

pub load-requires : goal.load-requires
load-requires c = filling_within c.loop-byte.invariant.2 c.requires.i_lt_count c.loop-byte-test.true

pub edge_of-edge-requires : goal.edge_of-edge-requires
edge_of-edge-requires c =
    record { reads_short = filling_reads c.loop-byte.invariant.2 c.requires.i_lt_count c.loop-byte-test.true c.load.ensures; byte_le_last_byte = omega (arith, c.loop-byte-test.true) }

pub step-requires : goal.step-requires
step-requires c =
    record { ready = filling_ready c.loop-byte.invariant.2 c.requires.i_lt_count c.loop-byte-test.true; indexed = c.loop-byte.invariant.4 }

pub shape_of-index-in_err-made : goal.shape_of-index-in_err-made
shape_of-index-in_err-made c = omega (arith, c.loop-byte.invariant.3)

pub shape_of-cells-in_err-made : goal.shape_of-cells-in_err-made
shape_of-cells-in_err-made c = omega (arith, c.loop-byte.invariant.0, c.step.ensures.steps.same_length)

pub shape_of-targets-in_err-made : goal.shape_of-targets-in_err-made
shape_of-targets-in_err-made c = omega (arith, c.loop-byte.invariant.1)

pub returns-in_err-made : goal.returns-in_err-made
returns-in_err-made c =
    let told = err_from_is_err_and c.from_residual.result c.from_residual.ensures.1 in
    rw (told.1, told.2) (record {
      row_filled = record {
        comes =
            filling_stop c.loop-byte.invariant.2 c.requires.i_lt_count c.loop-byte-test.true c.load.ensures c.edge_of-edge.ensures
            c.step.ensures.steps c.loop-byte.targets c.in_err-made.was;
      };
      follows = tt;
    })

pub overflow_add-base : goal.overflow_add-base
overflow_add-base c = omega (arith, c.requires.fillable.few, c.requires.i_lt_count, c.loop-byte-test.true)

pub overflow_add-base-in-loop-byte : goal.overflow_add-base-in-loop-byte
overflow_add-base-in-loop-byte c =
    let most = edge_most c.loop-byte.invariant.2 c.requires.i_lt_count c.loop-byte-test.true c.load.ensures c.edge_of-edge.ensures in
    omega (arith, c.requires.fillable.few, c.requires.i_lt_count)

pub overflow_cast-made : goal.overflow_cast-made
overflow_cast-made c =
    let small =
    filling_small c.loop-byte.invariant.2 c.requires.i_lt_count c.loop-byte-test.true c.load.ensures c.edge_of-edge.ensures
    c.step.ensures.steps c.in_ok-made.was in
    omega arith

pub fill-requires : goal.fill-requires
fill-requires c =
    let on = edge_on c.loop-byte.invariant.2 c.requires.i_lt_count c.loop-byte-test.true c.load.ensures c.edge_of-edge.ensures in
    let most = edge_most c.loop-byte.invariant.2 c.requires.i_lt_count c.loop-byte-test.true c.load.ensures c.edge_of-edge.ensures in
    (omega arith, omega (arith, c.requires.fillable.few, c.requires.fillable.room, c.requires.i_lt_count, c.loop-byte.invariant.1))

pub loop-byte-smaller : goal.loop-byte-smaller
loop-byte-smaller c =
    let on = edge_on c.loop-byte.invariant.2 c.requires.i_lt_count c.loop-byte-test.true c.load.ensures c.edge_of-edge.ensures in
    let most = edge_most c.loop-byte.invariant.2 c.requires.i_lt_count c.loop-byte-test.true c.load.ensures c.edge_of-edge.ensures in
    omega arith

pub loop-byte-preserved : goal.loop-byte-preserved
loop-byte-preserved c = (
  omega (arith, c.loop-byte.invariant.0, c.step.ensures.steps.same_length),
  search rules,
  filling_more c.loop-byte.invariant.2 c.requires.i_lt_count c.loop-byte-test.true c.load.ensures c.edge_of-edge.ensures
      c.step.ensures.steps c.in_ok-made.was c.requires.fillable.room c.fill.ensures,
  search rules,
  followed c.step.ensures.follows c.in_ok-made.was,
)

pub shape_of-index : goal.shape_of-index
shape_of-index c = omega (arith, c.loop-byte.invariant.3)

pub shape_of-cells : goal.shape_of-cells
shape_of-cells c = omega (arith, c.loop-byte.invariant.0)

pub shape_of-targets : goal.shape_of-targets
shape_of-targets c = omega (arith, c.loop-byte.invariant.1)

pub returns : goal.returns
returns c =
    record { row_filled = record { comes = filling_end c.loop-byte.invariant.2 c.loop-byte-test.false }; follows = c.loop-byte.invariant.4 }
