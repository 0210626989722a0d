-- `pairs::walk_row` meets its contract. The loop's invariant: with what remains, the numbers reached so far are the whole row.
-- The measure is how many bytes are left. Assumes nothing.
use Prim.Native.Nat.{ℕ, ◌+◌, ◌*◌}
use native.Mathlib.Omega.{arith}
use mathlib.Core.Path.{refl, ap}
use borrow.Author.Rules.{rules}
use Rattle.std.proofs.lemmas.Result.{err_from_is_err_and}
use Rattle.number.specs.Limits.{bytes}
use Rattle.pairs.specs.BesideLaws.{Onward, turn_first, turn_end, turn_reads, turn_ready, turn_stops, turn_on}
use Rattle.steps.specs.CallLaws.{followed}
use Rattle.pairs.proofs.walk_row.Goals as goal
use Rattle.pairs.proofs.walk_row.Goals.{In_ok-went}

-- a step was made: what may be asked of its item, and the turn that follows
went_on : (c : In_ok-went)
    → Onward c.args.cells.now c.args.n c.args.held.top c.args.held.count c.args.i c.args.targets.now c.number_told-place.result (c.state_of-base.result * bytes)
    c.step.new.cells c.in_ok-went.went.held.top c.in_ok-went.went.held.count c.loop-c.c
went_on c = turn_on _ _ _ _ _ _ _ _ _ _ _ _ c.loop-c.invariant.0 c.requires.closed c.loop-c-test.true _ refl _ _ c.step.ensures.steps _ c.in_ok-went.was

pub number_told-place-requires : goal.number_told-place-requires
number_told-place-requires c =
    record { top = c.args.held.top; kept = c.requires.beside.kept; few = c.requires.beside.few; inside = c.requires.i_lt_count }

pub overflow_add-i : goal.overflow_add-i
overflow_add-i c = omega (arith, c.requires.beside.few, c.requires.i_lt_count)

pub offset_bounds-cells-i : goal.offset_bounds-cells-i
offset_bounds-cells-i c = omega (arith, c.requires.beside.few, c.requires.i_lt_count)

pub bounds-cells-i : goal.bounds-cells-i
bounds-cells-i c = omega (arith, c.requires.beside.few, c.requires.i_lt_count, c.requires.beside.kept.long)

pub overflow_mul-base : goal.overflow_mul-base
overflow_mul-base c = omega (arith, c.requires.beside.sheets c.args.i c.requires.i_lt_count, c.state_of-base.ensures)

pub loop-c-init : goal.loop-c-init
loop-c-init c = (
  turn_first c.args.cells.now c.args.n c.args.held.top c.args.held.count c.args.i c.args.targets.now _ _ c.requires.beside c.requires.i_lt_count c.number_told-place.ensures
      (ap (λ (q : ℕ). q * bytes) c.state_of-base.ensures),
  refl,
  c.requires.indexed,
)

pub overflow_add-at : goal.overflow_add-at
overflow_add-at c = omega (arith, turn_reads _ _ _ _ _ _ _ _ _ _ _ _ c.loop-c.invariant.0 c.requires.closed c.loop-c-test.true)

pub bounds-targets-at : goal.bounds-targets-at
bounds-targets-at c =
    turn_reads _ _ _ _ _ _ _ _ _ _ _ _ c.loop-c.invariant.0 c.requires.closed c.loop-c-test.true

pub overflow_cast-to : goal.overflow_cast-to
overflow_cast-to c = omega (arith, c.type_inv.targets (c.state_of-base.result * bytes + c.loop-c.c))

pub overflow_add-to : goal.overflow_add-to
overflow_add-to c = omega (arith, c.type_inv.targets (c.state_of-base.result * bytes + c.loop-c.c))

pub step-requires : goal.step-requires
step-requires c =
    record { ready = turn_ready _ _ _ _ _ _ _ _ _ _ _ _ c.loop-c.invariant.0 c.requires.closed c.loop-c-test.true; indexed = c.loop-c.invariant.2 }

pub returns-in_err-went : goal.returns-in_err-went
returns-in_err-went c =
    let told = err_from_is_err_and c.from_residual.result c.from_residual.ensures.1 in
    rw (told.1, told.2) (record { ends = turn_stops _ _ _ _ _ _ _ _ _ _ _ _ c.loop-c.invariant.0 c.requires.closed c.loop-c-test.true _ refl _ _ c.step.ensures.steps _ c.in_err-went.was; follows = tt })

pub load-requires : goal.load-requires
load-requires c =
    let onward = went_on (goal.at.load-requires c).In_ok-went in
    onward.within

pub edge_of-edge-requires : goal.edge_of-edge-requires
edge_of-edge-requires c =
    let onward = went_on (goal.at.edge_of-edge-requires c).In_ok-went in
    record { reads_short = onward.reads_on c.load.ensures; byte_le_last_byte = omega (arith, c.loop-c-test.true) }

pub overflow_add-base : goal.overflow_add-base
overflow_add-base c =
    let onward = went_on (goal.at.overflow_add-base c).In_ok-went in
    omega (arith, onward.fits c.load.ensures c.edge_of-edge.ensures, c.well_formed.1.1.1.1.1.0)

pub run_end-requires : goal.run_end-requires
run_end-requires c =
    let onward = went_on (goal.at.run_end-requires c).In_ok-went in
    (onward.some c.load.ensures c.edge_of-edge.ensures, onward.fits c.load.ensures c.edge_of-edge.ensures)

pub overflow_sub-c : goal.overflow_sub-c
overflow_sub-c c = omega (arith, c.run_end.ensures.onward)

pub loop-c-smaller : goal.loop-c-smaller
loop-c-smaller c =
    omega (arith, c.run_end.ensures.onward, c.loop-c-test.true)

pub loop-c-preserved : goal.loop-c-preserved
loop-c-preserved c =
    let onward = went_on (goal.at.loop-c-preserved c).In_ok-went in (
      onward.next c.load.ensures c.edge_of-edge.ensures c.run_end.ensures,
      search rules,
      followed c.step.ensures.follows c.in_ok-went.was,
    )

pub returns : goal.returns
returns c =
    record { ends = turn_end _ _ _ _ _ _ _ _ _ _ _ _ c.loop-c.invariant.0 c.loop-c-test.false; follows = c.loop-c.invariant.2 }
