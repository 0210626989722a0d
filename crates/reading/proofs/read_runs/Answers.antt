-- `reading::read_runs` meets its contract: what the runs to come leave is what was asked, by one law of reading a row a way through a turn.
-- Assumes nothing.
use Prim.Native.Nat.{◌+◌, ◌-◌}
use native.Mathlib.Omega.{arith}
use mathlib.Core.Path.{◌≡◌, refl, sym, ap, ◌∙◌}
use Rattle.std.specs.Prelude.{Err}
use Rattle.std.proofs.lemmas.Result.{err_from_is_err_and}
use lib.ListN.{length, replicate, length-replicate}
use Rattle.number.specs.Limits.{bytes}
use Rattle.number.specs.Refused.Answer.{got}
use Rattle.number.specs.Numbers.{field, taken}
use Rattle.number.proofs.NumberLaws.{field_read}
use Rattle.number.specs.Lists.{written}
use Rattle.table.specs.FillLaws.{part_filled}
use Rattle.table.specs.Sheet.{more_runs}
use Rattle.reading.specs.ReadingLaws.{runs_low, runs_end, runs_no_length, runs_long, runs_no_target, runs_same, runs_more}
use Rattle.reading.specs.ReadingLaws.{row_stopped, row_end, row_more}
use Rattle.reading.proofs.read_runs.Goals as goal

pub returns-in_err-len : goal.returns-in_err-len
returns-in_err-len c =
    let told = err_from_is_err_and c.from_residual.result c.from_residual.ensures.1 in
    let refused-at = sym c.read_field.ensures.answer ∙ ap taken c.in_err-len.was in
    c.loop.invariant.1 _ _ (row_stopped _ (runs_no_length _ _ _ _ _ _ (c.args.count - (c.loop.counter + 1)) (omega arith) refused-at) (ap taken (told.1 ∙ ap Err told.2)))

pub overflow_add-end : goal.overflow_add-end
overflow_add-end c =
    let length_got : (field c.args.sheet.now 1 bytes c.loop.place ≡ got c.in_ok-len.len c.in_ok-len.at_target) = sym c.read_field.ensures.answer ∙ ap taken c.in_ok-len.was in
    omega (arith, (field_read _ _ _ _ _ _ length_got).high)

pub returns-then-end-gt-BYTES : goal.returns-then-end-gt-BYTES
returns-then-end-gt-BYTES c =
    let length_got : (field c.args.sheet.now 1 bytes c.loop.place ≡ got c.in_ok-len.len c.in_ok-len.at_target) = sym c.read_field.ensures.answer ∙ ap taken c.in_ok-len.was in
    c.loop.invariant.1 _ _
    (row_stopped _ (runs_long _ _ _ _ _ _ (c.args.count - (c.loop.counter + 1)) (omega arith) length_got c.if-end-gt-BYTES.true) refl)

pub returns-in_err-target : goal.returns-in_err-target
returns-in_err-target c =
    let length_got : (field c.args.sheet.now 1 bytes c.loop.place ≡ got c.in_ok-len.len c.in_ok-len.at_target) = sym c.read_field.ensures.answer ∙ ap taken c.in_ok-len.was in
    let told = err_from_is_err_and c.from_residual-in_err-target.result c.from_residual-in_err-target.ensures.1 in
    let refused-at = sym c.read_field-in-loop.ensures.answer ∙ ap taken c.in_err-target.was in
    c.loop.invariant.1 _ _
    (row_stopped _ (runs_no_target _ _ _ _ _ _ (c.args.count - (c.loop.counter + 1)) (omega arith) length_got c.if-end-gt-BYTES.false refused-at)
    (ap taken (told.1 ∙ ap Err told.2)))

pub returns-then-target-before : goal.returns-then-target-before
returns-then-target-before c =
    let length_got : (field c.args.sheet.now 1 bytes c.loop.place ≡ got c.in_ok-len.len c.in_ok-len.at_target) = sym c.read_field.ensures.answer ∙ ap taken c.in_ok-len.was in
    let target-got : (field c.args.sheet.now 0 (c.args.s - 1) c.in_ok-len.at_target ≡ got c.in_ok-target.target c.in_ok-target.next) = sym c.read_field-in-loop.ensures.answer ∙ ap taken c.in_ok-target.was in
    c.loop.invariant.1 _ _
    (row_stopped _ (runs_same _ _ _ _ _ _ (c.args.count - (c.loop.counter + 1)) (omega arith) length_got c.if-end-gt-BYTES.false target-got c.if-target-before.true)
    refl)

pub overflow_cast-target : goal.overflow_cast-target
overflow_cast-target c =
    let target-got : (field c.args.sheet.now 0 (c.args.s - 1) c.in_ok-len.at_target ≡ got c.in_ok-target.target c.in_ok-target.next) = sym c.read_field-in-loop.ensures.answer ∙ ap taken c.in_ok-target.was in
    omega (arith, (field_read _ _ _ _ _ _ target-got).high)

pub loop-preserved : goal.loop-preserved
loop-preserved c =
    let length_got : (field c.args.sheet.now 1 bytes c.loop.place ≡ got c.in_ok-len.len c.in_ok-len.at_target) = sym c.read_field.ensures.answer ∙ ap taken c.in_ok-len.was in
    let target-got : (field c.args.sheet.now 0 (c.args.s - 1) c.in_ok-len.at_target ≡ got c.in_ok-target.target c.in_ok-target.next) = sym c.read_field-in-loop.ensures.answer ∙ ap taken c.in_ok-target.was in
    let more = runs_more c.args.sheet.now c.args.s (c.args.count - c.loop.counter) c.loop.covered c.loop.before c.loop.place (c.args.count - (c.loop.counter + 1)) (omega arith)
    length_got c.if-end-gt-BYTES.false target-got c.if-target-before.false in
    let size : length (replicate c.in_ok-len.len c.in_ok-target.target) ≡ c.in_ok-len.len = length-replicate c.in_ok-len.len c.in_ok-target.target in
    let width : c.loop.covered + c.in_ok-len.len - c.loop.covered ≡ c.in_ok-len.len = omega arith in
    let laid = part_filled c.loop.row c.loop.covered (c.loop.covered + c.in_ok-len.len) c.in_ok-target.target (omega (arith, c.loop.auto.row, c.requires.2, c.if-end-gt-BYTES.false)) (c.fill.ensures.after (λ y h. h)) in
    let run-laid = laid ∙ ap (λ n. written c.loop.row c.loop.covered (replicate n c.in_ok-target.target)) width in
    let rest = more_runs c.args.sheet.now c.args.s (c.args.count - (c.loop.counter + 1)) (c.loop.covered + c.in_ok-len.len) c.in_ok-target.target c.in_ok-target.next in (
      c.if-end-gt-BYTES.false,
      λ t r h. c.loop.invariant.1 t r (row_more rest (replicate c.in_ok-len.len c.in_ok-target.target) more (omega (arith, c.loop.auto.row, c.requires.2, c.loop.invariant.0)) run-laid (omega arith) h),
    )

pub returns-then-covered-lt-BYTES : goal.returns-then-covered-lt-BYTES
returns-then-covered-lt-BYTES c =
    c.loop.invariant.1 _ _ (row_stopped _ (runs_low _ _ _ _ _ _ (omega arith) c.if-covered-lt-BYTES.true) refl)

pub returns : goal.returns
returns c =
    c.loop.invariant.1 _ _ (row_end (runs_end _ _ _ _ _ _ (omega arith) c.if-covered-lt-BYTES.false) refl)
