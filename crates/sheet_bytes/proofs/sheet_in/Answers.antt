-- `sheet_bytes::sheet_in` meets its contract: the build's refusal, or the sheet of the table that was built, which always fits.
-- Assumes nothing.
use native.Mathlib.Omega.{arith}
use mathlib.Core.Path.{refl}
use Rattle.std.proofs.lemmas.Result.{err_from_is_err_and}
use Rattle.programs.specs.StandLaws.{build_refused, build_gave}
use Rattle.sheet_bytes.specs.PutLaws.{sheet_refused, made_written}
use Rattle.sheet_bytes.proofs.sheet_in.Goals as goal

pub returns-in_err-count : goal.returns-in_err-count
returns-in_err-count c =
    let told = err_from_is_err_and c.from_residual.result c.from_residual.ensures.1 in
    let refusal = build_refused c.args.book.now c.args.labels.now c.args.targets.now c.args.work.now c.requires.states_in_bounds c.requires.table_cells_in_bounds c.requires.work_length_in_bounds _ _ _ _ _ refl c.in_err-count.ensures in
    rw (told.1, told.2) (sheet_refused _ _ refusal, refl)

pub returns : goal.returns
returns c =
    let built = build_gave c.args.book.now c.args.labels.now c.args.targets.now c.args.work.now c.requires.states_in_bounds c.requires.table_cells_in_bounds c.requires.work_length_in_bounds _ _ _ _ _ refl c.in_ok-count.ensures in
    made_written _ _ _ _ _ _ built c.requires.longest_sheet_in_bounds _ (omega (arith, c.write_sheet.auto.out)) c.write_sheet.ensures
