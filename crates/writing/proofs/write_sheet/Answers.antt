-- `writing::write_sheet` meets its contract: each return is one law of writing a sheet.
-- What is well formed has a count that the writers take, and what has room has it for each part. Assumes nothing.
use mathlib.Core.Bool.{not, true}
use mathlib.Core.List.{List}
use Prim.Native.Nat.{ℕ, ◌+◌, ◌*◌, ◌≤◌}
use native.Mathlib.Omega.{arith}
use mathlib.Core.Path.{◌≡◌, sym, ap, ◌∙◌}
use borrow.Author.Tests.{not-false}
use lib.ListN.{length, take}
use Rattle.std.proofs.Common.{length-take-le}
use Rattle.number.specs.Limits.{sheet_version, bytes}
use Rattle.number.specs.Numbers.{write_number}
use Rattle.number.specs.Lists.{Writes}
use Rattle.table.specs.Table.{well_formed}
use Rattle.table.specs.Sheet.{write_states}
use Rattle.table.specs.TableLaws.{Fitting, well_fits}
use Rattle.writing.specs.WritingLaws.{sheet_is, sheet_written}
use Rattle.writing.specs.WriteLaws.{write_cramped, write_done}
use Rattle.writing.proofs.write_sheet.Goals as goal

pub slice_bounds-labels-end : goal.slice_bounds-labels-end
slice_bounds-labels-end c =
    let well : (true ≡ well_formed c.args.count c.args.labels.now c.args.targets.now) = sym (not-false c.well_formed-2.result (ap not c.if-not-well_formed.false)) ∙ c.well_formed-2.ensures.answer in
    let fits : (Fitting c.args.count c.args.labels.now c.args.targets.now) = well_fits _ _ _ well in
    let size : (length (take c.args.count c.args.labels.now) ≡ c.args.count) = length-take-le c.args.count c.args.labels.now fits.labelled in
    sym size

pub overflow_mul-targets : goal.overflow_mul-targets
overflow_mul-targets c =
    let well : (true ≡ well_formed c.args.count c.args.labels.now c.args.targets.now) = sym (not-false c.well_formed-2.result (ap not c.if-not-well_formed.false)) ∙ c.well_formed-2.ensures.answer in
    let fits : (Fitting c.args.count c.args.labels.now c.args.targets.now) = well_fits _ _ _ well in
    let size : (length (take c.args.count c.args.labels.now) ≡ c.args.count) = length-take-le c.args.count c.args.labels.now fits.labelled in
    omega (arith, fits.most)

pub slice_bounds-targets-end : goal.slice_bounds-targets-end
slice_bounds-targets-end c =
    let well : (true ≡ well_formed c.args.count c.args.labels.now c.args.targets.now) = sym (not-false c.well_formed-2.result (ap not c.if-not-well_formed.false)) ∙ c.well_formed-2.ensures.answer in
    let fits : (Fitting c.args.count c.args.labels.now c.args.targets.now) = well_fits _ _ _ well in
    let size : (length (take c.args.count c.args.labels.now) ≡ c.args.count) = length-take-le c.args.count c.args.labels.now fits.labelled in
    sym (length-take-le (c.args.count * bytes) c.args.targets.now fits.targeted)

pub sheet_length-requires : goal.sheet_length-requires
sheet_length-requires c =
    let well : (true ≡ well_formed c.args.count c.args.labels.now c.args.targets.now) = sym (not-false c.well_formed-2.result (ap not c.if-not-well_formed.false)) ∙ c.well_formed-2.ensures.answer in
    let fits : (Fitting c.args.count c.args.labels.now c.args.targets.now) = well_fits _ _ _ well in
    let size : (length (take c.args.count c.args.labels.now) ≡ c.args.count) = length-take-le c.args.count c.args.labels.now fits.labelled in
    (omega (arith, size, fits.most), omega (arith, size, length-take-le (c.args.count * bytes) c.args.targets.now fits.targeted))

pub returns-then-out-sheet_length : goal.returns-then-out-sheet_length
returns-then-out-sheet_length c =
    let well : (true ≡ well_formed c.args.count c.args.labels.now c.args.targets.now) = sym (not-false c.well_formed-2.result (ap not c.if-not-well_formed.false)) ∙ c.well_formed-2.ensures.answer in
    let fits : (Fitting c.args.count c.args.labels.now c.args.targets.now) = well_fits _ _ _ well in
    let size : (length (take c.args.count c.args.labels.now) ≡ c.args.count) = length-take-le c.args.count c.args.labels.now fits.labelled in
    write_cramped _ _ _ _ size well (omega (arith, c.sheet_length.ensures, c.if-out-sheet_length.true))

pub write_number-at_count-requires-clause-n_in_bounds : goal.write_number-at_count-requires-clause-n_in_bounds
write_number-at_count-requires-clause-n_in_bounds c =
    let well : (true ≡ well_formed c.args.count c.args.labels.now c.args.targets.now) = sym (not-false c.well_formed-2.result (ap not c.if-not-well_formed.false)) ∙ c.well_formed-2.ensures.answer in
    let fits : (Fitting c.args.count c.args.labels.now c.args.targets.now) = well_fits _ _ _ well in
    let size : (length (take c.args.count c.args.labels.now) ≡ c.args.count) = length-take-le c.args.count c.args.labels.now fits.labelled in
    let labels : List ℕ = take c.args.count c.args.labels.now in
    let targets : List ℕ = take (c.args.count * bytes) c.args.targets.now in
    let width : (length (write_number (length labels)) ≡ length (write_number c.args.count)) = ap (λ n. length (write_number n)) size in
    let roomy : (length (write_number sheet_version) + length (write_number c.args.count) + length (write_states labels targets) ≤ length c.args.out.now) = omega (arith, c.sheet_length.ensures, c.if-out-sheet_length.false, sheet_is labels targets, width) in
    omega (arith, roomy)

pub write_number-at_states-requires-clause-n_lt_three_groups : goal.write_number-at_states-requires-clause-n_lt_three_groups
write_number-at_states-requires-clause-n_lt_three_groups c =
    let well : (true ≡ well_formed c.args.count c.args.labels.now c.args.targets.now) = sym (not-false c.well_formed-2.result (ap not c.if-not-well_formed.false)) ∙ c.well_formed-2.ensures.answer in
    let fits : (Fitting c.args.count c.args.labels.now c.args.targets.now) = well_fits _ _ _ well in
    let size : (length (take c.args.count c.args.labels.now) ≡ c.args.count) = length-take-le c.args.count c.args.labels.now fits.labelled in
    omega (arith, fits.most)

pub write_number-at_states-requires-clause-n_in_bounds : goal.write_number-at_states-requires-clause-n_in_bounds
write_number-at_states-requires-clause-n_in_bounds c =
    let well : (true ≡ well_formed c.args.count c.args.labels.now c.args.targets.now) = sym (not-false c.well_formed-2.result (ap not c.if-not-well_formed.false)) ∙ c.well_formed-2.ensures.answer in
    let fits : (Fitting c.args.count c.args.labels.now c.args.targets.now) = well_fits _ _ _ well in
    let size : (length (take c.args.count c.args.labels.now) ≡ c.args.count) = length-take-le c.args.count c.args.labels.now fits.labelled in
    let labels : List ℕ = take c.args.count c.args.labels.now in
    let targets : List ℕ = take (c.args.count * bytes) c.args.targets.now in
    let width : (length (write_number (length labels)) ≡ length (write_number c.args.count)) = ap (λ n. length (write_number n)) size in
    let roomy : (length (write_number sheet_version) + length (write_number c.args.count) + length (write_states labels targets) ≤ length c.args.out.now) = omega (arith, c.sheet_length.ensures, c.if-out-sheet_length.false, sheet_is labels targets, width) in
    let version : (Writes (write_number sheet_version) c.args.out.now c.write_number-at_count.new.out 0 c.write_number-at_count.result) = record { place = c.write_number-at_count.ensures.value; out = c.write_number-at_count.ensures.out_after } in
    omega (arith, roomy, version.place, c.write_number-at_count.auto.out)

pub write_states-requires-clause-table : goal.write_states-requires-clause-table
write_states-requires-clause-table c =
    let well : (true ≡ well_formed c.args.count c.args.labels.now c.args.targets.now) = sym (not-false c.well_formed-2.result (ap not c.if-not-well_formed.false)) ∙ c.well_formed-2.ensures.answer in
    let fits : (Fitting c.args.count c.args.labels.now c.args.targets.now) = well_fits _ _ _ well in
    let size : (length (take c.args.count c.args.labels.now) ≡ c.args.count) = length-take-le c.args.count c.args.labels.now fits.labelled in
    (omega (arith, size, fits.most), omega (arith, size, length-take-le (c.args.count * bytes) c.args.targets.now fits.targeted))

pub write_states-requires-clause-room : goal.write_states-requires-clause-room
write_states-requires-clause-room c =
    let well : (true ≡ well_formed c.args.count c.args.labels.now c.args.targets.now) = sym (not-false c.well_formed-2.result (ap not c.if-not-well_formed.false)) ∙ c.well_formed-2.ensures.answer in
    let fits : (Fitting c.args.count c.args.labels.now c.args.targets.now) = well_fits _ _ _ well in
    let size : (length (take c.args.count c.args.labels.now) ≡ c.args.count) = length-take-le c.args.count c.args.labels.now fits.labelled in
    let labels : List ℕ = take c.args.count c.args.labels.now in
    let targets : List ℕ = take (c.args.count * bytes) c.args.targets.now in
    let width : (length (write_number (length labels)) ≡ length (write_number c.args.count)) = ap (λ n. length (write_number n)) size in
    let roomy : (length (write_number sheet_version) + length (write_number c.args.count) + length (write_states labels targets) ≤ length c.args.out.now) = omega (arith, c.sheet_length.ensures, c.if-out-sheet_length.false, sheet_is labels targets, width) in
    let version : (Writes (write_number sheet_version) c.args.out.now c.write_number-at_count.new.out 0 c.write_number-at_count.result) = record { place = c.write_number-at_count.ensures.value; out = c.write_number-at_count.ensures.out_after } in
    let count : (Writes (write_number c.args.count) c.write_number-at_count.new.out c.write_number-at_states.new.out c.write_number-at_count.result c.write_number-at_states.result) = record { place = c.write_number-at_states.ensures.value; out = c.write_number-at_states.ensures.out_after } in
    omega (arith, roomy, version.place, c.write_number-at_count.auto.out, count.place, c.write_number-at_states.auto.out)

pub returns : goal.returns
returns c =
    let well : (true ≡ well_formed c.args.count c.args.labels.now c.args.targets.now) = sym (not-false c.well_formed-2.result (ap not c.if-not-well_formed.false)) ∙ c.well_formed-2.ensures.answer in
    let fits : (Fitting c.args.count c.args.labels.now c.args.targets.now) = well_fits _ _ _ well in
    let size : (length (take c.args.count c.args.labels.now) ≡ c.args.count) = length-take-le c.args.count c.args.labels.now fits.labelled in
    let labels : List ℕ = take c.args.count c.args.labels.now in
    let targets : List ℕ = take (c.args.count * bytes) c.args.targets.now in
    let width : (length (write_number (length labels)) ≡ length (write_number c.args.count)) = ap (λ n. length (write_number n)) size in
    let roomy : (length (write_number sheet_version) + length (write_number c.args.count) + length (write_states labels targets) ≤ length c.args.out.now) = omega (arith, c.sheet_length.ensures, c.if-out-sheet_length.false, sheet_is labels targets, width) in
    let version : (Writes (write_number sheet_version) c.args.out.now c.write_number-at_count.new.out 0 c.write_number-at_count.result) = record { place = c.write_number-at_count.ensures.value; out = c.write_number-at_count.ensures.out_after } in
    let count : (Writes (write_number c.args.count) c.write_number-at_count.new.out c.write_number-at_states.new.out c.write_number-at_count.result c.write_number-at_states.result) = record { place = c.write_number-at_states.ensures.value; out = c.write_number-at_states.ensures.out_after } in
    let sheet = sheet_written labels targets (omega arith) (omega (arith, roomy, version.place, c.write_number-at_count.auto.out))
    version (rw size count) c.write_states.ensures in
    write_done _ _ _ _ size well (omega (arith, c.sheet_length.ensures, c.if-out-sheet_length.false)) sheet
