-- The sheets and tables of Samples, computed by the checker.
-- They rest on definitions alone, so that a definition that answers otherwise for one of them is refused here.
use Rattle.std.specs.Prelude.{◌≡◌, refl, map}
use Rattle.number.specs.Numbers.{due, several, read_number, within, field, write_number}
use Rattle.number.specs.Sample.{repeated}
use Rattle.table.specs.Table.{all, well_formed}
use Rattle.table.specs.Sheet.{more_runs, more_states, sheet, runs_of, joined, write_runs, write_row, write_states, write_sheet}
use Rattle.table.specs.Samples.{one_state, one_bytes, two_states, two_bytes, IsSheetOf, head_given, head_told, head_lines}
use Rattle.table.specs.Samples.{row_given, row_told, sheet_lines, pass_given, pass_told, memory_lines}

pub sheets_computed : IsSheetOf one_state one_bytes × IsSheetOf two_states two_bytes
unfolding sheet more_states more_runs field within read_number due several write_sheet write_states write_row write_runs runs_of joined write_number
sheets_computed = ((refl, refl, refl), (refl, refl, refl))

pub heads_computed : map head_given head_lines ≡ map head_told head_lines
unfolding head_lines sheet more_states field within read_number due several
heads_computed = refl

pub rows_computed : map row_given sheet_lines ≡ map row_told sheet_lines
unfolding sheet_lines repeated sheet more_states more_runs field within read_number due several
rows_computed = refl

pub tests_computed : map pass_given memory_lines ≡ map pass_told memory_lines
unfolding memory_lines well_formed all
tests_computed = refl
