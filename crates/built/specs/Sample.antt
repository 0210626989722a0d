-- The build of the sample book W: it gives the table of 7 states that cutting has written out; and its sheet in bytes, as program sheet writes it.
-- The checker computes each equation.
use Rattle.std.specs.Prelude.{ℕ, ◌≡◌, refl, List, [], ◌∷◌}
use Rattle.std.proofs.Common.{ap, ◌∙◌}
use Rattle.number.specs.Numbers.{due, several, read_number, within, field, write_number}
use Rattle.number.specs.Refused.Answer.{got}
use Rattle.number.specs.Refused.Outcome.{gives}
use Rattle.meaning.specs.Sample.{W}
use Rattle.meaning.specs.Re.{size}
use Rattle.meaning.specs.Order.{order}
use Rattle.meaning.specs.Normal.{chain, cat, gathered, kept, placed, sorted, nested, alt, star, normal}
use Rattle.meaning.specs.Derive.{nullable, deriv}
use Rattle.meaning.specs.Limited.{deriv_fit, normal_fit}
use Rattle.meaning.specs.Rules.{label_from}
use Rattle.book.specs.Sample.{w_bytes, w_reads, w_means}
use Rattle.table.specs.Sheet.{more_runs, more_states, sheet, read_sheet}
use Rattle.table.specs.Sheet.{joined, runs_of, write_runs, write_row, write_states, write_sheet}
use Rattle.cutting.specs.Sample.{table_w}
use Rattle.walk.specs.Vectors.{derived, normalised, same_vector}
use Rattle.walk.specs.Parts.{holds, with_term, with_parts, with_vector}
use Rattle.walk.specs.Walk.{number_in, come, step, row, rows, walk_from}
use Rattle.built.specs.Build.{build_rules}
use Rattle.built.specs.Calls.{build_read, build_book}

-- version and state count; then a line for each state: its label, its run count, and its runs, each as length and target
unfoldable pub w_sheet : List ℕ
w_sheet =
    0x01 ∷ 0x07 ∷
    0x00 ∷ 0x09 ∷ 0x20 ∷ 0x01 ∷ 0x01 ∷ 0x02 ∷ 0x0F ∷ 0x01 ∷ 0x0A ∷ 0x03 ∷ 0x27 ∷ 0x01 ∷ 0x13 ∷ 0x04 ∷ 0x01 ∷ 0x05 ∷ 0x06 ∷ 0x04 ∷ 0x85 ∷ 0x01 ∷ 0x01 ∷
    0x00 ∷ 0x01 ∷ 0x80 ∷ 0x02 ∷ 0x01 ∷
    0x04 ∷ 0x01 ∷ 0x80 ∷ 0x02 ∷ 0x01 ∷
    0x03 ∷ 0x03 ∷ 0x30 ∷ 0x01 ∷ 0x0A ∷ 0x03 ∷ 0xC6 ∷ 0x01 ∷ 0x01 ∷
    0x02 ∷ 0x03 ∷ 0x61 ∷ 0x01 ∷ 0x1A ∷ 0x04 ∷ 0x85 ∷ 0x01 ∷ 0x01 ∷
    0x02 ∷ 0x05 ∷ 0x61 ∷ 0x01 ∷ 0x0E ∷ 0x04 ∷ 0x01 ∷ 0x06 ∷ 0x0B ∷ 0x04 ∷ 0x85 ∷ 0x01 ∷ 0x01 ∷
    0x01 ∷ 0x03 ∷ 0x61 ∷ 0x01 ∷ 0x1A ∷ 0x04 ∷ 0x85 ∷ 0x01 ∷ 0x01 ∷
    []

pub w_builds : build_rules W ≡ gives table_w
unfolding build_rules walk_from rows row step come number_in with_vector with_parts with_term holds same_vector derived normalised label_from deriv_fit normal_fit deriv nullable normal star alt nested sorted placed kept gathered cat chain order size
w_builds = refl

pub w_built : build_book w_bytes ≡ gives table_w
w_built = ap build_read w_reads ∙ ap build_rules w_means ∙ w_builds

pub w_written : write_sheet table_w ≡ w_sheet
unfolding w_sheet write_sheet write_states write_row write_runs runs_of joined write_number
w_written = refl

pub w_read_back : read_sheet w_sheet ≡ got table_w 73
unfolding w_sheet sheet more_states more_runs field within read_number due several
w_read_back = refl
