-- What program cut prints for the sample book W and the text `to tom 7`, byte by byte, which is document 01's whole output; and for `to tom #7`; and W's sheet.
-- The checker computes all three, from the book's bytes on.
use Rattle.std.specs.Prelude.{ℕ, ◌≤◌, ◌≡◌, refl, List, [], ◌∷◌, length}
use Rattle.std.proofs.Common.{arith, sym, ap, ◌∙◌}
use Rattle.number.specs.Limits.{book_file, text_file}
use Rattle.number.specs.Refused.{Answer, Outcome}
use Rattle.number.specs.Refused.Answer.{got}
use Rattle.number.specs.Refused.Outcome.{gives, refuses}
use Rattle.meaning.specs.Re.{Text, size}
use Rattle.meaning.specs.Order.{order}
use Rattle.meaning.specs.Normal.{chain, cat, gathered, kept, placed, sorted, nested, alt, star, normal}
use Rattle.meaning.specs.Derive.{nullable, deriv}
use Rattle.meaning.specs.Limited.{deriv_fit, normal_fit}
use Rattle.meaning.specs.Rules.{label_from}
use Rattle.meaning.specs.Sample.{W}
use Rattle.meaning.specs.Words.{scan}
use Rattle.book.specs.Book.{Book}
use Rattle.book.specs.Reads.{read_book}
use Rattle.book.specs.Calls.{kind_in as kind_from}
use Rattle.book.specs.Sample.{w_bytes, w_book, w_length, w_reads, w_means}
use Rattle.walk.specs.Vectors.{derived, normalised, same_vector}
use Rattle.walk.specs.Parts.{holds, with_term, with_parts, with_vector}
use Rattle.walk.specs.Walk.{number_in, come, step, row, rows, walk_from}
use Rattle.table.specs.Table.{Table}
use Rattle.cutting.specs.Steps.{first_by}
use Rattle.cutting.specs.Cut.{cut_by}
use Rattle.built.specs.Build.{build_rules}
use Rattle.built.specs.Calls.{build_read}
use Rattle.built.specs.Sample.{w_sheet, w_built, w_written}
use Rattle.lines.specs.Digits.{digits_by, decimal}
use Rattle.lines.specs.Lines.{item, word_line, done_line, stuck_line, refused_line}
use Rattle.programs.specs.Output.{kind_number, word_lines, cut_lines}
use Rattle.programs.specs.Print.{cut_built, cut_print, sheet_built, sheet_of}
use Rattle.programs.specs.PrintLaws.{cut_both, sheet_whole}

-- `to tom 7`
abbrev pub sample_text : Text
sample_text = 116 ∷ 111 ∷ 32 ∷ 116 ∷ 111 ∷ 109 ∷ 32 ∷ 55 ∷ []

-- one line for each word, and the last
abbrev pub sample_lines : List ℕ
sample_lines =
    48 ∷ 32 ∷ 50 ∷ 32 ∷ 48 ∷ 32 ∷ 49 ∷ 10 ∷
    50 ∷ 32 ∷ 49 ∷ 32 ∷ 51 ∷ 32 ∷ 48 ∷ 10 ∷
    51 ∷ 32 ∷ 51 ∷ 32 ∷ 49 ∷ 32 ∷ 50 ∷ 10 ∷
    54 ∷ 32 ∷ 49 ∷ 32 ∷ 51 ∷ 32 ∷ 48 ∷ 10 ∷
    55 ∷ 32 ∷ 49 ∷ 32 ∷ 50 ∷ 32 ∷ 51 ∷ 10 ∷
    100 ∷ 111 ∷ 110 ∷ 101 ∷ 32 ∷ 53 ∷ 10 ∷ []

-- `to tom #7`: no rule matches at the #
abbrev pub stuck_text : Text
stuck_text = 116 ∷ 111 ∷ 32 ∷ 116 ∷ 111 ∷ 109 ∷ 32 ∷ 35 ∷ 55 ∷ []

-- the words before it, and its place
abbrev pub stuck_lines : List ℕ
stuck_lines =
    48 ∷ 32 ∷ 50 ∷ 32 ∷ 48 ∷ 32 ∷ 49 ∷ 10 ∷
    50 ∷ 32 ∷ 49 ∷ 32 ∷ 51 ∷ 32 ∷ 48 ∷ 10 ∷
    51 ∷ 32 ∷ 51 ∷ 32 ∷ 49 ∷ 32 ∷ 50 ∷ 10 ∷
    54 ∷ 32 ∷ 49 ∷ 32 ∷ 51 ∷ 32 ∷ 48 ∷ 10 ∷
    115 ∷ 116 ∷ 117 ∷ 99 ∷ 107 ∷ 32 ∷ 55 ∷ 10 ∷ []

-- the same lines by what was read of the book, so that it is read once
abbrev lines_by : Text → Answer Book → Outcome Table → List ℕ
lines_by text x (gives t) = cut_lines (λ r. kind_number (kind_from x r)) 0 (cut_by (first_by t) (length text) 0 text)
lines_by text x (refuses r) = refused_line r

lines_by_lem : (text : Text) (o : Outcome Table) → cut_built w_bytes text o ≡ lines_by text (read_book w_bytes) o
lines_by_lem text (gives t) = refl
lines_by_lem text (refuses r) = refl

small : length w_bytes ≤ book_file
small = omega (arith, w_length)

-- so that only this is left to compute
printed_by : (text : Text) → length text ≤ text_file → cut_print w_bytes text ≡ lines_by text (got w_book 36) (build_rules W)
printed_by text short =
    sym (cut_both w_bytes text small short)
    ∙ ap (cut_built w_bytes text) (ap build_read w_reads ∙ ap build_rules w_means)
    ∙ lines_by_lem text (build_rules W)
    ∙ ap (λ (x : Answer Book). lines_by text x (build_rules W)) w_reads

computed : lines_by sample_text (got w_book 36) (build_rules W) ≡ sample_lines
unfolding w_book build_rules walk_from rows row step come number_in with_vector with_parts with_term holds same_vector derived normalised label_from deriv_fit normal_fit deriv nullable normal star alt nested sorted placed kept gathered cat chain order size cut_by first_by scan word_lines word_line done_line item decimal digits_by
computed = refl

pub sample_printed : cut_print w_bytes sample_text ≡ sample_lines
sample_printed = printed_by sample_text (omega arith) ∙ computed

computed_stuck : lines_by stuck_text (got w_book 36) (build_rules W) ≡ stuck_lines
unfolding w_book build_rules walk_from rows row step come number_in with_vector with_parts with_term holds same_vector derived normalised label_from deriv_fit normal_fit deriv nullable normal star alt nested sorted placed kept gathered cat chain order size cut_by first_by scan word_lines word_line stuck_line item decimal digits_by
computed_stuck = refl

pub stuck_printed : cut_print w_bytes stuck_text ≡ stuck_lines
stuck_printed = printed_by stuck_text (omega arith) ∙ computed_stuck

pub sample_sheet : sheet_of w_bytes ≡ gives w_sheet
sample_sheet = sym (sheet_whole w_bytes small) ∙ ap sheet_built w_built ∙ ap gives w_written
