-- What the programs print for a few files, byte by byte: kinds and places of several digits, a difference, files that are refused or not built, and in which order.
-- The checker computes each line, from the files' bytes on.
use Rattle.std.specs.Prelude.{ℕ, zero, suc, ◌≡◌, refl, List, [], ◌∷◌, ◌++◌, map, take, replicate}
use Rattle.number.specs.Numbers.{due, several, read_number, within, field}
use Rattle.meaning.specs.Re.{Text, size}
use Rattle.meaning.specs.Order.{order}
use Rattle.meaning.specs.Normal.{chain, cat, gathered, kept, placed, sorted, nested, alt, star, normal}
use Rattle.meaning.specs.Derive.{nullable, deriv}
use Rattle.meaning.specs.Limited.{deriv_fit, normal_fit}
use Rattle.meaning.specs.Rules.{label_from}
use Rattle.meaning.specs.Words.{scan}
use Rattle.book.specs.Book.{allowed}
use Rattle.book.specs.Reads.{read_range, read_after, read_node, more_nodes, more_rules, book}
use Rattle.book.specs.Expression.{stacked, run_nodes}
use Rattle.book.specs.Sample.{w_bytes}
use Rattle.table.specs.Sheet.{more_runs, more_states, sheet}
use Rattle.walk.specs.Vectors.{derived, normalised, same_vector}
use Rattle.walk.specs.Parts.{holds, with_term, with_parts, with_vector}
use Rattle.walk.specs.Walk.{number_in, come, step, row, rows, walk_from}
use Rattle.cutting.specs.Steps.{first_by}
use Rattle.cutting.specs.Cut.{cut_by}
use Rattle.built.specs.Build.{build_rules}
use Rattle.built.specs.Sample.{w_sheet}
use Rattle.verdict.specs.Compare.{first_differing, compare_rules}
use Rattle.lines.specs.Digits.{digits_by, decimal}
use Rattle.lines.specs.Lines.{item, word_line, done_line, stuck_line, differs_line, hex_line, refused_line}
use Rattle.programs.specs.Output.{word_lines}
use Rattle.programs.specs.Print.{cut_print, compare_print}

-- ---- files

-- two rules: a letter from a to z, with kind 16,383; and `00`, with kind 128
abbrev letters_book : List ℕ
letters_book = 0x01 ∷ 0x02 ∷ 0xFF ∷ 0x7F ∷ 0x01 ∷ 0x02 ∷ 0x61 ∷ 0x7A ∷ 0x80 ∷ 0x01 ∷ 0x03 ∷ 0x02 ∷ 0x30 ∷ 0x30 ∷ 0x02 ∷ 0x30 ∷ 0x30 ∷ 0x03 ∷ []

-- `abcdefghi00a0`
abbrev letters_text : Text
letters_text = 97 ∷ 98 ∷ 99 ∷ 100 ∷ 101 ∷ 102 ∷ 103 ∷ 104 ∷ 105 ∷ 48 ∷ 48 ∷ 97 ∷ 48 ∷ []

-- W's sheet with the states 5, after `t`, and 4, after letters, merged into 4; what was state 6 is the last, and nothing leads to it
abbrev merged_sheet : List ℕ
merged_sheet =
    0x01 ∷ 0x06 ∷
    0x00 ∷ 0x07 ∷ 0x20 ∷ 0x01 ∷ 0x01 ∷ 0x02 ∷ 0x0F ∷ 0x01 ∷ 0x0A ∷ 0x03 ∷ 0x27 ∷ 0x01 ∷ 0x1A ∷ 0x04 ∷ 0x85 ∷ 0x01 ∷ 0x01 ∷
    0x00 ∷ 0x01 ∷ 0x80 ∷ 0x02 ∷ 0x01 ∷
    0x04 ∷ 0x01 ∷ 0x80 ∷ 0x02 ∷ 0x01 ∷
    0x03 ∷ 0x03 ∷ 0x30 ∷ 0x01 ∷ 0x0A ∷ 0x03 ∷ 0xC6 ∷ 0x01 ∷ 0x01 ∷
    0x02 ∷ 0x03 ∷ 0x61 ∷ 0x01 ∷ 0x1A ∷ 0x04 ∷ 0x85 ∷ 0x01 ∷ 0x01 ∷
    0x01 ∷ 0x03 ∷ 0x61 ∷ 0x01 ∷ 0x1A ∷ 0x04 ∷ 0x85 ∷ 0x01 ∷ 0x01 ∷
    []

-- W without its last byte, and its sheet without its last byte; a book of version 3, and a sheet of version 2
abbrev early_book : List ℕ
early_book = take 35 w_bytes

abbrev early_sheet : List ℕ
early_sheet = take 72 w_sheet

abbrev newer_book : List ℕ
newer_book = 0x03 ∷ 0x01 ∷ []

abbrev newer_sheet : List ℕ
newer_sheet = 0x02 ∷ 0x01 ∷ []

-- a book and a sheet whose count, 1, is padded to two groups
abbrev padded_count : List ℕ
padded_count = 0x01 ∷ 0x81 ∷ 0x00 ∷ []

-- one rule of 129 times `a` in a row, 257 nodes: its normal form has more than 255
unfoldable pub bytes_of_a : ℕ → List ℕ
bytes_of_a zero = []
bytes_of_a (suc n) = 0x02 ∷ 0x61 ∷ 0x61 ∷ bytes_of_a n

abbrev long_book : List ℕ
long_book = 0x01 ∷ 0x01 ∷ 0x00 ∷ 0x81 ∷ 0x02 ∷ (bytes_of_a 129 ++ replicate 128 3)

-- ---- lines

-- `refused ` and what follows it
abbrev refusal : List ℕ → List ℕ
refusal rest = 114 ∷ 101 ∷ 102 ∷ 117 ∷ 115 ∷ 101 ∷ 100 ∷ 32 ∷ rest

pub data Print : Type 0 where
  cuts : List ℕ → Text → List ℕ → Print
  compares : List ℕ → List ℕ → List ℕ → Print

abbrev pub printed : Print → List ℕ
printed (cuts b text lines) = cut_print b text
printed (compares b s lines) = compare_print b s

abbrev pub stated : Print → List ℕ
stated (cuts b text lines) = lines
stated (compares b s lines) = lines

abbrev letters_lines : List ℕ
letters_lines =
    48 ∷ 32 ∷ 49 ∷ 32 ∷ 48 ∷ 32 ∷ 49 ∷ 54 ∷ 51 ∷ 56 ∷ 51 ∷ 10 ∷
    49 ∷ 32 ∷ 49 ∷ 32 ∷ 48 ∷ 32 ∷ 49 ∷ 54 ∷ 51 ∷ 56 ∷ 51 ∷ 10 ∷
    50 ∷ 32 ∷ 49 ∷ 32 ∷ 48 ∷ 32 ∷ 49 ∷ 54 ∷ 51 ∷ 56 ∷ 51 ∷ 10 ∷
    51 ∷ 32 ∷ 49 ∷ 32 ∷ 48 ∷ 32 ∷ 49 ∷ 54 ∷ 51 ∷ 56 ∷ 51 ∷ 10 ∷
    52 ∷ 32 ∷ 49 ∷ 32 ∷ 48 ∷ 32 ∷ 49 ∷ 54 ∷ 51 ∷ 56 ∷ 51 ∷ 10 ∷
    53 ∷ 32 ∷ 49 ∷ 32 ∷ 48 ∷ 32 ∷ 49 ∷ 54 ∷ 51 ∷ 56 ∷ 51 ∷ 10 ∷
    54 ∷ 32 ∷ 49 ∷ 32 ∷ 48 ∷ 32 ∷ 49 ∷ 54 ∷ 51 ∷ 56 ∷ 51 ∷ 10 ∷
    55 ∷ 32 ∷ 49 ∷ 32 ∷ 48 ∷ 32 ∷ 49 ∷ 54 ∷ 51 ∷ 56 ∷ 51 ∷ 10 ∷
    56 ∷ 32 ∷ 49 ∷ 32 ∷ 48 ∷ 32 ∷ 49 ∷ 54 ∷ 51 ∷ 56 ∷ 51 ∷ 10 ∷
    57 ∷ 32 ∷ 50 ∷ 32 ∷ 49 ∷ 32 ∷ 49 ∷ 50 ∷ 56 ∷ 10 ∷
    49 ∷ 49 ∷ 32 ∷ 49 ∷ 32 ∷ 48 ∷ 32 ∷ 49 ∷ 54 ∷ 51 ∷ 56 ∷ 51 ∷ 10 ∷
    115 ∷ 116 ∷ 117 ∷ 99 ∷ 107 ∷ 32 ∷ 49 ∷ 50 ∷ 10 ∷ []

-- `differs 2 1 2` and `746f`
abbrev merged_lines : List ℕ
merged_lines = 100 ∷ 105 ∷ 102 ∷ 102 ∷ 101 ∷ 114 ∷ 115 ∷ 32 ∷ 50 ∷ 32 ∷ 49 ∷ 32 ∷ 50 ∷ 10 ∷ 55 ∷ 52 ∷ 54 ∷ 102 ∷ 10 ∷ []

-- `13 0`: a file that is over its size
abbrev pub over_line : List ℕ
over_line = refusal (49 ∷ 51 ∷ 32 ∷ 48 ∷ 10 ∷ [])

-- `1 35`, `1 72` and `3 0`
abbrev book_ends : List ℕ
book_ends = refusal (49 ∷ 32 ∷ 51 ∷ 53 ∷ 10 ∷ [])

abbrev sheet_ends : List ℕ
sheet_ends = refusal (49 ∷ 32 ∷ 55 ∷ 50 ∷ 10 ∷ [])

abbrev is_newer : List ℕ
is_newer = refusal (51 ∷ 32 ∷ 48 ∷ 10 ∷ [])

-- `15 1`
abbrev is_padded : List ℕ
is_padded = refusal (49 ∷ 53 ∷ 32 ∷ 49 ∷ 10 ∷ [])

-- `6 0`
abbrev is_long : List ℕ
is_long = refusal (54 ∷ 32 ∷ 48 ∷ 10 ∷ [])

-- `done 0`
abbrev no_words : List ℕ
no_words = 100 ∷ 111 ∷ 110 ∷ 101 ∷ 32 ∷ 48 ∷ 10 ∷ []

abbrev pub prints : List Print
prints =
    cuts letters_book letters_text letters_lines ∷
    cuts early_book (116 ∷ []) book_ends ∷
    cuts newer_book [] is_newer ∷
    cuts padded_count [] is_padded ∷
    cuts long_book [] is_long ∷
    cuts w_bytes [] no_words ∷
    compares w_bytes merged_sheet merged_lines ∷
    compares early_book w_sheet book_ends ∷
    compares early_book newer_sheet book_ends ∷
    compares newer_book early_sheet is_newer ∷
    compares padded_count w_sheet is_padded ∷
    compares w_bytes early_sheet sheet_ends ∷
    compares w_bytes newer_sheet is_newer ∷
    compares w_bytes padded_count is_padded ∷
    compares long_book w_sheet is_long ∷
    []

pub prints_hold : map printed prints ≡ map stated prints
unfolding bytes_of_a w_bytes w_sheet book more_rules more_nodes read_node read_after read_range allowed field within read_number several due stacked run_nodes sheet more_states more_runs compare_rules first_differing build_rules walk_from rows row step come number_in with_vector with_parts with_term holds same_vector derived normalised label_from deriv_fit normal_fit deriv nullable normal star alt nested sorted placed kept gathered cat chain order size cut_by first_by scan word_lines word_line done_line stuck_line differs_line hex_line refused_line item decimal digits_by
prints_hold = refl
