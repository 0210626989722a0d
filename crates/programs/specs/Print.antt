-- All that each program puts out, as a function of the bytes that it read: the promises of cut_lines and printed, compare_lines and sheet_bytes cite these.
-- A file that is missing or over its size is handed on as more bytes than its limit, and is refused before any other fault is looked for.
use Rattle.std.specs.Prelude.{ℕ, ◌+◌, ◌*◌, ◌≡◌, cond, List, ◌++◌, ltb, length}
use Rattle.number.specs.declared.Refusal.TheVariants.{Input}
use Rattle.number.specs.Limits.{book_file, text_file, sheet_file, shown_text}
use Rattle.number.specs.Refused.{Answer, Outcome}
use Rattle.number.specs.Refused.Answer.{got, refused}
use Rattle.number.specs.Refused.Outcome.{gives, refuses}
use Rattle.meaning.specs.Re.{Text}
use Rattle.meaning.specs.Words.{FirstWord}
use Rattle.book.specs.Book.{Book}
use Rattle.book.specs.Reads.{read_book}
use Rattle.book.specs.Expression.{meant}
use Rattle.table.specs.Table.{Table}
use Rattle.table.specs.Sheet.{read_sheet, write_sheet}
use Rattle.cutting.specs.Steps.{first_by}
use Rattle.cutting.specs.Cut.{Cut, Cuts, cut_by}
use Rattle.cutting.specs.Cut.Ending.{FullAt}
use Rattle.lines.specs.Lines.{refused_line, same_line, differs_line, hex_line, line_room}
use Rattle.built.specs.Calls.{build_book}
use Rattle.verdict.specs.Compare.{Verdict}
use Rattle.verdict.specs.Compare.Verdict.{Same, Differs}
use Rattle.verdict.specs.Calls.{compare_book}
use Rattle.programs.specs.Output.{kind_in, cut_lines}

-- ---- cut: Input for the book, Input for the text, the build's refusals; else the cut of the whole text, with a record for each byte

abbrev pub cut_built : List ℕ → Text → Outcome Table → List ℕ
cut_built book text (gives t) = cut_lines (kind_in book) 0 (cut_by (first_by t) (length text) 0 text)
cut_built book text (refuses r) = refused_line r

abbrev pub cut_print : List ℕ → Text → List ℕ
cut_print book text =
    cond (ltb book_file (length book)) (refused_line Input)
    (cond (ltb text_file (length text)) (refused_line Input) (cut_built book text (build_book book)))

-- what theorem the_words of proofs/Main.antt says of it: the lines are those of a cut by the textbook, of the whole text, so of longest words by
-- earliest rules, stuck exactly where no non-empty prefix matches
pub record Printed (book : List ℕ) (b : Book) (text : Text) : Type 0 where
  pub cut : Cut
  pub right : Cuts (FirstWord (meant b)) (length text) 0 text cut
  pub whole : (p : ℕ) → cut.ending ≡ FullAt p → ⊥
  pub printed : cut_print book text ≡ cut_lines (kind_in book) 0 cut

-- the words that are cut and printed in one turn, and the room for a line for each of them and a last one
abbrev pub turn_words : ℕ
turn_words = 640

abbrev pub cut_room : ℕ
cut_room = line_room * (turn_words + 1)

-- ---- compare: Input for the book, Input for the sheet, the book's faults, the sheet's, the walk's

abbrev pub sheet_next : List ℕ → Answer Table → Outcome Verdict
sheet_next book (got t after) = compare_book book t
sheet_next book (refused r) = refuses r

abbrev pub book_first : Answer Book → Outcome Verdict → Outcome Verdict
book_first (got b after) v = v
book_first (refused r) v = refuses r

abbrev pub compare_files : List ℕ → List ℕ → Outcome Verdict
compare_files book sheet = book_first (read_book book) (sheet_next book (read_sheet sheet))

abbrev pub verdict_lines : Outcome Verdict → List ℕ
verdict_lines (gives Same) = same_line
verdict_lines (gives (Differs text b s)) = differs_line (length text) b s ++ hex_line text
verdict_lines (refuses r) = refused_line r

abbrev pub compare_print : List ℕ → List ℕ → List ℕ
compare_print book sheet =
    cond (ltb book_file (length book)) (refused_line Input)
    (cond (ltb sheet_file (length sheet)) (refused_line Input) (verdict_lines (compare_files book sheet)))

-- a line, and the shown text in two digits a byte with the line's end
abbrev pub compare_room : ℕ
compare_room = line_room + (2 * shown_text + 1)

-- ---- sheet: Input for the book, the build's refusals; else the sheet of the table that was built

abbrev pub sheet_built : Outcome Table → Outcome (List ℕ)
sheet_built (gives t) = gives (write_sheet t)
sheet_built (refuses r) = refuses r

abbrev pub sheet_of : List ℕ → Outcome (List ℕ)
sheet_of book = cond (ltb book_file (length book)) (refuses Input) (sheet_built (build_book book))
