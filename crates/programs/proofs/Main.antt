-- The theorems of the programs that are bought, together: what they print is what the textbook and the calls of document 01 say.
-- To believe them, read the definitions: Output, Print, Sample and Prints here, Lines in lines, and those that they stand on. Proofs of more than two lines stand in FileLaws and MainLaws, computed ones in Sample and Prints.
use Rattle.std.specs.Prelude.{ℕ, ◌<◌, ◌≤◌, ◌≡◌, refl, List, ◌∷◌, ◌++◌, map, length}
use Rattle.std.proofs.Common.{sym, ap, ◌∙◌}
use Rattle.number.specs.declared.Refusal.{Refusal}
use Rattle.number.specs.declared.Refusal.TheVariants.{Input}
use Rattle.number.specs.Limits.{book_file, text_file, sheet_file, shown_text}
use Rattle.number.specs.Numbers.{Bytes}
use Rattle.number.specs.Refused.Answer.{got, refused}
use Rattle.number.specs.Refused.Outcome.{gives, refuses}
use Rattle.number.specs.Lists.{Writes}
use Rattle.meaning.specs.Re.{Text}
use Rattle.book.specs.Book.{Rule, Book}
use Rattle.book.specs.Reads.{read_book}
use Rattle.book.specs.Expression.{meant}
use Rattle.book.specs.Sample.{w_bytes}
use Rattle.table.specs.Table.{Table}
use Rattle.table.specs.Sheet.{read_sheet, write_sheet}
use Rattle.built.specs.Build.{build_rules}
use Rattle.built.specs.Calls.{build_read, build_book}
use Rattle.built.specs.Sample.{w_sheet}
use Rattle.lines.specs.Lines.{same_line, differs_line, hex_line, refused_line}
use Rattle.verdict.specs.Compare.Verdict.{Same, Differs}
use Rattle.verdict.specs.Calls.{compare_book}
use Rattle.verdict.specs.Demand.{CutAlike}
use Rattle.verdict.specs.Main.{the_same, the_difference}
use Rattle.programs.specs.Output.{kind_in}
use Rattle.programs.specs.Print.{cut_print, Printed, cut_room, compare_room, verdict_lines, compare_print, sheet_of}
use Rattle.programs.proofs.Sample.{sample_text, sample_lines, sample_printed, stuck_text, stuck_lines, stuck_printed, sample_sheet}
use Rattle.programs.proofs.Prints.{over_line, printed, stated, prints, prints_hold}
use Rattle.programs.specs.PrintLaws.{sheet_no_book}
use Rattle.programs.proofs.FileLaws.{cut_book_over, cut_text_over, compare_book_over, compare_sheet_over, cut_none, sheet_none, sheet_of_lem, kind_of_lem}
use Rattle.programs.proofs.MainLaws.{words_printed, same_only, compare_by, compare_next, own_sheet}

-- ---- one answer

-- what was put at the front of a buffer fixes the answer and the whole buffer
pub one_print : {w o o₁ o₂ : List ℕ} {e f : ℕ} → Writes w o o₁ 0 e → Writes w o o₂ 0 f → (e ≡ f) × (o₁ ≡ o₂)
one_print a b = (a.place ∙ sym b.place, a.out ∙ sym b.out)

-- ---- rooms and files

-- the room that their functions ask for, in bytes: cut's for one turn
pub the_rooms : (cut_room ≡ 64100) × (compare_room ≡ 1125)
the_rooms = (refl, refl)

-- what is over its size is `refused 13 0`, whatever else is wrong with it or with the other file; the theorems below read all that is not
pub record Sizes : Type 0 where
  pub cut_book : (book : List ℕ) (text : Text) → book_file < length book → cut_print book text ≡ over_line
  pub cut_text : (book : List ℕ) (text : Text) → text_file < length text → cut_print book text ≡ over_line
  pub compare_book_lem : (book sheet : List ℕ) → book_file < length book → compare_print book sheet ≡ over_line
  pub compare_sheet : (book sheet : List ℕ) → sheet_file < length sheet → compare_print book sheet ≡ over_line
  pub sheet_book : (book : List ℕ) → book_file < length book → sheet_of book ≡ refuses Input

pub the_sizes : Sizes
the_sizes =
    record {
      cut_book = cut_book_over;
      cut_text = cut_text_over;
      compare_book_lem = compare_book_over;
      compare_sheet = compare_sheet_over;
      sheet_book = sheet_no_book;
    }

-- a book that comes to no table: programs cut and sheet tell this refusal, and nothing else is printed
pub record Refuses (book : List ℕ) (r : Refusal) : Type 0 where
  pub cut : (text : Text) → length text ≤ text_file → cut_print book text ≡ refused_line r
  pub sheet : sheet_of book ≡ refuses r

module _ (book : List ℕ) (small : length book ≤ book_file) where
  -- so it is for a book that is refused, and for one that is not built
  pub the_refused_book : (r : Refusal) → read_book book ≡ refused r → Refuses book r
  the_refused_book r e = let d = ap build_read e in record { cut = cut_none book small r d; sheet = sheet_none book small r d }

  pub the_refused_build : (b : Book) (after : ℕ) → read_book book ≡ got b after → (r : Refusal) → build_rules (meant b) ≡ refuses r → Refuses book r
  the_refused_build b after read r e =
      let d = ap build_read read ∙ e in
      record { cut = cut_none book small r d; sheet = sheet_none book small r d }

-- ---- cut

-- the lines of a cut by the textbook, of the whole text: longest words, earliest rules, stuck exactly where no non-empty prefix matches
pub the_words : (book : List ℕ) (b : Book) (after : ℕ) (t : Table) (text : Text) → read_book book ≡ got b after → build_book book ≡ gives t
    → length book ≤ book_file → length text ≤ text_file → Bytes text → Printed book b text
the_words = words_printed

-- for the sample book W and the text `to tom 7` they are document 01's, byte by byte
pub the_sample : cut_print w_bytes sample_text ≡ sample_lines
the_sample = sample_printed

-- and for `to tom #7` those of four words and `stuck 7`
pub the_stuck_sample : cut_print w_bytes stuck_text ≡ stuck_lines
the_stuck_sample = stuck_printed

-- the kind that a word's line ends with is that of the book's rule with the word's number
pub the_kinds : (book : List ℕ) (b : Book) (after : ℕ) (front back : List Rule) (r : Rule) → read_book book ≡ got b after → b.rules ≡ front ++ (r ∷ back)
    → kind_in book (length front) ≡ r.kind
the_kinds = kind_of_lem

-- ---- compare

module _ (book sheet : List ℕ) (small : length book ≤ book_file) (short : length sheet ≤ sheet_file) where
  -- where the book is refused, its refusal is printed, whatever the sheet is
  pub the_book_first : (r : Refusal) → read_book book ≡ refused r → compare_print book sheet ≡ refused_line r
  the_book_first r e = compare_by book sheet small short (refused r) e

  module _ (b : Book) (after : ℕ) (read : read_book book ≡ got b after) where
    -- where the book is read and the sheet refused, the sheet's refusal
    pub the_sheet_next : (r : Refusal) → read_sheet sheet ≡ refused r → compare_print book sheet ≡ refused_line r
    the_sheet_next r e = compare_next book sheet small short b after read (refused r) e

-- what is printed for each answer of the comparison
pub record Compares (book sheet : List ℕ) (t : Table) : Type 0 where
  pub same : compare_book book t ≡ gives Same → compare_print book sheet ≡ same_line
  pub differs : (text : Text) (x y : ℕ) → compare_book book t ≡ gives (Differs text x y)
      → compare_print book sheet ≡ differs_line (length text) x y ++ hex_line text
  pub declines : (r : Refusal) → compare_book book t ≡ refuses r → compare_print book sheet ≡ refused_line r

module _ (book : List ℕ) (b : Book) (after : ℕ) (sheet : List ℕ) (t : Table) (end : ℕ) (read : read_book book ≡ got b after)
    (loaded : read_sheet sheet ≡ got t end) (small : length book ≤ book_file) (short : length sheet ≤ sheet_file) where
  -- the lines of the comparison of the book with the sheet's table: `same`, a difference in two lines, or the walk's refusal
  pub the_comparison : Compares book sheet t
  the_comparison =
      let e = compare_next book sheet small short b after read (got t end) loaded in
      record { same = λ d. e ∙ ap verdict_lines d; differs = λ text x y d. e ∙ ap verdict_lines d; declines = λ r d. e ∙ ap verdict_lines d }

  -- `same` is printed only where book and sheet cut every text alike
  pub the_same_line : compare_print book sheet ≡ same_line → (room at : ℕ) (text : Text) → Bytes text → CutAlike (meant b) t room at text
  the_same_line e =
      let d = compare_next book sheet small short b after read (got t end) loaded in
      the_same book b after t read (same_only (compare_book book t) (sym d ∙ e))

  -- a difference is printed with a text of 1 to 512 bytes: never `differs 0`
  pub the_differs_line : (text : Text) (x y : ℕ) → compare_book book t ≡ gives (Differs text x y) → (0 < length text) × (length text ≤ shown_text)
  the_differs_line text x y e =
      let d = the_difference book b after t read text x y e in
      (d.some, d.short)

-- ---- sheet

-- the sheet of a book that is read and built is its table's; W's is this
pub the_sheet : (book : List ℕ) (b : Book) (after : ℕ) (t : Table) → read_book book ≡ got b after → build_rules (meant b) ≡ gives t → length book ≤ book_file
    → sheet_of book ≡ gives (write_sheet t)
the_sheet book b after t read e small = sheet_of_lem book small t (ap build_read read ∙ e)

pub the_sample_sheet : sheet_of w_bytes ≡ gives w_sheet
the_sample_sheet = sample_sheet

-- of the sheet that program sheet writes, where it is not too long for the programs, program compare prints `same`
pub the_own_sheet : (book sheet : List ℕ) → length book ≤ book_file → sheet_of book ≡ gives sheet → length sheet ≤ sheet_file
    → compare_print book sheet ≡ same_line
the_own_sheet = own_sheet

-- ---- files byte by byte

-- what the programs print for fifteen pairs of files: kinds and places of several digits, W against the sheet in which two states are merged,
-- an empty text, files that are refused, a book that is not built, the book's refusal before the sheet's
pub the_prints : map printed prints ≡ map stated prints
the_prints = prints_hold
