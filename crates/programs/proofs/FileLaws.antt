-- Files that are over their size, books that are refused or not built, and the kinds of a book's rules: what the programs put out for them.
-- The proofs of the theorems on these in Main.
use Rattle.std.specs.Prelude.{ℕ, ◌<◌, ◌≤◌, ◌≡◌, refl, List, ◌∷◌, ◌++◌, length}
use Rattle.std.proofs.Common.{arith, sym, ap, ◌∙◌, lt-ltb, length-append}
use Rattle.std.proofs.Math.Decide.{dec_lt}
use Rattle.std.proofs.Math.Seq.{get_or-append_seam}
use Rattle.number.specs.declared.Refusal.{Refusal}
use Rattle.number.specs.declared.Refusal.TheVariants.{Input}
use Rattle.number.specs.Limits.{book_file, text_file, sheet_file}
use Rattle.number.specs.Refused.Answer.{got}
use Rattle.number.specs.Refused.Outcome.{gives, refuses}
use Rattle.meaning.specs.Re.{Text}
use Rattle.book.specs.Book.{Rule, Book}
use Rattle.book.specs.Reads.{read_book}
use Rattle.book.specs.Calls.{kind_in as kind_from}
use Rattle.table.specs.Table.{Table}
use Rattle.table.specs.Sheet.{write_sheet}
use Rattle.built.specs.Calls.{build_book}
use Rattle.lines.specs.Digits.{digits_by, decimal}
use Rattle.lines.specs.Lines.{item, refused_line}
use Rattle.programs.specs.Output.{kind_number, kind_in}
use Rattle.programs.specs.Print.{cut_built, cut_print, compare_print, sheet_built, sheet_of}
use Rattle.programs.proofs.Prints.{over_line}
use Rattle.programs.specs.PrintLaws.{cut_no_book, cut_no_text, cut_both, compare_no_book, compare_no_sheet, sheet_whole}

-- ---- sizes

over_line_lem : refused_line Input ≡ over_line
unfolding refused_line item decimal digits_by
over_line_lem = refl

module _ (book : List ℕ) where
  pub cut_book_over : (text : Text) → book_file < length book → cut_print book text ≡ over_line
  cut_book_over text h = sym (cut_no_book book text h) ∙ over_line_lem

  -- whatever the book is: it may be over its size itself
  pub cut_text_over : (text : Text) → text_file < length text → cut_print book text ≡ over_line
  cut_text_over text h = elim (dec_lt book_file (length book)) [
    | yes l ↦ cut_book_over text l
    | no f ↦ sym (cut_no_text book text (omega arith) h) ∙ over_line_lem
  ]

  pub compare_book_over : (sheet : List ℕ) → book_file < length book → compare_print book sheet ≡ over_line
  compare_book_over sheet h = sym (compare_no_book book sheet h) ∙ over_line_lem

  pub compare_sheet_over : (sheet : List ℕ) → sheet_file < length sheet → compare_print book sheet ≡ over_line
  compare_sheet_over sheet h = elim (dec_lt book_file (length book)) [
    | yes l ↦ compare_book_over sheet l
    | no f ↦ sym (compare_no_sheet book sheet (omega arith) h) ∙ over_line_lem
  ]

  -- ---- a book that comes to no table, and one that does

  module _ (small : length book ≤ book_file) where
    pub cut_none : (r : Refusal) → build_book book ≡ refuses r → (text : Text) → length text ≤ text_file → cut_print book text ≡ refused_line r
    cut_none r e text short = sym (cut_both book text small short) ∙ ap (cut_built book text) e

    pub sheet_none : (r : Refusal) → build_book book ≡ refuses r → sheet_of book ≡ refuses r
    sheet_none r e = sym (sheet_whole book small) ∙ ap sheet_built e

    pub sheet_of_lem : (t : Table) → build_book book ≡ gives t → sheet_of book ≡ gives (write_sheet t)
    sheet_of_lem t e = sym (sheet_whole book small) ∙ ap sheet_built e

  -- ---- kinds

  pub kind_of_lem : (b : Book) (after : ℕ) (front back : List Rule) (r : Rule) → read_book book ≡ got b after → b.rules ≡ front ++ (r ∷ back)
      → kind_in book (length front) ≡ r.kind
  kind_of_lem b after front back r e d =
      let l : length front < length b.rules = omega (arith, ap length d, length-append front (r ∷ back)) in
      ap (λ x. kind_number (kind_from x (length front))) e
      ∙ rw (lt-ltb (length front) (length b.rules) l, d, get_or-append_seam front r back _) refl
