-- The proofs of the theorems of Main that take more than two lines.
-- Each goes from what a program prints to the theorem of the layer below that says it.
use Rattle.std.specs.Prelude.{ℕ, ◌≤◌, ◌≡◌, refl, List, length, get_or}
use Rattle.std.proofs.Common.{arith, sym, ap, ◌∙◌}
use Rattle.number.specs.declared.Refusal.{Refusal}
use Rattle.number.specs.Limits.{book_file, text_file, sheet_file}
use Rattle.number.specs.Numbers.{Bytes}
use Rattle.number.specs.Refused.{Answer, Outcome}
use Rattle.number.specs.Refused.Answer.{got, refused}
use Rattle.number.specs.Refused.Outcome.{gives, refuses}
use Rattle.meaning.specs.Re.{Text}
use Rattle.book.specs.Book.{Book}
use Rattle.book.specs.Reads.{read_book}
use Rattle.table.specs.Table.{Table}
use Rattle.table.specs.Sheet.{read_sheet, write_sheet}
use Rattle.cutting.specs.Steps.{first_by}
use Rattle.cutting.specs.Cut.{cut_by}
use Rattle.cutting.specs.CutLaws.{by_table}
use Rattle.cutting.specs.TileLaws.{never_full}
use Rattle.built.specs.Calls.{build_read, build_book}
use Rattle.built.specs.Main.{the_build}
use Rattle.lines.specs.Lines.{same_line, differs_line, refused_line}
use Rattle.verdict.specs.Compare.{Verdict}
use Rattle.verdict.specs.Compare.Verdict.{Same, Differs}
use Rattle.verdict.specs.Main.{the_own_table}
use Rattle.programs.specs.Print.{cut_built, Printed, sheet_next, book_first, verdict_lines, compare_print, sheet_built, sheet_of}
use Rattle.programs.specs.PrintLaws.{cut_both, compare_both, sheet_whole}

-- ---- cut

pub words_printed : (book : List ℕ) (b : Book) (after : ℕ) (t : Table) (text : Text) → read_book book ≡ got b after → build_book book ≡ gives t
    → length book ≤ book_file → length text ≤ text_file → Bytes text → Printed book b text
words_printed book b after t text e d small short all = record {
  cut = cut_by (first_by t) (length text) 0 text;
  right = (the_build book b after t e d).cuts (length text) 0 text all;
  whole = never_full (by_table t) (length text) 0 text (omega arith);
  printed = sym (cut_both book text small short) ∙ ap (cut_built book text) d;
}

-- ---- compare

-- the two lines of a difference and a refusal's line begin with other bytes than `same`
pub same_only : (v : Outcome Verdict) → verdict_lines v ≡ same_line → v ≡ gives Same
unfolding differs_line refused_line
same_only (gives Same) e = refl
same_only (gives (Differs text x y)) e = absurd (let z : ◌≡◌ {A = ℕ} 100 115 = ap (λ (l : List ℕ). get_or l 0 0) e in omega (arith, z))
same_only (refuses r) e = absurd (let z : ◌≡◌ {A = ℕ} 114 115 = ap (λ (l : List ℕ). get_or l 0 0) e in omega (arith, z))

module _ (book sheet : List ℕ) (small : length book ≤ book_file) (short : length sheet ≤ sheet_file) where
  -- what the files come to, by what was read of the book
  pub compare_by : (x : Answer Book) → read_book book ≡ x → compare_print book sheet ≡ verdict_lines (book_first x (sheet_next book (read_sheet sheet)))
  compare_by x e =
      sym (compare_both book sheet small short) ∙ ap (λ (y : Answer Book). verdict_lines (book_first y (sheet_next book (read_sheet sheet)))) e

  module _ (b : Book) (after : ℕ) (read : read_book book ≡ got b after) where
    -- and of the sheet
    pub compare_next : (x : Answer Table) → read_sheet sheet ≡ x → compare_print book sheet ≡ verdict_lines (sheet_next book x)
    compare_next x e = compare_by (got b after) read ∙ ap (λ (y : Answer Table). verdict_lines (sheet_next book y)) e

-- ---- sheet

sheet_one : {s u : List ℕ} → ◌≡◌ {A = Outcome (List ℕ)} (gives s) (gives u) → s ≡ u
sheet_one e = cc

no_sheet : {r : Refusal} {s : List ℕ} → ◌≡◌ {A = Outcome (List ℕ)} (refuses r) (gives s) → ⊥
no_sheet e = let z : ◌≡◌ {A = ℕ} 0 1 = cc in omega arith

pub own_sheet : (book sheet : List ℕ) → length book ≤ book_file → sheet_of book ≡ gives sheet → length sheet ≤ sheet_file
    → compare_print book sheet ≡ same_line
own_sheet book sheet small e short = go (build_book book) refl (sheet_whole book small ∙ e)
  where
    go : (x : Outcome Table) → build_book book ≡ x → sheet_built x ≡ gives sheet → compare_print book sheet ≡ same_line
    go (refuses r) d f = absurd (no_sheet f)
    go (gives t) d f = on (read_book book) refl d
      where
        on : (y : Answer Book) → read_book book ≡ y → build_read y ≡ gives t → compare_print book sheet ≡ same_line
        on (refused r) p q = absurd (let z : ◌≡◌ {A = ℕ} 0 1 = cc in omega arith)
        on (got b after) p q =
            let back : read_sheet sheet ≡ got t (length (write_sheet t)) =
            ap read_sheet (sym (sheet_one f)) ∙ (the_build book b after t p d).sheet in
            compare_next book sheet small short b after p (got t (length (write_sheet t))) back ∙ ap verdict_lines (the_own_table book t d)
