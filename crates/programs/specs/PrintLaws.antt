-- Laws of what the programs put out: Input for a file that is missing or too long, else what the files come to.
-- One for each way that the code returns.
use Rattle.std.specs.Prelude.{ℕ, ◌<◌, ◌≤◌, ◌≡◌, refl, List, length}
use Rattle.std.proofs.Common.{subst, lt-ltb, le-ltb}
use Rattle.number.specs.declared.Refusal.TheVariants.{Input}
use Rattle.number.specs.Limits.{book_file, text_file, sheet_file}
use Rattle.number.specs.Lists.{Writes}
use Rattle.number.specs.Refused.Outcome.{refuses}
use Rattle.meaning.specs.Re.{Text}
use Rattle.built.specs.Calls.{build_book}
use Rattle.lines.specs.Lines.{refused_line}
use Rattle.programs.specs.Print.{cut_built, cut_print, compare_files, verdict_lines, compare_print, sheet_built, sheet_of}

-- what was written, under another name
pub writes_as : {w v o o' : List ℕ} {at end : ℕ} → w ≡ v → Writes w o o' at end → Writes v o o' at end
writes_as {w} {v} {o} {o'} {at} {end} e put = subst (λ (x : List ℕ). Writes x o o' at end) e put

-- ---- cut

module _ (book : List ℕ) (text : Text) where
  pub cut_no_book : book_file < length book → refused_line Input ≡ cut_print book text
  cut_no_book h = rw (lt-ltb book_file (length book) h) refl

  pub cut_no_text : length book ≤ book_file → text_file < length text → refused_line Input ≡ cut_print book text
  cut_no_text h k = rw (le-ltb book_file (length book) h, lt-ltb text_file (length text) k) refl

  pub cut_both : length book ≤ book_file → length text ≤ text_file → cut_built book text (build_book book) ≡ cut_print book text
  cut_both h k = rw (le-ltb book_file (length book) h, le-ltb text_file (length text) k) refl

-- ---- compare

module _ (book sheet : List ℕ) where
  pub compare_no_book : book_file < length book → refused_line Input ≡ compare_print book sheet
  compare_no_book h = rw (lt-ltb book_file (length book) h) refl

  pub compare_no_sheet : length book ≤ book_file → sheet_file < length sheet → refused_line Input ≡ compare_print book sheet
  compare_no_sheet h k = rw (le-ltb book_file (length book) h, lt-ltb sheet_file (length sheet) k) refl

  pub compare_both : length book ≤ book_file → length sheet ≤ sheet_file → verdict_lines (compare_files book sheet) ≡ compare_print book sheet
  compare_both h k = rw (le-ltb book_file (length book) h, le-ltb sheet_file (length sheet) k) refl

-- ---- sheet

pub sheet_no_book : (book : List ℕ) → book_file < length book → sheet_of book ≡ refuses Input
sheet_no_book book h = rw (lt-ltb book_file (length book) h) refl

pub sheet_whole : (book : List ℕ) → length book ≤ book_file → sheet_built (build_book book) ≡ sheet_of book
sheet_whole book h = rw (le-ltb book_file (length book) h) refl
