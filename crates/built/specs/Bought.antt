-- What the theorems of Main say of a build: a table that is right for a book, and what a call has left in memory, whatever it answers.
-- Only definitions; an area as it was before the call is marked ₀.
use Rattle.std.specs.Prelude.{ℕ, ◌≤◌, ◌≡◌, true, List, length, replicate}
use Rattle.number.specs.declared.Refusal.{Refusal}
use Rattle.number.specs.Limits.{states, table_cells}
use Rattle.number.specs.Numbers.{Bytes}
use Rattle.number.specs.Refused.Answer.{got}
use Rattle.meaning.specs.Re.{Text}
use Rattle.meaning.specs.Rules.{Names}
use Rattle.meaning.specs.Words.{FirstWord}
use Rattle.book.specs.Book.{Book}
use Rattle.book.specs.Reads.{read_book}
use Rattle.book.specs.Expression.{meant}
use Rattle.table.specs.Table.{Table, lent, well_formed}
use Rattle.table.specs.Formed.{Formed}
use Rattle.table.specs.Areas.{LeavesTable, LeavesZeros, LeavesAll}
use Rattle.table.specs.Sheet.{read_sheet, write_sheet}
use Rattle.cutting.specs.Steps.{label_of, first_by}
use Rattle.cutting.specs.Cut.{Cuts, cut_by}
use Rattle.vector.specs.Layout.{work_length}
use Rattle.built.specs.Calls.{Building}

-- a table that was built from a book: what is true of it
pub record Right (b : Book) (t : Table) : Type 0 where
  -- after every text of bytes its label is the one that names the text by the book's rules
  pub names : (w : Text) → Bytes w → Names (meant b) w (label_of t w)
  -- cutting by it is cutting by the textbook: longest words, earliest rules, stuck exactly where no non-empty prefix matches
  pub cuts : (room at : ℕ) (text : Text) → Bytes text → Cuts (FirstWord (meant b)) room at text (cut_by (first_by t) room at text)
  -- it is well formed, and its sheet reads back to it
  pub formed : Formed t
  pub sheet : read_sheet (write_sheet t) ≡ got t (length (write_sheet t))

-- what a call that succeeds has left in memory
pub record Left (file : List ℕ) (s : ℕ) (labels targets : List ℕ) : Type 0 where
  pub book : Book
  pub after : ℕ
  pub read : read_book file ≡ got book after
  pub well_formed_lem : well_formed s labels targets ≡ true
  pub right : Right book (lent s labels targets)

-- ---- the areas of a call

-- there is room: labels and targets for all states that there may be, and the cells of the work area
pub record HasRoom (labels targets work : List ℕ) : Type 0 where
  pub all_labels : states ≤ length labels
  pub all_targets : table_cells ≤ length targets
  pub all_work : work_length ≤ length work

-- a table was built: it stands in the table area with 0 behind it, and the work area is all 0
pub record BuildsTable (labels₀ targets₀ work₀ : List ℕ) (t : Table) (x : Building) : Type 0 where
  pub table : LeavesTable labels₀ targets₀ t x.table
  pub work : x.work ≡ replicate (length work₀) 0

-- none was built, for this refusal: both areas are all 0
pub record BuildsNone (labels₀ targets₀ work₀ : List ℕ) (r : Refusal) (x : Building) : Type 0 where
  pub table : LeavesZeros labels₀ targets₀ r x.table
  pub work : x.work ≡ replicate (length work₀) 0

-- Room: all is as before
pub record ChangesNothing (labels₀ targets₀ work₀ : List ℕ) (x : Building) : Type 0 where
  pub table : LeavesAll labels₀ targets₀ x.table
  pub work : x.work ≡ work₀
