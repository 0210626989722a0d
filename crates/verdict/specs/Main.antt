-- The theorems of comparing that are bought, together; each is proved in the file that its proof names, or computed here.
-- To believe them, read the definitions: Demand, Compare, Calls, Called and Sample here, Texts, Walk and Passing in walk, and those that they stand on.
use Rattle.std.specs.Prelude.{ℕ, ◌≤◌, ◌≡◌, refl, true, false, List, ◌↔◌, length, replicate, Some, None, Ok, Err}
use Rattle.std.proofs.Common.{arith}
use Rattle.number.specs.declared.Refusal.{Refusal}
use Rattle.number.specs.declared.Refusal.TheVariants.{Long, Loaded, Room}
use Rattle.number.specs.Limits.{pairs, pool}
use Rattle.number.specs.Numbers.{Bytes}
use Rattle.number.specs.Refused.{row_of}
use Rattle.number.specs.Refused.Answer.{got, refused}
use Rattle.number.specs.Refused.Outcome.{gives, refuses}
use Rattle.meaning.specs.Re.{Re, Text}
use Rattle.meaning.specs.Words.{FirstWord, first_word}
use Rattle.book.specs.Book.{Book}
use Rattle.book.specs.Reads.{read_book}
use Rattle.book.specs.Expression.{meant}
use Rattle.table.specs.Table.{Table, lent, well_formed}
use Rattle.cutting.specs.Cut.{Cut, Cuts, cut_by}
use Rattle.cutting.specs.CutLaws.{by_rules, cut_exactly}
use Rattle.walk.specs.Bought.{OwnRefusal}
use Rattle.walk.specs.Passing.{Limits}
use Rattle.built.specs.Calls.{build_book, build_of}
use Rattle.verdict.specs.Compare.{Verdict, beside, compare_rules_to, compare_rules}
use Rattle.verdict.specs.Compare.Verdict.{Same, Differs}
use Rattle.verdict.specs.Calls.{compared, compare_book, Comparison, compare_of}
use Rattle.verdict.specs.Calls.Told.{same, differs}
use Rattle.verdict.specs.Demand.{CutAlike, WholeAlike, Differ, held_pairs}
use Rattle.verdict.specs.Called.{Roomy, Short, Refuses, Answered, OneText}
use Rattle.verdict.specs.VerdictLaws.{same_alike, same_exactly, shown_differs, limits_at, wider_answered, wider_long, own_table}
use Rattle.verdict.specs.CallLaws.{text_one, short_room, ill_formed, book_refused, call_answered, own_call}
use Rattle.verdict.specs.Sample.{WorkedSheets, worked_sheets, WorkedAnswers, worked_answers, WorkedRefusals, worked_refusals}

-- a text has exactly one cut by a book's rules, as it has by a table (cutting, the_cut)
pub the_book_cut : (rs : List Re) (room at : ℕ) (text : Text) (x : Cut) → Cuts (FirstWord rs) room at text x ↔ (cut_by (first_word rs) room at text ≡ x)
the_book_cut rs = cut_exactly (by_rules rs)

module _ (file : List ℕ) (b : Book) (after : ℕ) (t : Table) (read : read_book file ≡ got b after) where
  -- Same is answered only where both cut every text alike, from every place and with every room
  pub the_same : compare_book file t ≡ gives Same → (room at : ℕ) (text : Text) → Bytes text → CutAlike (meant b) t room at text
  the_same = same_alike file b after t read

  -- demand 3: whatever is answered, it is Same exactly when both cut every text into the same words under the same rules
  pub the_demand : (v : Verdict) → compare_book file t ≡ gives v → (v ≡ Same) ↔ ((text : Text) → Bytes text → WholeAlike (meant b) t text)
  the_demand = same_exactly file b after t read

  -- else the shown text is the first of all that are cut differently, with its labels
  pub the_difference : (text : Text) (x y : ℕ) → compare_book file t ≡ gives (Differs text x y) → Differ (meant b) t text x y
  the_difference = shown_differs file b after t read

  -- it declines exactly where a limit is passed, by the first text that passes one: Long, Pairs or Pool, tested in this order, by row and place.
  -- The place is the number of the pair that this text leaves, which is one (walk, the_number); and it answers exactly where no text passes a limit
  pub the_limits : Limits (held_pairs (meant b) t) (row_of (compare_book file t))
  the_limits = limits_at file b after t read

-- its walk's own refusal is neither Long nor Pool, so that walk's `the_stops` tells where each of the three comes
pub the_own_refusal : (t : Table) → OwnRefusal (beside t)
the_own_refusal t =
    record {
      not_long = λ p q e. let z : ◌≡◌ {A = ℕ} 0 1 = cc in omega arith;
      not_pool = λ p q e. let z : ◌≡◌ {A = ℕ} 0 1 = cc in omega arith;
    }

-- wider limits take nothing back: what was answered with fewer pairs or terms allowed is answered with ours, and what was too long is so at the same place
pub record Wider (most terms : ℕ) (t : Table) (rs : List Re) : Type 0 where
  pub answered : (v : Verdict) → compare_rules_to most terms t rs ≡ gives v → compare_rules t rs ≡ gives v
  pub long : (at : ℕ) → compare_rules_to most terms t rs ≡ refuses (Long at) → compare_rules t rs ≡ refuses (Long at)

pub the_wider_comparison : (most terms : ℕ) → most ≤ pairs → terms ≤ pool → (t : Table) (rs : List Re) → Wider most terms t rs
the_wider_comparison most terms less fewer t rs =
    record { answered = wider_answered most terms less fewer t rs; long = wider_long most terms less fewer t rs }

-- on the table that our build made of the same book it answers Same
pub the_own_table : (file : List ℕ) (t : Table) → build_book file ≡ gives t → compare_book file t ≡ gives Same
the_own_table = own_table

-- a shown text is fixed, and so are its labels; it fits the text area by its length, which Differ tells
pub the_one_text : (rs : List Re) (t : Table) (u v : Text) (x y z w : ℕ) → Differ rs t u x y → Differ rs t v z w → OneText u v x y z w
the_one_text = text_one

-- ---- the call: Room, Loaded, the book's refusal and the walk, in this order

module _ (file : List ℕ) (s : ℕ) (labels targets area work : List ℕ) where
  abbrev call : Comparison
  call = compare_of file s labels targets area work

  -- an area below its full size: Room with all as before, whatever the book and the table are
  pub the_room : Short area work → call ≡ record { answer = refuses Room; text = area; work = work }
  the_room = short_room file s labels targets area work

  -- else a table that is not well formed: Loaded, whatever the book is
  pub the_loaded : Roomy area work → well_formed s labels targets ≡ false → Refuses Loaded area work call
  the_loaded = ill_formed file s labels targets area work

  -- else a book that is refused: its refusal
  pub the_book : Roomy area work → well_formed s labels targets ≡ true → (r : Refusal) → read_book file ≡ refused r → Refuses r area work call
  the_book = book_refused file s labels targets area work

  -- else what is answered of its rules and the table is exact, and stands in the areas
  pub the_call : Roomy area work → well_formed s labels targets ≡ true → (b : Book) (after : ℕ) → read_book file ≡ got b after
      → Answered (meant b) (lent s labels targets) area work call
  the_call = call_answered file s labels targets area work

-- compared with the memory that its own build left, a book is the same
pub the_own_call : (file labels targets scratch : List ℕ) (n : ℕ) → (build_of file labels targets scratch).table.answer ≡ gives n
    → (area work : List ℕ) → Roomy area work
    → compare_of file n (build_of file labels targets scratch).table.labels (build_of file labels targets scratch).table.targets area work
    ≡ record { answer = gives same; text = replicate (length area) 0; work = replicate (length work) 0 }
the_own_call = own_call

-- the code's answers, as the paper has them: the length of the text, the book's label, the table's
pub the_answers : (compared (Ok None) ≡ gives same) × ((n book table : ℕ) → compared (Ok (Some (record { len = n; by_book = book; by_table = table }))) ≡ gives (differs n book table))
    × ((r : Refusal) → compared (Err r) ≡ refuses r)
the_answers = (refl, λ n book table. refl, λ r. refl)

-- ---- computed by the checker

-- document 01's two comparisons of W: against its own table, and against that table with state 5 merged into state 4
pub the_worked_sheets : WorkedSheets
the_worked_sheets = worked_sheets

-- other answers, and refusals by row and place
pub the_worked_answers : WorkedAnswers
the_worked_answers = worked_answers

pub the_worked_refusals : WorkedRefusals
the_worked_refusals = worked_refusals
