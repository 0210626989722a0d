-- The theorems of building that are bought, together; each is proved in the file that its proof names, or computed there or here.
-- To believe them, read the definitions: Build, Calls, Bought, States, Refused and Sample here, Areas in table, Sample in cutting, Walk, Vectors, Parts and Passing in walk, and those that they stand on.
use Rattle.std.specs.Prelude.{ℕ, ◌≤◌, ◌<◌, ◌≡◌, refl, List, map, length}
use Rattle.std.proofs.Common.{arith}
use Rattle.number.specs.declared.Refusal.{Refusal}
use Rattle.number.specs.declared.Refusal.TheVariants.{Long}
use Rattle.number.specs.Limits.{states, table_cells, pool, work_cells}
use Rattle.number.specs.Refused.{row_of}
use Rattle.number.specs.Refused.Answer.{got, refused}
use Rattle.number.specs.Refused.Outcome.{gives, refuses}
use Rattle.meaning.specs.Re.{Re}
use Rattle.book.specs.Book.{Book}
use Rattle.book.specs.Reads.{read_book}
use Rattle.book.specs.Expression.{meant}
use Rattle.book.specs.Sample.{w_bytes}
use Rattle.table.specs.Table.{Table}
use Rattle.table.specs.Sheet.{read_sheet, write_sheet}
use Rattle.cutting.specs.Sample.{table_w}
use Rattle.walk.specs.Bought.{OwnRefusal}
use Rattle.walk.specs.Passing.{Limits}
use Rattle.vector.specs.Layout.{work_length}
use Rattle.built.specs.Build.{alone, build_rules_to, build_rules}
use Rattle.built.specs.Calls.{build_book, build_of}
use Rattle.built.specs.Bought.{Right, Left, HasRoom, BuildsTable, BuildsNone, ChangesNothing}
use Rattle.built.specs.States.{held_states, HasStates}
use Rattle.built.specs.StateLaws.{build_limits, build_states}
use Rattle.built.specs.CallLaws.{build_right, call_left, wider_built, wider_long}
use Rattle.built.specs.CallTold.{call_built, call_refused, call_unbuilt, call_few_labels, call_few_targets, call_short_work}
use Rattle.built.specs.Sample.{w_sheet, w_built, w_written, w_read_back}
use Rattle.built.specs.Refused.{Line, refused_lines, refused_lines_lem}

-- ---- tables

-- the theorem, of the definitions: a table that is built from a book is right for it
pub the_build : (file : List ℕ) (b : Book) (after : ℕ) (t : Table) → read_book file ≡ got b after → build_book file ≡ gives t → Right b t
the_build = build_right

-- its states are the vectors that texts lead to, numbered in the order of their first texts
pub the_states : (rs : List Re) (t : Table) → build_rules rs ≡ gives t → HasStates rs t
the_states = build_states

-- W's table of 7 states, with all targets, and its sheet byte by byte
pub the_sample_build : (build_book w_bytes ≡ gives table_w) × (write_sheet table_w ≡ w_sheet) × (read_sheet w_sheet ≡ got table_w 73)
the_sample_build = (w_built, w_written, w_read_back)

-- ---- the call

-- the theorem, of what the call leaves: the table in memory is right for the book
pub the_call : (file labels targets work : List ℕ) (s : ℕ) → (build_of file labels targets work).table.answer ≡ gives s
    → Left file s (build_of file labels targets work).table.labels (build_of file labels targets work).table.targets
the_call = call_left

-- the areas that it asks for: the work area's length, and that it is not above the paper's
pub the_areas : (work_length ≡ 63011) × (work_length ≤ work_cells)
the_areas = (refl, omega arith)

module _ (file labels targets work : List ℕ) where
  module _ (room : HasRoom labels targets work) where
    -- with room, a book that is read and builds is built: its table stands in the table area, with 0 behind it, and the work area is 0
    pub the_built_call : (b : Book) (after : ℕ) → read_book file ≡ got b after → (t : Table) → build_rules (meant b) ≡ gives t
        → BuildsTable labels targets work t (build_of file labels targets work)
    the_built_call = call_built file labels targets work room

    -- a book that is refused is answered with its own refusal, and one that is not built with the build's: all areas are 0
    pub the_refused_call : (r : Refusal) → read_book file ≡ refused r → BuildsNone labels targets work r (build_of file labels targets work)
    the_refused_call = call_refused file labels targets work room

    pub the_unbuilt_call : (b : Book) (after : ℕ) → read_book file ≡ got b after → (r : Refusal) → build_rules (meant b) ≡ refuses r
        → BuildsNone labels targets work r (build_of file labels targets work)
    the_unbuilt_call = call_unbuilt file labels targets work room

  -- a short area is Room, whatever the book is, and nothing changes
  pub the_short_labels : length labels < states → ChangesNothing labels targets work (build_of file labels targets work)
  the_short_labels = call_few_labels file labels targets work

  pub the_short_targets : length targets < table_cells → ChangesNothing labels targets work (build_of file labels targets work)
  the_short_targets = call_few_targets file labels targets work

  pub the_short_work : length work < work_length → ChangesNothing labels targets work (build_of file labels targets work)
  the_short_work = call_short_work file labels targets work

-- ---- limits

module _ (rs : List Re) where
  -- a build is refused exactly where a limit is passed, by the first text that passes one: Long, States or Pool, tested in this order, by row and place.
  -- The place is the number of the state that this text leaves, 0 for vector 0; and it succeeds exactly where no text passes a limit
  pub the_limits : Limits (held_states rs) (row_of (build_rules rs))
  the_limits = build_limits rs

-- its walk's own refusal is neither Long nor Pool, so that walk's `the_stops` tells where each of the three comes
pub the_own_refusal : OwnRefusal alone
the_own_refusal =
    record {
      not_long = λ p q e. let z : ◌≡◌ {A = ℕ} 0 1 = cc in omega arith;
      not_pool = λ p q e. let z : ◌≡◌ {A = ℕ} 0 1 = cc in omega arith;
    }

-- builds with small limits, each with the row of the refusals and the place that it comes to
pub the_refused_builds : map (λ (x : Line). row_of (build_rules_to x.most x.terms x.rules)) refused_lines ≡ map (λ (x : Line). x.comes) refused_lines
the_refused_builds = refused_lines_lem

-- wider limits take nothing back. What was built with fewer states or terms allowed is built with ours, so that its sheet keeps its bytes;
-- and what was too long is too long at the same place
pub record Wider (most terms : ℕ) (rs : List Re) : Type 0 where
  pub built : (t : Table) → build_rules_to most terms rs ≡ gives t → build_rules rs ≡ gives t
  pub long : (at : ℕ) → build_rules_to most terms rs ≡ refuses (Long at) → build_rules rs ≡ refuses (Long at)

pub the_wider_build : (most terms : ℕ) → most ≤ states → terms ≤ pool → (rs : List Re) → Wider most terms rs
the_wider_build most terms less fewer rs =
    record { built = wider_built most terms less fewer rs; long = wider_long most terms less fewer rs }
