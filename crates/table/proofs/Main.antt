-- The theorems about sheets that are bought, together; each is proved in the file that its proof names.
-- To believe them, read only the definitions: Table, Sheet, Calls, Formed, Faults, Areas and Samples, with number's Limits, Refused, Numbers, Faults and Reading.
use Rattle.std.specs.Prelude.{ℕ, suc, ◌-◌, ◌*◌, ◌≤◌, ◌<◌, ◌≡◌, refl, true, List, ◌∷◌, ◌++◌, map, ◌↔◌, length, take, drop, replicate}
use Rattle.number.specs.declared.Refusal.{Refusal}
use Rattle.number.specs.declared.Refusal.TheVariants.{Range}
use Rattle.number.specs.Limits.{rules, bytes, states, table_cells}
use Rattle.number.specs.Numbers.{Bytes}
use Rattle.number.specs.Refused.Answer.{got, refused}
use Rattle.number.specs.Refused.Outcome.{gives}
use Rattle.table.specs.Table.{Table, lent, well_formed}
use Rattle.table.specs.Sheet.{Run, read_sheet_to, read_sheet, count_told, runs_of, write_sheet}
use Rattle.table.specs.Calls.{Filled, Output, load_of, write_of}
use Rattle.table.specs.Formed.{Formed, expanded, covered, TurnsFrom, Proper, Ends, Takes, longest_sheet}
use Rattle.table.specs.Faults.{Fault}
use Rattle.table.specs.Areas.{Answers, LeavesTable, LeavesZeros, LeavesAll, WritesFront, WritesNone}
use Rattle.table.specs.SheetFormed.{well_formed_formed, full_well}
use Rattle.table.specs.SheetRuns.{runs_expanded, runs_proper, runs_covered, runs_count, runs_ends, runs_first, expanded_runs}
use Rattle.table.specs.SheetLaws.{sheet_read_back, sheet_back}
use Rattle.table.proofs.SheetBytes.{sheet_bytes, sheet_length_lem}
use Rattle.table.proofs.SheetLongest.{longest_taken}
use Rattle.table.proofs.SheetReaders.{untold_refused, read_alike, larger_refused, few_taken, many_refused, taken_few}
use Rattle.table.proofs.SheetCalls.{sheet_one, load_then_write, load_well_formed, write_fits}
use Rattle.table.proofs.FaultLaws.{refused_faulty, fault_one}
use Rattle.table.proofs.AreaLaws.{load_read, load_refused, load_short_labels, load_short_targets, write_ill, write_short, write_whole}
use Rattle.table.proofs.AreaLaws.{leaves_one, zeros_one, front_one, write_then_load}
use Rattle.table.specs.Samples.{one_state, one_bytes, two_states, two_bytes, IsSheetOf, head_given, head_told, head_lines}
use Rattle.table.specs.Samples.{row_given, row_told, sheet_lines, pass_given, pass_told, memory_lines}
use Rattle.table.proofs.SampleLaws.{sheets_computed, heads_computed, rows_computed, tests_computed}

-- the Boolean test of lent memory tells whether the table in it is formed
pub the_test : (s : ℕ) (labels targets : List ℕ) → (well_formed s labels targets ≡ true) ↔ Formed (lent s labels targets)
the_test = well_formed_formed

-- the runs of a row are proper, they stand for the row, and no other proper runs do
pub record RowRuns : Type 0 where
  pub whole : (row : List ℕ) → expanded (runs_of row) ≡ row
  pub proper : (row : List ℕ) → Proper (runs_of row)
  pub only : (rs : List Run) → Proper rs → runs_of (expanded rs) ≡ rs
  pub covers : (row : List ℕ) → covered (runs_of row) ≡ length row
  pub count : (row : List ℕ) → length (runs_of row) ≤ length row
  pub ends : (t : ℕ) (row : List ℕ) → Ends t row ↔ TurnsFrom t (runs_of row)
  pub first : (n t : ℕ) (rest : List ℕ) → Ends t rest
      → runs_of (replicate (suc n) t ++ rest) ≡ record { len = suc n; target = t } ∷ runs_of rest

pub the_runs : RowRuns
the_runs =
    record {
      whole = runs_expanded;
      proper = runs_proper;
      only = expanded_runs;
      covers = runs_covered;
      count = runs_count;
      ends = runs_ends;
      first = runs_first;
    }

-- every formed table is read back from its sheet: a reader that refused too much would contradict this
pub written_is_read : (t : Table) → Formed t → read_sheet (write_sheet t) ≡ got t (length (write_sheet t))
written_is_read = sheet_read_back

-- whatever is read is the sheet of a formed table, to its last byte: a reader that took too much would contradict this
pub read_is_written : (file : List ℕ) (t : Table) (after : ℕ) → Bytes file → read_sheet file ≡ got t after
    → (write_sheet t ≡ file) × Formed t × (after ≡ length file)
read_is_written file t after all e =
    let told = sheet_back file all t after e in
    (told.written, told.formed, told.ended)

-- a sheet is made of bytes, and there is one for each formed table
pub record Sheets : Type 0 where
  pub of_bytes : (t : Table) → Formed t → Bytes (write_sheet t)
  pub one : (t u : Table) → Formed t → Formed u → write_sheet t ≡ write_sheet u → t ≡ u

pub the_sheets : Sheets
the_sheets = record { of_bytes = sheet_bytes; one = sheet_one }

-- the longest sheet: a buffer of so many bytes holds any, and one that is a byte shorter does not
pub record Longest : Type 0 where
  pub is : longest_sheet ≡ 196608
  pub holds : (t : Table) → Formed t → length (write_sheet t) ≤ longest_sheet
  pub needed : Takes longest_sheet

pub the_longest : Longest
the_longest = record { is = refl; holds = sheet_length_lem; needed = longest_taken }

-- one file by readers that take k states or m, where `count_told` is the state count in it. They answer alike, table or refusal, where it tells
-- none or one that both take; a reader refuses more than it takes by Range at the state count, which is place 1
pub record Readers : Type 0 where
  pub none : (file : List ℕ) (k : ℕ) (r : Refusal) → count_told file ≡ refused r → read_sheet_to file k ≡ refused r
  pub few : (file : List ℕ) (k m s next : ℕ) → count_told file ≡ got s next → s ≤ k → s ≤ m → read_sheet_to file k ≡ read_sheet_to file m
  pub more : (file : List ℕ) (k s next : ℕ) → Bytes file → count_told file ≡ got s next → k < s → read_sheet_to file k ≡ refused (Range 1)

pub the_readers : Readers
the_readers = record { none = untold_refused; few = read_alike; more = larger_refused }

-- the sheet of a table by a reader that takes k states, as an older one takes 128: it is read whole or refused, by the table's states alone;
-- and what such a reader takes is our sheet of the table that it reads, byte for byte
pub record OlderReaders : Type 0 where
  pub taken : (t : Table) → Formed t → (k : ℕ) → t.count ≤ k → read_sheet_to (write_sheet t) k ≡ got t (length (write_sheet t))
  pub refused : (t : Table) → Formed t → (k : ℕ) → k < t.count → read_sheet_to (write_sheet t) k ≡ refused (Range 1)
  pub same_bytes_lem : (file : List ℕ) (k : ℕ) (t : Table) (after : ℕ) → Bytes file → k ≤ states → read_sheet_to file k ≡ got t after
      → (write_sheet t ≡ file) × Formed t × (t.count ≤ k) × (after ≡ length file)

pub the_older_readers : OlderReaders
the_older_readers =
    record {
      taken = few_taken;
      refused = many_refused;
      same_bytes_lem = λ file k t after all less e.
          let told = taken_few file k t after all less e in
          (told.0.written, told.0.formed, told.1, told.0.ended);
    }

-- the first numbers of a sheet, in eight files: what each tells as its state count, and how a reader of 128 states and ours refuse it
pub the_heads : map head_given head_lines ≡ map head_told head_lines
the_heads = heads_computed

-- a sheet of one state and one of two, byte by byte, written and read
pub the_bytes : IsSheetOf one_state one_bytes × IsSheetOf two_states two_bytes
the_bytes = sheets_computed

-- refusals are exact: a file is refused so exactly where it is faulty so, at the place that 01 has for the fault, and no file has two refusals
pub record SheetFaults (file : List ℕ) : Type 0 where
  pub exact : (r : Refusal) → Bytes file → (read_sheet file ≡ refused r) ↔ Fault file r
  pub one : (q r : Refusal) → Fault file q → Fault file r → q ≡ r

pub the_faults : (file : List ℕ) → SheetFaults file
the_faults file = record { exact = refused_faulty file; one = fault_one file }

-- files that are no sheets, each with the number and the place of its refusal, and some that are: every field, every row, each order
pub the_rows : map row_given sheet_lines ≡ map row_told sheet_lines
the_rows = rows_computed

-- every count from 1 to 255 passes, with the largest label and the largest target everywhere
pub the_full_tables : (s : ℕ) → 1 ≤ s → s ≤ states → well_formed s (replicate s rules) (replicate (s * bytes) (s - 1)) ≡ true
the_full_tables = full_well

-- memory that holds a table and memory that does not, at each of its limits
pub the_tests : map pass_given memory_lines ≡ map pass_told memory_lines
the_tests = tests_computed

-- the call of load, whatever stands in the areas before. With room for 255 states a sheet that is read leaves its table and a refused one leaves 0;
-- where either part of the table area is short, nothing changes, whatever the file
pub record LoadCall (file labels targets : List ℕ) : Type 0 where
  pub read : (t : Table) (after : ℕ) → Bytes file → read_sheet file ≡ got t after → states ≤ length labels → table_cells ≤ length targets
      → LeavesTable labels targets t (load_of file labels targets)
  pub refused : (r : Refusal) → read_sheet file ≡ refused r → states ≤ length labels → table_cells ≤ length targets
      → LeavesZeros labels targets r (load_of file labels targets)
  pub short_labels : length labels < states → LeavesAll labels targets (load_of file labels targets)
  pub short_targets : length targets < table_cells → LeavesAll labels targets (load_of file labels targets)

pub the_load_call : (file labels targets : List ℕ) → LoadCall file labels targets
the_load_call file labels targets =
    record {
      read = load_read file labels targets;
      refused = load_refused file labels targets;
      short_labels = load_short_labels file labels targets;
      short_targets = load_short_targets file labels targets;
    }

-- the call of write: memory whose table is not formed is refused first, by row 10, however short the output; then a short output, by row 11;
-- else the sheet stands at the output's front
pub record WriteCall (s : ℕ) (labels targets out : List ℕ) : Type 0 where
  pub ill : (Formed (lent s labels targets) → ⊥) → WritesNone 10 out (write_of s labels targets out)
  pub short : Formed (lent s labels targets) → length out < length (write_sheet (lent s labels targets))
      → WritesNone 11 out (write_of s labels targets out)
  pub written : Formed (lent s labels targets) → length (write_sheet (lent s labels targets)) ≤ length out
      → WritesFront (write_sheet (lent s labels targets)) out (write_of s labels targets out)

pub the_write_call : (s : ℕ) (labels targets out : List ℕ) → WriteCall s labels targets out
the_write_call s labels targets out =
    record {
      ill = write_ill s labels targets out;
      short = write_short s labels targets out;
      written = write_whole s labels targets out;
    }

-- what is said of these calls where they fill an area, clear it or write leaves nothing open: two outcomes of which it holds are one
pub record OneOutcome : Type 0 where
  pub table : (labels targets : List ℕ) (t : Table) (x y : Filled) → LeavesTable labels targets t x → LeavesTable labels targets t y → x ≡ y
  pub zeros : (labels targets : List ℕ) (r : Refusal) (x y : Filled) → LeavesZeros labels targets r x → LeavesZeros labels targets r y → x ≡ y
  pub front : (sheet out : List ℕ) (x y : Output) → WritesFront sheet out x → WritesFront sheet out y → x ≡ y

pub one_outcome : OneOutcome
one_outcome = record { table = leaves_one; zeros = zeros_one; front = front_one }

-- what the code answers is the paper's: a number is given as it is, a refusal is its row of the table
pub the_answers : Answers
the_answers = record { counts = λ n. refl; written = λ n. refl; uncounted = λ r. refl; unwritten = λ r. refl }

-- over the calls: a table that was written and loaded again is there, with 0 behind its cells
pub write_and_load : (s : ℕ) (labels targets out : List ℕ) (n : ℕ) (labels' targets' : List ℕ)
    → (write_of s labels targets out).answer ≡ gives n → states ≤ length labels' → table_cells ≤ length targets'
    → LeavesTable labels' targets' (lent s labels targets) (load_of (take n (write_of s labels targets out).out) labels' targets')
write_and_load = write_then_load

-- a file that was loaded and written again is there, and what stood behind it in the output stays
pub load_and_write : (file labels targets out : List ℕ) (s : ℕ) → Bytes file → (load_of file labels targets).answer ≡ gives s
    → length file ≤ length out
    → write_of s (load_of file labels targets).labels (load_of file labels targets).targets out
    ≡ record { answer = gives (length file); out = file ++ drop (length file) out }
load_and_write = load_then_write

-- what was loaded is well formed, so that no call refuses it as Loaded
pub loaded_is_formed : (file labels targets : List ℕ) (s : ℕ) → Bytes file → (load_of file labels targets).answer ≡ gives s
    → well_formed s (load_of file labels targets).labels (load_of file labels targets).targets ≡ true
loaded_is_formed = load_well_formed

-- a formed table is written to every output that holds the longest sheet
pub formed_is_written : (s : ℕ) (labels targets out : List ℕ) → Formed (lent s labels targets) → longest_sheet ≤ length out
    → (write_of s labels targets out).answer ≡ gives (length (write_sheet (lent s labels targets)))
formed_is_written = write_fits
