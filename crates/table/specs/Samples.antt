-- Sheets and tables written out, each with what documents 01 and 02 say of it; SampleLaws has the checker compute them all.
-- They are every row that reading a sheet can give, at every field, each order of two faults, and every limit from both sides.
use Rattle.std.specs.Prelude.{ℕ, ◌≡◌, Bool, true, false, List, [], ◌∷◌, ◌++◌, length, replicate}
use Rattle.number.specs.declared.Refusal.TheVariants.{Short, Range}
use Rattle.number.specs.Refused.{Answer, Row, row_read}
use Rattle.number.specs.Refused.Answer.{got, refused}
use Rattle.number.specs.Refused.Row.{no_row, row}
use Rattle.number.specs.Sample.{repeated}
use Rattle.table.specs.Table.{Table, well_formed}
use Rattle.table.specs.Sheet.{read_sheet_to, read_sheet, count_told, write_sheet}

-- ---- whole sheets and their tables

-- one state, which keeps to itself by every byte
abbrev pub one_state : Table
one_state = record { count = 1; labels = 0 ∷ []; targets = replicate 256 0 }

abbrev pub one_bytes : List ℕ
one_bytes = 1 ∷ 1 ∷ 0 ∷ 1 ∷ 0x80 ∷ 0x02 ∷ 0 ∷ []

-- state 0 leads by the byte 48 to state 1, which has label 1 and keeps to itself
abbrev pub two_states : Table
two_states = record { count = 2; labels = 0 ∷ 1 ∷ []; targets = replicate 48 0 ++ (1 ∷ replicate 207 0) ++ replicate 256 1 }

abbrev pub two_bytes : List ℕ
two_bytes = 1 ∷ 2 ∷ 0 ∷ 3 ∷ 0x30 ∷ 0 ∷ 1 ∷ 1 ∷ 0xCF ∷ 0x01 ∷ 0 ∷ 1 ∷ 1 ∷ 0x80 ∷ 0x02 ∷ 1 ∷ []

-- the bytes are the table's sheet: they are written of it, and read as it to their end, by the reader that took 128 states and by ours
abbrev pub IsSheetOf : Table → List ℕ → Type 0
IsSheetOf t file = (write_sheet t ≡ file) × (read_sheet_to file 128 ≡ got t (length file)) × (read_sheet file ≡ got t (length file))

-- ---- the first numbers of sheets

-- the count that is told, and the rows of the reader that took 128 states and of ours
pub record Head : Type 0 where
  pub told : Answer ℕ
  pub older : Row
  pub ours : Row

pub record HeadLine : Type 0 where
  pub file : List ℕ
  pub head : Head

abbrev pub head_given : HeadLine → Head
head_given l =
    record { told = count_told l.file; older = row_read (read_sheet_to l.file 128); ours = row_read (read_sheet l.file) }

abbrev pub head_told : HeadLine → Head
head_told l = l.head

unfoldable pub head_lines : List HeadLine
head_lines =
    -- past a count that is taken, a label is due
    record { file = 1 ∷ 0x80 ∷ 0x01 ∷ []; head = record { told = got 128 3; older = row 1 3; ours = row 1 3 } } ∷
    record { file = 1 ∷ 0x81 ∷ 0x01 ∷ []; head = record { told = got 129 3; older = row 3 1; ours = row 1 3 } } ∷
    record { file = 1 ∷ 0xFF ∷ 0x01 ∷ []; head = record { told = got 255 3; older = row 3 1; ours = row 1 3 } } ∷
    record { file = 1 ∷ 0x80 ∷ 0x02 ∷ []; head = record { told = got 256 3; older = row 3 1; ours = row 3 1 } } ∷
    -- a count is told whatever it is, also one that no reader takes
    record { file = 1 ∷ 0 ∷ []; head = record { told = got 0 2; older = row 3 1; ours = row 3 1 } } ∷
    record { file = 1 ∷ 0x80 ∷ 0x80 ∷ 0x01 ∷ []; head = record { told = got 16384 4; older = row 3 1; ours = row 3 1 } } ∷
    -- none is told where it is missing, and behind another version
    record { file = 1 ∷ []; head = record { told = refused (Short 1); older = row 1 1; ours = row 1 1 } } ∷
    record { file = 2 ∷ 1 ∷ []; head = record { told = refused (Range 0); older = row 3 0; ours = row 3 0 } } ∷
    []

-- ---- sheets and the rows that tell how they are refused

-- a file that is refused by this number and place, and one that is read
pub data SheetLine : Type 0 where
  wrong : ℕ → ℕ → List ℕ → SheetLine
  read : List ℕ → SheetLine

abbrev pub row_given : SheetLine → Row
row_given (wrong n p file) = row_read (read_sheet file)
row_given (read file) = row_read (read_sheet file)

abbrev pub row_told : SheetLine → Row
row_told (wrong n p file) = row n p
row_told (read file) = no_row

unfoldable pub sheet_lines : List SheetLine
sheet_lines =
    -- the version, at 0: the file ends, also inside the number; two groups and three with a last one of 0, a third that goes on; 0 and 2, and 129
    wrong 1 0 [] ∷
    wrong 1 0 (0x81 ∷ []) ∷
    wrong 1 0 (0x81 ∷ 0x80 ∷ []) ∷
    wrong 15 0 (0x81 ∷ 0x00 ∷ []) ∷
    wrong 15 0 (0x81 ∷ 0x80 ∷ 0x00 ∷ []) ∷
    wrong 2 0 (0x81 ∷ 0x80 ∷ 0x80 ∷ []) ∷
    wrong 3 0 (0 ∷ []) ∷
    wrong 3 0 (2 ∷ []) ∷
    wrong 3 0 (0x81 ∷ 0x01 ∷ []) ∷
    -- the state count, at 1: none and 256 are refused, 255 are taken
    wrong 1 1 (1 ∷ []) ∷
    wrong 1 1 (1 ∷ 0x81 ∷ []) ∷
    wrong 1 1 (1 ∷ 0x81 ∷ 0x80 ∷ []) ∷
    wrong 15 1 (1 ∷ 0x81 ∷ 0x00 ∷ []) ∷
    wrong 15 1 (1 ∷ 0x81 ∷ 0x81 ∷ 0x00 ∷ []) ∷
    wrong 2 1 (1 ∷ 0x81 ∷ 0x81 ∷ 0x81 ∷ []) ∷
    wrong 3 1 (1 ∷ 0 ∷ []) ∷
    wrong 3 1 (1 ∷ 0x80 ∷ 0x02 ∷ []) ∷
    wrong 3 1 (1 ∷ 0x80 ∷ 0x80 ∷ 0x01 ∷ []) ∷
    wrong 1 3 (1 ∷ 0xFF ∷ 0x01 ∷ []) ∷
    -- a label, at 2: 32 is taken, 33 and 128 are not
    wrong 1 2 (1 ∷ 1 ∷ []) ∷
    wrong 1 2 (1 ∷ 1 ∷ 0xA0 ∷ []) ∷
    wrong 15 2 (1 ∷ 1 ∷ 0xA0 ∷ 0x00 ∷ []) ∷
    wrong 15 2 (1 ∷ 1 ∷ 0xA0 ∷ 0x80 ∷ 0x00 ∷ []) ∷
    wrong 15 2 (1 ∷ 1 ∷ 0xA1 ∷ 0x00 ∷ []) ∷
    wrong 2 2 (1 ∷ 1 ∷ 0xA0 ∷ 0x80 ∷ 0x80 ∷ []) ∷
    wrong 3 2 (1 ∷ 1 ∷ 33 ∷ []) ∷
    wrong 3 2 (1 ∷ 1 ∷ 0x80 ∷ 0x01 ∷ []) ∷
    wrong 1 3 (1 ∷ 1 ∷ 32 ∷ []) ∷
    -- a run count, at 3: none and 257 are refused, 256 are taken
    wrong 1 3 (1 ∷ 1 ∷ 0 ∷ []) ∷
    wrong 1 3 (1 ∷ 1 ∷ 0 ∷ 0x81 ∷ []) ∷
    wrong 15 3 (1 ∷ 1 ∷ 0 ∷ 0x81 ∷ 0x00 ∷ []) ∷
    wrong 15 3 (1 ∷ 1 ∷ 0 ∷ 0x81 ∷ 0x80 ∷ 0x00 ∷ []) ∷
    wrong 2 3 (1 ∷ 1 ∷ 0 ∷ 0x81 ∷ 0x80 ∷ 0x80 ∷ []) ∷
    wrong 3 3 (1 ∷ 1 ∷ 0 ∷ 0 ∷ []) ∷
    wrong 3 3 (1 ∷ 1 ∷ 0 ∷ 0x81 ∷ 0x02 ∷ []) ∷
    wrong 1 5 (1 ∷ 1 ∷ 0 ∷ 0x80 ∷ 0x02 ∷ []) ∷
    -- a length, at 4: none and 257 are refused, 256 is taken
    wrong 1 4 (1 ∷ 1 ∷ 0 ∷ 1 ∷ []) ∷
    wrong 1 4 (1 ∷ 1 ∷ 0 ∷ 1 ∷ 0x80 ∷ []) ∷
    wrong 1 4 (1 ∷ 1 ∷ 0 ∷ 1 ∷ 0x80 ∷ 0x80 ∷ []) ∷
    wrong 15 4 (1 ∷ 1 ∷ 0 ∷ 1 ∷ 0x80 ∷ 0x00 ∷ []) ∷
    wrong 15 4 (1 ∷ 1 ∷ 0 ∷ 1 ∷ 0x80 ∷ 0x82 ∷ 0x00 ∷ []) ∷
    wrong 2 4 (1 ∷ 1 ∷ 0 ∷ 1 ∷ 0x80 ∷ 0x82 ∷ 0x80 ∷ []) ∷
    wrong 3 4 (1 ∷ 1 ∷ 0 ∷ 1 ∷ 0 ∷ []) ∷
    wrong 3 4 (1 ∷ 1 ∷ 0 ∷ 1 ∷ 0x81 ∷ 0x02 ∷ []) ∷
    wrong 1 6 (1 ∷ 1 ∷ 0 ∷ 1 ∷ 0x80 ∷ 0x02 ∷ []) ∷
    -- a target, at 6: the state count is refused, as the first target too, and the last state is taken
    wrong 1 6 (1 ∷ 1 ∷ 0 ∷ 1 ∷ 0x80 ∷ 0x02 ∷ 0x80 ∷ []) ∷
    wrong 15 6 (1 ∷ 1 ∷ 0 ∷ 1 ∷ 0x80 ∷ 0x02 ∷ 0x80 ∷ 0x00 ∷ []) ∷
    wrong 15 6 (1 ∷ 1 ∷ 0 ∷ 1 ∷ 0x80 ∷ 0x02 ∷ 0x80 ∷ 0x80 ∷ 0x00 ∷ []) ∷
    wrong 15 6 (1 ∷ 1 ∷ 0 ∷ 1 ∷ 0x80 ∷ 0x02 ∷ 0x81 ∷ 0x00 ∷ []) ∷
    wrong 2 6 (1 ∷ 1 ∷ 0 ∷ 1 ∷ 0x80 ∷ 0x02 ∷ 0x80 ∷ 0x80 ∷ 0x80 ∷ []) ∷
    wrong 3 6 (1 ∷ 1 ∷ 0 ∷ 1 ∷ 0x80 ∷ 0x02 ∷ 1 ∷ []) ∷
    wrong 3 6 (1 ∷ 2 ∷ 0 ∷ 1 ∷ 0x80 ∷ 0x02 ∷ 2 ∷ []) ∷
    wrong 1 7 (1 ∷ 2 ∷ 0 ∷ 1 ∷ 0x80 ∷ 0x02 ∷ 1 ∷ []) ∷
    -- a sum of 257, at its last length, 7: whatever the target, and where it is missing; but the length's own faults come first
    wrong 9 7 (1 ∷ 2 ∷ 0 ∷ 2 ∷ 0xFF ∷ 0x01 ∷ 0 ∷ 2 ∷ 1 ∷ []) ∷
    wrong 9 7 (1 ∷ 2 ∷ 0 ∷ 2 ∷ 0xFF ∷ 0x01 ∷ 0 ∷ 2 ∷ 0 ∷ []) ∷
    wrong 9 7 (1 ∷ 2 ∷ 0 ∷ 2 ∷ 0xFF ∷ 0x01 ∷ 0 ∷ 2 ∷ 2 ∷ []) ∷
    wrong 9 7 (1 ∷ 2 ∷ 0 ∷ 2 ∷ 0xFF ∷ 0x01 ∷ 0 ∷ 2 ∷ []) ∷
    wrong 9 7 (1 ∷ 2 ∷ 0 ∷ 2 ∷ 0x80 ∷ 0x02 ∷ 0 ∷ 1 ∷ 1 ∷ []) ∷
    wrong 1 7 (1 ∷ 2 ∷ 0 ∷ 2 ∷ 0xFF ∷ 0x01 ∷ 0 ∷ 0x82 ∷ []) ∷
    wrong 15 7 (1 ∷ 2 ∷ 0 ∷ 2 ∷ 0xFF ∷ 0x01 ∷ 0 ∷ 0x82 ∷ 0x00 ∷ []) ∷
    wrong 3 7 (1 ∷ 2 ∷ 0 ∷ 2 ∷ 0xFF ∷ 0x01 ∷ 0 ∷ 0x81 ∷ 0x02 ∷ []) ∷
    -- equal neighbours, at the second target, 8, whatever the sum; but the target's own faults come first
    wrong 9 8 (1 ∷ 2 ∷ 0 ∷ 2 ∷ 1 ∷ 0 ∷ 0xFF ∷ 0x01 ∷ 0 ∷ []) ∷
    wrong 9 8 (1 ∷ 2 ∷ 0 ∷ 2 ∷ 1 ∷ 1 ∷ 0xFE ∷ 0x01 ∷ 1 ∷ []) ∷
    wrong 1 8 (1 ∷ 2 ∷ 0 ∷ 2 ∷ 1 ∷ 0 ∷ 0xFF ∷ 0x01 ∷ []) ∷
    wrong 15 8 (1 ∷ 2 ∷ 0 ∷ 2 ∷ 1 ∷ 0 ∷ 0xFF ∷ 0x01 ∷ 0x80 ∷ 0x00 ∷ []) ∷
    wrong 3 8 (1 ∷ 2 ∷ 0 ∷ 2 ∷ 1 ∷ 0 ∷ 0xFF ∷ 0x01 ∷ 2 ∷ []) ∷
    -- a sum of 255 or less, at the byte after the state: at the file's end, before a spare byte, before a label that is missing or wrong
    wrong 9 7 (1 ∷ 1 ∷ 0 ∷ 1 ∷ 0xFF ∷ 0x01 ∷ 0 ∷ []) ∷
    wrong 9 6 (1 ∷ 1 ∷ 0 ∷ 1 ∷ 1 ∷ 0 ∷ []) ∷
    wrong 9 9 (1 ∷ 2 ∷ 0 ∷ 2 ∷ 1 ∷ 0 ∷ 0xFE ∷ 0x01 ∷ 1 ∷ []) ∷
    wrong 9 7 (1 ∷ 1 ∷ 0 ∷ 1 ∷ 0xFF ∷ 0x01 ∷ 0 ∷ 0 ∷ []) ∷
    wrong 9 7 (1 ∷ 2 ∷ 0 ∷ 1 ∷ 0xFF ∷ 0x01 ∷ 0 ∷ []) ∷
    wrong 9 7 (1 ∷ 2 ∷ 0 ∷ 1 ∷ 0xFF ∷ 0x01 ∷ 0 ∷ 33 ∷ []) ∷
    -- the second state, from 7 on: its label, its run count, its sums and its targets are its own
    wrong 3 7 (1 ∷ 2 ∷ 0 ∷ 1 ∷ 0x80 ∷ 0x02 ∷ 0 ∷ 33 ∷ []) ∷
    wrong 3 8 (1 ∷ 2 ∷ 0 ∷ 1 ∷ 0x80 ∷ 0x02 ∷ 0 ∷ 0 ∷ 0 ∷ []) ∷
    wrong 9 12 (1 ∷ 2 ∷ 0 ∷ 1 ∷ 0x80 ∷ 0x02 ∷ 0 ∷ 0 ∷ 1 ∷ 0xFF ∷ 0x01 ∷ 0 ∷ []) ∷
    wrong 9 11 (1 ∷ 2 ∷ 0 ∷ 1 ∷ 0x80 ∷ 0x02 ∷ 0 ∷ 0 ∷ 2 ∷ 1 ∷ 0 ∷ 0x80 ∷ 0x02 ∷ 1 ∷ []) ∷
    wrong 9 13 (1 ∷ 2 ∷ 0 ∷ 1 ∷ 0x80 ∷ 0x02 ∷ 0 ∷ 0 ∷ 2 ∷ 1 ∷ 1 ∷ 0xFF ∷ 0x01 ∷ 1 ∷ []) ∷
    -- bytes behind the last state, at the first of them, whatever it is
    wrong 5 7 (1 ∷ 1 ∷ 0 ∷ 1 ∷ 0x80 ∷ 0x02 ∷ 0 ∷ 0 ∷ []) ∷
    wrong 5 7 (1 ∷ 1 ∷ 0 ∷ 1 ∷ 0x80 ∷ 0x02 ∷ 0 ∷ 0x80 ∷ []) ∷
    wrong 5 7 (1 ∷ 1 ∷ 0 ∷ 1 ∷ 0x80 ∷ 0x02 ∷ 0 ∷ 0 ∷ 1 ∷ 0x80 ∷ 0x02 ∷ 0 ∷ []) ∷
    -- right sheets: one state, with label 0 and with 32; two; a state that no text leads to; neighbours of two states with one target
    read one_bytes ∷
    read (1 ∷ 1 ∷ 32 ∷ 1 ∷ 0x80 ∷ 0x02 ∷ 0 ∷ []) ∷
    read two_bytes ∷
    read (1 ∷ 2 ∷ 0 ∷ 1 ∷ 0x80 ∷ 0x02 ∷ 0 ∷ 1 ∷ 1 ∷ 0x80 ∷ 0x02 ∷ 0 ∷ []) ∷
    read (1 ∷ 2 ∷ 0 ∷ 1 ∷ 0x80 ∷ 0x02 ∷ 1 ∷ 0 ∷ 1 ∷ 0x80 ∷ 0x02 ∷ 1 ∷ []) ∷
    -- a row of 256 runs of one byte each
    read ((1 ∷ 2 ∷ 0 ∷ 0x80 ∷ 0x02 ∷ []) ++ repeated 128 (1 ∷ 0 ∷ 1 ∷ 1 ∷ []) ++ (0 ∷ 1 ∷ 0x80 ∷ 0x02 ∷ 1 ∷ [])) ∷
    []

-- ---- memory and whether the table in it is well formed

-- a count, labels and targets, and whether they pass
pub data MemoryLine : Type 0 where
  passes : ℕ → List ℕ → List ℕ → MemoryLine
  fails : ℕ → List ℕ → List ℕ → MemoryLine

abbrev pub pass_given : MemoryLine → Bool
pass_given (passes s labels targets) = well_formed s labels targets
pass_given (fails s labels targets) = well_formed s labels targets

abbrev pub pass_told : MemoryLine → Bool
pass_told (passes s labels targets) = true
pass_told (fails s labels targets) = false

unfoldable pub memory_lines : List MemoryLine
memory_lines =
    -- the count: none and 256 are refused, though memory is there; 1 passes
    fails 0 (0 ∷ []) (replicate 256 0) ∷
    fails 0 [] [] ∷
    passes 1 (0 ∷ []) (replicate 256 0) ∷
    fails 256 (replicate 256 0) (replicate 65536 0) ∷
    -- memory for the count: one label or one target too few
    fails 1 [] (replicate 256 0) ∷
    fails 2 (0 ∷ []) (replicate 512 0) ∷
    fails 1 (0 ∷ []) (replicate 255 0) ∷
    fails 2 (0 ∷ 0 ∷ []) (replicate 511 0) ∷
    -- a label of 32 passes, one of 33 does not, as the first and as the last
    passes 2 (32 ∷ 32 ∷ []) (replicate 512 0) ∷
    fails 2 (33 ∷ 0 ∷ []) (replicate 512 0) ∷
    fails 2 (0 ∷ 33 ∷ []) (replicate 512 0) ∷
    -- the last state as a target passes, the count does not, as the first and as the last
    passes 2 (0 ∷ 1 ∷ []) (replicate 512 1) ∷
    fails 2 (0 ∷ 1 ∷ []) (2 ∷ replicate 511 0) ∷
    fails 2 (0 ∷ 1 ∷ []) (replicate 511 0 ++ (2 ∷ [])) ∷
    -- what stands behind the states is not looked at
    passes 1 (0 ∷ 33 ∷ []) (replicate 256 0 ++ (1 ∷ [])) ∷
    []
