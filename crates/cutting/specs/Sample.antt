-- Cuts worked by hand, as one list: lent table, text, place and records, then the code's answer and the records afterwards; the checker computes them all.
-- The table of W as its build numbers the states; the two rules of a known wrong turn; tables whose start is labelled; and some that are not well formed.
use Rattle.std.specs.Prelude.{ℕ, ◌+◌, ◌≡◌, refl, replicate, Result, Ok, Err}
use mathlib.Core.List.{List, [], ◌∷◌, ◌++◌, map, flat_map}
use Rattle.number.specs.declared.Refusal.{Refusal}
use Rattle.number.specs.declared.Refusal.TheVariants.{Loaded}
use Rattle.meaning.specs.Re.{Text}
use Rattle.meaning.specs.Sample.{t, o, m, space, seven, hash}
use Rattle.meaning.specs.Words.{scan}
use Rattle.meaning.specs.Words.Found.{Stuck as Found·stuck, Word as Found·word}
use Rattle.table.specs.Table.{Table, all, well_formed}
use Rattle.cutting.specs.declared.Word.{Word}
use Rattle.cutting.specs.declared.Ended.{Ended}
use Rattle.cutting.specs.declared.Ended.TheVariants.{Done, Stuck, Full}
use Rattle.cutting.specs.Steps.{first_by}
use Rattle.cutting.specs.Cut.{cut_by}
use Rattle.cutting.specs.Calls.{ended, Recorded, cut_from_of}
use Rattle.cutting.specs.Flat.{flat, Laid, cut_cells_of}
use Rattle.cutting.specs.Dead.{keeps, dead, dead_from, dead_of}
use Rattle.cutting.specs.Left.{numbers_of}

-- ---- tables as lent memory

-- a row whose bytes all lead to one state
abbrev every_byte : ℕ → List ℕ
every_byte s = replicate 256 s

-- the rows of W: by a space (32), digits (48 to 57) and letters (97 to 122, t is 116) on from the start; on from digits; from letters; from `t`, by o (111)
abbrev from_start : List ℕ
from_start =
    replicate 32 1 ++ (2 ∷ (replicate 15 1 ++ (replicate 10 3 ++ (replicate 39 1
    ++ (replicate 19 4 ++ (5 ∷ (replicate 6 4 ++ replicate 133 1)))))))

abbrev from_digits : List ℕ
from_digits = replicate 48 1 ++ (replicate 10 3 ++ replicate 198 1)

abbrev from_letters : List ℕ
from_letters = replicate 97 1 ++ (replicate 26 4 ++ replicate 133 1)

abbrev from_t : List ℕ
from_t = replicate 97 1 ++ (replicate 14 4 ++ (6 ∷ (replicate 11 4 ++ replicate 133 1)))

-- W: state 1 is the dead one, 2 after a space, 3 after digits, 4 after letters, 5 after `t`, 6 after `to`
abbrev pub table_w : Table
table_w = record {
  count = 7;
  labels = 0 ∷ 0 ∷ 4 ∷ 3 ∷ 2 ∷ 2 ∷ 1 ∷ [];
  targets = from_start ++ (every_byte 1 ++ (every_byte 1 ++ (from_digits ++ (from_letters ++ (from_t ++ from_letters)))));
}

-- the rules `1` and `1.1`: 2 after `1`, 3 after `1.`, 4 after `1.1`
abbrev pub table_ones : Table
table_ones = record {
  count = 5;
  labels = 0 ∷ 0 ∷ 1 ∷ 0 ∷ 2 ∷ [];
  targets =
      (replicate 49 1 ++ (2 ∷ replicate 206 1))
      ++ (every_byte 1
      ++ ((replicate 46 1 ++ (3 ∷ replicate 209 1))
      ++ ((replicate 49 1 ++ (4 ∷ replicate 206 1))
      ++ every_byte 1)));
}

-- one state, labelled for rule 31, that every byte keeps; cells past it are not looked at
abbrev pub table_all : Table
table_all = record { count = 1; labels = 32 ∷ 99 ∷ []; targets = every_byte 0 ++ every_byte 99 }

-- a labelled start that `7` alone leads back to
abbrev pub table_sevens : Table
table_sevens = record { count = 2; labels = 1 ∷ 0 ∷ []; targets = replicate 55 1 ++ (0 ∷ replicate 200 1) ++ every_byte 1 }

-- no state; a label above 32; a target that is no state
abbrev pub table_none : Table
table_none = record { count = 0; labels = 1 ∷ []; targets = every_byte 0 }

abbrev pub table_label : Table
table_label = record { count = 1; labels = 33 ∷ []; targets = every_byte 0 }

abbrev pub table_target : Table
table_target = record { count = 1; labels = 1 ∷ []; targets = every_byte 1 }

-- ---- bytes of the texts, beside those of the worked lines

abbrev one : ℕ
one = 49

abbrev dot : ℕ
dot = 46

-- ---- the cuts

abbrev word : ℕ → ℕ → ℕ → Word
word start len rule = record { start = start; len = len; rule = rule }

-- records before a call, each another
abbrev old : ℕ → Word
old n = record { start = 900 + n; len = 800 + n; rule = 700 + n }

-- a lent table, a text and a place in it, records; the answer with count and place, and the records afterwards
pub data Line : Type 0 where
  line : Table → Text → ℕ → List Word → Result Ended Refusal → List Word → Line

unfoldable pub lines : List Line
lines =
    -- the sample's text; a record behind the words stays
    line table_w (t ∷ o ∷ space ∷ t ∷ o ∷ m ∷ space ∷ seven ∷ []) 0 (old 1 ∷ old 2 ∷ old 3 ∷ old 4 ∷ old 5 ∷ old 6 ∷ []) (Ok (Done 5))
    (word 0 2 0 ∷ word 2 1 3 ∷ word 3 3 1 ∷ word 6 1 3 ∷ word 7 1 2 ∷ old 6 ∷ []) ∷
    -- the longest word, not the first that has a label; the last labelled place, not where the walk died
    line table_w (t ∷ o ∷ m ∷ []) 0 (old 1 ∷ old 2 ∷ []) (Ok (Done 1)) (word 0 3 1 ∷ old 2 ∷ []) ∷
    line table_w (t ∷ seven ∷ []) 0 (old 1 ∷ old 2 ∷ []) (Ok (Done 2)) (word 0 1 1 ∷ word 1 1 2 ∷ []) ∷
    line table_ones (one ∷ dot ∷ dot ∷ []) 0 (old 1 ∷ old 2 ∷ []) (Ok (Stuck 1 1)) (word 0 1 0 ∷ old 2 ∷ []) ∷
    line table_ones (one ∷ dot ∷ one ∷ dot ∷ one ∷ []) 0 (old 1 ∷ old 2 ∷ []) (Ok (Stuck 1 3)) (word 0 3 1 ∷ old 2 ∷ []) ∷
    -- no record is free: Full where a word starts, Stuck where none does, Done where the text ends
    line table_w (t ∷ o ∷ []) 0 [] (Ok (Full 0 0)) [] ∷
    line table_w (hash ∷ []) 0 [] (Ok (Stuck 0 0)) [] ∷
    line table_w [] 0 [] (Ok (Done 0)) [] ∷
    line table_w (t ∷ o ∷ space ∷ seven ∷ []) 0 (old 1 ∷ old 2 ∷ []) (Ok (Full 2 3)) (word 0 2 0 ∷ word 2 1 3 ∷ []) ∷
    line table_w (t ∷ o ∷ hash ∷ []) 0 (old 1 ∷ []) (Ok (Stuck 1 2)) (word 0 2 0 ∷ []) ∷
    line table_w (t ∷ o ∷ []) 0 (old 1 ∷ []) (Ok (Done 1)) (word 0 2 0 ∷ []) ∷
    -- from a place on, which is the place in the whole text; at its end; past it
    line table_w (t ∷ o ∷ space ∷ t ∷ o ∷ m ∷ space ∷ seven ∷ []) 3 (old 1 ∷ old 2 ∷ []) (Ok (Full 2 7)) (word 3 3 1 ∷ word 6 1 3 ∷ []) ∷
    line table_w (t ∷ o ∷ hash ∷ []) 1 (old 1 ∷ old 2 ∷ []) (Ok (Stuck 1 2)) (word 1 1 1 ∷ old 2 ∷ []) ∷
    line table_w (t ∷ o ∷ []) 2 (old 1 ∷ []) (Ok (Done 0)) (old 1 ∷ []) ∷
    line table_w (t ∷ o ∷ []) 9 [] (Ok (Done 0)) [] ∷
    -- a rule that matches the empty text gives no empty word
    line table_sevens (seven ∷ seven ∷ []) 0 (old 1 ∷ old 2 ∷ []) (Ok (Done 1)) (word 0 2 0 ∷ old 2 ∷ []) ∷
    line table_sevens (seven ∷ hash ∷ []) 0 (old 1 ∷ old 2 ∷ []) (Ok (Stuck 1 1)) (word 0 1 0 ∷ old 2 ∷ []) ∷
    line table_sevens (hash ∷ []) 0 (old 1 ∷ []) (Ok (Stuck 0 0)) (old 1 ∷ []) ∷
    -- a label names the rule below it, however many rules the book has
    line table_all (t ∷ o ∷ []) 0 (old 1 ∷ []) (Ok (Done 1)) (word 0 2 31 ∷ []) ∷
    -- not well formed, whatever the text is
    line table_none (t ∷ o ∷ []) 0 (old 1 ∷ []) (Err Loaded) (old 1 ∷ []) ∷
    line table_none [] 0 [] (Err Loaded) [] ∷
    line table_label (t ∷ o ∷ []) 0 (old 1 ∷ []) (Err Loaded) (old 1 ∷ []) ∷
    line table_target (t ∷ o ∷ []) 9 (old 1 ∷ []) (Err Loaded) (old 1 ∷ []) ∷
    []

-- what a line states of the call on records, and what the call answers
abbrev pub stated_records : Line → Recorded
stated_records (line x text at before e after) = record { answer = ended e; records = after }

abbrev pub records_of : Line → Recorded
records_of (line x text at before e after) = cut_from_of x.count x.labels x.targets text at before

-- the same on the records' numbers, where two cells more are no record
abbrev pub stated_cells : Line → Laid
stated_cells (line x text at before e after) = record { answer = ended e; cells = numbers_of after ++ (8 ∷ 9 ∷ []) }

abbrev pub cells_of : Line → Laid
cells_of (line x text at before e after) = cut_cells_of x.count x.labels x.targets text at (numbers_of before ++ (8 ∷ 9 ∷ []))

pub worked_lines : (map records_of lines ≡ map stated_records lines) × (map cells_of lines ≡ map stated_cells lines)
unfolding lines well_formed all cut_by first_by scan flat flat_map
worked_lines = (refl, refl)

-- ---- the sample's lines P1 to P10 by the table of W

-- `to`, `tom`, `t`, `7`, a space, the empty text, `t7`
abbrev pub labelled : List Text
labelled = (t ∷ o ∷ []) ∷ (t ∷ o ∷ m ∷ []) ∷ (t ∷ []) ∷ (seven ∷ []) ∷ (space ∷ []) ∷ [] ∷ (t ∷ seven ∷ []) ∷ []

-- `t7`, `tom 7`, `#`
abbrev pub begun : List Text
begun = (t ∷ seven ∷ []) ∷ (t ∷ o ∷ m ∷ space ∷ seven ∷ []) ∷ (hash ∷ []) ∷ []

pub words_begun : map (first_by table_w) begun ≡ Found·word 1 1 ∷ Found·word 3 1 ∷ Found·stuck ∷ []
unfolding first_by scan
words_begun = refl

-- ---- dead states

abbrev pub dead_in : Table → ℕ
dead_in x = dead_of x.count x.labels x.targets

pub dead_found : (dead_in table_w ≡ 1) × (dead_in table_all ≡ 1)
unfolding dead_from dead keeps
dead_found = (refl, refl)
