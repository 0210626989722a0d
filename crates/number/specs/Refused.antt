-- What each refusal means on paper: its number and its place, as the table of numbered refusals has them; 14 and 15 come from document 02.
-- Also the answer of a reader: what it got and the place after it, or why it refused.
use Rattle.std.specs.Prelude.{ℕ}
use Rattle.number.specs.declared.Refusal.{Refusal}
use Rattle.number.specs.declared.Refusal.TheVariants.{Short, Number, Range, Stack, Tail, Long, Pool, States, Runs, Loaded, Room, Pairs, Input, Typed, Padded}

-- the number in the first column
abbrev pub number : Refusal → ℕ
number (Short at) = 1
number (Number at) = 2
number (Range at) = 3
number (Stack at) = 4
number (Tail at) = 5
number (Long at) = 6
number (Pool at) = 7
number (States at) = 8
number (Runs at) = 9
number Loaded = 10
number Room = 11
number (Pairs at) = 12
number Input = 13
number (Typed at) = 14
number (Padded at) = 15

-- the place in the last column
abbrev pub place : Refusal → ℕ
place (Short at) = at
place (Number at) = at
place (Range at) = at
place (Stack at) = at
place (Tail at) = at
place (Long at) = at
place (Pool at) = at
place (States at) = at
place (Runs at) = at
place Loaded = 0
place Room = 0
place (Pairs at) = at
place Input = 0
place (Typed at) = at
place (Padded at) = at

-- what reading at a place answers: something and the place after it, or a refusal
pub data Answer (A : Type 0) : Type 0 where
  got : A → ℕ → Answer A
  refused : Refusal → Answer A

-- what a whole call answers: what it gives, or a refusal
pub data Outcome (A : Type 0) : Type 0 where
  gives : A → Outcome A
  refuses : Refusal → Outcome A

-- what the table says of an answer: the number of a row and the place that goes with it, or that it is no refusal
pub data Row : Type 0 where
  no_row : Row
  row : ℕ → ℕ → Row

abbrev pub row_of : {A : Type 0} → Outcome A → Row
row_of (gives x) = no_row
row_of (refuses r) = row (number r) (place r)

-- the same of a reader's answer
abbrev pub row_read : {A : Type 0} → Answer A → Row
row_read (got x next) = no_row
row_read (refused r) = row (number r) (place r)
