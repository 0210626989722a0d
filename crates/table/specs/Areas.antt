-- What load, build and write answer, and what stands in lent memory after them, told by what is in front of an area, what is behind it and how long it is.
-- load and build fill a table area alike, so that what a filled, an emptied and an unchanged one are is said here once for both; an area as it was is marked ₀.
use Rattle.std.specs.Prelude.{ℕ, ◌-◌, ◌*◌, ◌≡◌, Ok, Err, List, length, take, drop, replicate}
use Rattle.number.specs.declared.Refusal.{Refusal}
use Rattle.number.specs.Limits.{bytes}
use Rattle.number.specs.Refused.{number, place, row_of}
use Rattle.number.specs.Refused.Row.{row}
use Rattle.number.specs.Refused.Outcome.{gives, refuses}
use Rattle.table.specs.Table.{Table}
use Rattle.table.specs.Calls.{counted, wrote, Filled, Output}

-- the code's answers: a count is given as it is, and a refusal is its row of the table
pub record Answers : Type 0 where
  pub counts : (n : ℕ) → counted (Ok n) ≡ gives n
  pub written : (n : ℕ) → wrote (Ok n) ≡ gives n
  pub uncounted : (r : Refusal) → row_of (counted (Err r)) ≡ row (number r) (place r)
  pub unwritten : (r : Refusal) → row_of (wrote (Err r)) ≡ row (number r) (place r)

-- an area with n cells of a table in front: every other cell is 0, and there are as many cells as before
pub record Holds (n : ℕ) (cells before after : List ℕ) : Type 0 where
  pub front : take n after ≡ cells
  pub behind : drop n after ≡ replicate (length before - n) 0
  pub long : length after ≡ length before

-- a table was put into the table area: its count is the answer, its first cells are the table's, and the cells of further states are 0
pub record LeavesTable (labels₀ targets₀ : List ℕ) (t : Table) (x : Filled) : Type 0 where
  pub answer : x.answer ≡ gives t.count
  pub labels : Holds t.count t.labels labels₀ x.labels
  pub targets : Holds (t.count * bytes) t.targets targets₀ x.targets

-- a refusal that is not Room: it is the answer, and both parts of the table area are all 0
pub record LeavesZeros (labels₀ targets₀ : List ℕ) (r : Refusal) (x : Filled) : Type 0 where
  pub answer : x.answer ≡ refuses r
  pub labels : x.labels ≡ replicate (length labels₀) 0
  pub targets : x.targets ≡ replicate (length targets₀) 0

-- Room, which is row 11 at place 0: both parts of the table area are as before
pub record LeavesAll (labels₀ targets₀ : List ℕ) (x : Filled) : Type 0 where
  pub answer : row_of x.answer ≡ row 11 0
  pub labels : x.labels ≡ labels₀
  pub targets : x.targets ≡ targets₀

-- bytes were put at the front of the output: their number is the answer, and what stood behind them stays
pub record WritesFront (sheet out₀ : List ℕ) (x : Output) : Type 0 where
  pub answer : x.answer ≡ gives (length sheet)
  pub front : take (length sheet) x.out ≡ sheet
  pub behind : drop (length sheet) x.out ≡ drop (length sheet) out₀
  pub long : length x.out ≡ length out₀

-- nothing was written: row n of the refusals at place 0 is the answer, and the output is as before
pub record WritesNone (n : ℕ) (out₀ : List ℕ) (x : Output) : Type 0 where
  pub answer : row_of x.answer ≡ row n 0
  pub out : x.out ≡ out₀
