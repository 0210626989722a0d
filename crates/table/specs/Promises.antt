-- What the calls well_formed, load and write_sheet promise, for every input: one record a call, so that a proof reads its parts by name.
-- They say what Table and Calls say, a refusal by the paper's number and place too (`row_of`); load and write_sheet stand in the crates loading and writing.
use Rattle.std.specs.Prelude.{ℕ, ◌≤◌, ◌<◌, ◌≡◌, Result, Bool, List, get_or}
use Rattle.number.specs.declared.Refusal.{Refusal}
use Rattle.number.specs.Refused.{row_of}
use Rattle.table.specs.Table.{well_formed}
use Rattle.table.specs.Calls.{counted, wrote, load_of, write_of}

-- well_formed: a test, which refuses nothing
pub record Tests (s : ℕ) (l t : List ℕ) (r : Bool) : Type 0 where
  pub answer : r ≡ well_formed s l t

-- load: its answer, and both parts of the table area as they were (l, t) and are (l', t')
pub record Loads (file l t l' t' : List ℕ) (r : Result ℕ Refusal) : Type 0 where
  pub answer : counted r ≡ (load_of file l t).answer
  pub row : row_of (counted r) ≡ row_of (load_of file l t).answer
  pub labels : l' ≡ (load_of file l t).labels
  pub targets : t' ≡ (load_of file l t).targets

-- write_sheet: its answer, and the output as it was (o) and is (o')
pub record WritesSheet (s : ℕ) (l t o o' : List ℕ) (r : Result ℕ Refusal) : Type 0 where
  pub answer : wrote r ≡ (write_of s l t o).answer
  pub row : row_of (wrote r) ≡ row_of (write_of s l t o).answer
  pub out : o' ≡ (write_of s l t o).out

-- run_end: a run of one target starts at `from`; `stop` is where it ends, or `end`
pub record RunTo (targets : List ℕ) (from end stop : ℕ) : Type 0 where
  pub onward : from < stop
  pub within : stop ≤ end
  pub alike : (d : ℕ) → from ≤ d → d < stop → get_or targets d 0 ≡ get_or targets from 0
  pub other : stop < end → get_or targets stop 0 ≡ get_or targets from 0 → ⊥
