-- When a file is no sheet, and at which place: what stands before the place is the beginning of a sheet, and what is due there is missing or wrong.
-- Nothing here reads a file: a beginning is told by the bytes that are written of it, and a number's own faults number's Faults tells.
use Rattle.std.specs.Prelude.{ℕ, ◌+◌, ◌-◌, ◌*◌, ◌≤◌, ◌<◌, ◌≡◌, List, [], ◌∷◌, ◌++◌, length, get_or}
use Rattle.number.specs.declared.Refusal.{Refusal}
use Rattle.number.specs.declared.Refusal.TheVariants.{Tail, Runs}
use Rattle.number.specs.Limits.{sheet_version, rules, states, bytes}
use Rattle.number.specs.Numbers.{write_number}
use Rattle.number.specs.Faults.{FieldFault}
use Rattle.table.specs.Table.{Table}
use Rattle.table.specs.Sheet.{Run, write_runs, write_sheet}
use Rattle.table.specs.Formed.{Formed, covered, Proper, Below}

-- a table of which the first states are there and one at least is missing; what is there is as in a formed table
pub record Begun (t : Table) : Type 0 where
  pub some : 1 ≤ t.count
  pub most : t.count ≤ states
  pub labelled : length t.labels < t.count
  pub filled : length t.targets ≡ length t.labels * bytes
  pub label : (i : ℕ) → i < length t.labels → get_or t.labels i 0 ≤ rules
  pub target : (i : ℕ) → i < length t.targets → get_or t.targets i 0 < t.count

-- its next state, with label l and m runs, of which the first are there: they do not cover more than a row
pub record InState (t : Table) (l m : ℕ) (rs : List Run) : Type 0 where
  pub begun : Begun t
  pub label : l ≤ rules
  pub some : 1 ≤ m
  pub most : m ≤ bytes
  pub proper : Proper rs
  pub below : Below t.count rs
  pub fits : covered rs ≤ bytes

abbrev pub state_bytes : Table → ℕ → ℕ → List Run → List ℕ
state_bytes t l m rs = write_sheet t ++ write_number l ++ write_number m ++ write_runs rs

-- behind these bytes a number is due, from the first limit to the second: a version, a state count, a label, a run count, a length, a target
pub data Due : List ℕ → ℕ → ℕ → Type 0 where
  due_version : Due [] sheet_version sheet_version
  due_count : Due (write_number sheet_version) 1 states
  due_label : (t : Table) → Begun t → Due (write_sheet t) 0 rules
  due_runs : (t : Table) (l : ℕ) → Begun t → l ≤ rules → Due (write_sheet t ++ write_number l) 1 bytes
  due_length : (t : Table) (l m : ℕ) (rs : List Run) → InState t l m rs → length rs < m → Due (state_bytes t l m rs) 1 bytes
  due_target : (t : Table) (l m : ℕ) (rs : List Run) (len : ℕ) → InState t l m rs → length rs < m → 1 ≤ len → covered rs + len ≤ bytes
      → Due (state_bytes t l m rs ++ write_number len) 0 (t.count - 1)

-- the faults of a file, each with its refusal; `rest` is what follows, whatever it is
pub data Fault (file : List ℕ) (r : Refusal) : Type 0 where
  -- a number that is due is not there: its own refusal at its first byte
  number : (w rest : List ℕ) (lo hi : ℕ) → Due w lo hi → file ≡ w ++ rest → FieldFault file lo hi (length w) r → Fault file r
  -- a sum passes 256: at the length, whatever follows it
  passes : (t : Table) (l m : ℕ) (rs : List Run) (len : ℕ) (rest : List ℕ) → InState t l m rs → length rs < m → len ≤ bytes
      → bytes < covered rs + len → file ≡ state_bytes t l m rs ++ write_number len ++ rest → r ≡ Runs (length (state_bytes t l m rs)) → Fault file r
  -- equal neighbours: at the second target
  equal : (t : Table) (l m : ℕ) (front : List Run) (q : Run) (len : ℕ) (rest : List ℕ) → InState t l m (front ++ (q ∷ []))
      → length (front ++ (q ∷ [])) < m → 1 ≤ len → covered (front ++ (q ∷ [])) + len ≤ bytes
      → file ≡ state_bytes t l m (front ++ (q ∷ [])) ++ write_number len ++ write_number q.target ++ rest
      → r ≡ Runs (length (state_bytes t l m (front ++ (q ∷ [])) ++ write_number len)) → Fault file r
  -- a sum below 256: at the byte after the state, whatever follows, and also where nothing does
  low : (t : Table) (l m : ℕ) (rs : List Run) (rest : List ℕ) → InState t l m rs → length rs ≡ m → covered rs < bytes
      → file ≡ state_bytes t l m rs ++ rest → r ≡ Runs (length (state_bytes t l m rs)) → Fault file r
  -- bytes behind a whole sheet: at the first of them
  tail : (t : Table) (x : ℕ) (rest : List ℕ) → Formed t → file ≡ write_sheet t ++ (x ∷ rest) → r ≡ Tail (length (write_sheet t)) → Fault file r
