-- Laws of writing a table, for the code that works out a sheet's length and then writes it: what each step adds.
-- States first, with how long they can get, then the sheet; their rows are the crate rows'.
use Rattle.std.specs.Prelude.{ℕ, ◌+◌, ◌-◌, ◌*◌, ◌≤◌, ◌<◌, ◌≡◌, List, [], ◌∷◌, ◌++◌, length, get_or, take, drop}
use Rattle.std.proofs.Common.{drop_of_length-le, length-take}
use native.Mathlib.Omega.{arith}
use Rattle.std.proofs.Math.ListN.{length-append}
use Rattle.std.proofs.Math.Seq.{drop-drop}
use Rattle.number.specs.Limits.{sheet_version, bytes}
use Rattle.number.specs.Numbers.{write_number}
use Rattle.number.proofs.NumberLaws.{width_most}
use Rattle.number.specs.Lists.{drop_one, Writes, writes_none, writes_then}
use Rattle.table.specs.Table.{Table}
use Rattle.table.specs.Sheet.{write_row, write_states, write_sheet}
use Rattle.runs.specs.RowLaws.{row_short}

-- ---- states

module _ (labels targets : List ℕ) (i : ℕ) where
  pub states_end : length labels ≤ i → write_states (drop i labels) (drop (i * bytes) targets) ≡ []
  unfolding write_states
  states_end h = rw (drop_of_length-le labels h)

  -- a state's row, as the code takes it
  abbrev pub row : List ℕ
  row = take (i * bytes + bytes - i * bytes) (drop (i * bytes) targets)

  pub states_cons : i < length labels
      → write_states (drop i labels) (drop (i * bytes) targets)
      ≡ write_number (get_or labels i 0) ++ (write_row row ++ write_states (drop (i + 1) labels) (drop ((i + 1) * bytes) targets))
  unfolding write_states
  states_cons h =
      let next : (i + 1) * bytes ≡ i * bytes + bytes = omega arith in
      let width : i * bytes + bytes - i * bytes ≡ bytes = omega arith in
      rw (drop_one labels i h, write_states, drop-drop, next, width)

  pub states_some : i < length labels
      → length (write_states (drop i labels) (drop (i * bytes) targets))
      ≡ length (write_number (get_or labels i 0)) + length (write_row row)
      + length (write_states (drop (i + 1) labels) (drop ((i + 1) * bytes) targets))
  states_some h = rw (states_cons h) (simp length-append (omega arith))

  pub states_written_none : (s : List ℕ) (at : ℕ) → length labels ≤ i
      → Writes (write_states (drop i labels) (drop (i * bytes) targets)) s s at at
  states_written_none s at h = rw (states_end h) (writes_none s at)

  -- a state's label, its row, and the states behind it
  pub states_written : {s s1 s2 s3 : List ℕ} {at mid next last : ℕ} → i < length labels
      → at ≤ length s → mid ≤ length s1 → Writes (write_number (get_or labels i 0)) s s1 at mid
      → Writes (write_row row) s1 s2 mid next
      → Writes (write_states (drop (i + 1) labels) (drop ((i + 1) * bytes) targets)) s2 s3 next last
      → Writes (write_states (drop i labels) (drop (i * bytes) targets)) s s3 at last
  states_written h m n a b d = rw (states_cons h) (writes_then m a (writes_then n b d))

-- how long states can get
pub states_short : (labels targets : List ℕ) → length (write_states labels targets) ≤ (3 + (3 + 6 * bytes)) * length labels
unfolding write_states
states_short [] targets = omega arith
states_short (l ∷ ls) targets =
    simp length-append
    (omega (arith, width_most l, row_short (take bytes targets), length-take bytes targets, states_short ls (drop bytes targets)))

-- ---- the sheet

-- a table by its cells alone
abbrev pub whole : List ℕ → List ℕ → Table
whole labels targets = record { count = length labels; labels = labels; targets = targets }

module _ (labels targets : List ℕ) where
  pub sheet_is : length (write_sheet (whole labels targets))
      ≡ length (write_number sheet_version) + length (write_number (length labels)) + length (write_states labels targets)
  unfolding write_sheet
  sheet_is = simp length-append (omega arith)

  -- the version, the count of states, and the states
  pub sheet_written : {s s1 s2 s3 : List ℕ} {at mid next last : ℕ} → at ≤ length s → mid ≤ length s1
      → Writes (write_number sheet_version) s s1 at mid → Writes (write_number (length labels)) s1 s2 mid next
      → Writes (write_states labels targets) s2 s3 next last
      → Writes (write_sheet (whole labels targets)) s s3 at last
  unfolding write_sheet
  sheet_written h k a b d = writes_then h a (writes_then k b d)
