-- What read_number and read_field promise, for every input: one record a call, so that a proof reads its parts by name.
-- A refusal is promised twice: as the code's enum has it, and by the paper's number and place (`row_read`).
use Rattle.std.specs.Prelude.{ℕ, ◌≡◌, List, Result}
use Rattle.std.proofs.Common.{ap}
use Rattle.number.specs.declared.Refusal.{Refusal}
use Rattle.number.specs.declared.Grouped.{Grouped}
use Rattle.number.specs.Refused.{row_read}
use Rattle.number.specs.Numbers.{taken, read_number, groups_read, field}

-- read_number, from a place of a file: what is read or refused there, and of how many groups
pub record ReadsNumber (s : List ℕ) (at : ℕ) (r : Grouped) : Type 0 where
  pub answer : taken r.taken ≡ read_number s at
  pub groups : r.groups ≡ groups_read s at
  pub row : row_read (taken r.taken) ≡ row_read (read_number s at)

-- read_field, a number from lo to hi
pub record ReadsField (s : List ℕ) (lo hi at : ℕ) (r : Result (ℕ × ℕ) Refusal) : Type 0 where
  pub answer : taken r ≡ field s lo hi at
  pub row : row_read (taken r) ≡ row_read (field s lo hi at)

-- number and place go with the answer, so the code's proofs show the answer, and groups where they are told
pub reads_number : {s : List ℕ} {at : ℕ} {r : Grouped} → taken r.taken ≡ read_number s at → r.groups ≡ groups_read s at → ReadsNumber s at r
reads_number e g = record { answer = e; groups = g; row = ap row_read e }

pub reads_field : {s : List ℕ} {lo hi at : ℕ} {r : Result (ℕ × ℕ) Refusal} → taken r ≡ field s lo hi at → ReadsField s lo hi at r
reads_field e = record { answer = e; row = ap row_read e }
