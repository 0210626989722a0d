-- What check_book and rule_kind promise, for every input: one record a call, so that a proof reads its parts by name.
-- A refusal is promised twice: as the code's answer has it, and by the paper's number and place (`row_of`).
use Rattle.std.specs.Prelude.{ℕ, ◌≡◌, List, Option, Result}
use Rattle.std.proofs.Common.{ap}
use Rattle.number.specs.declared.Refusal.{Refusal}
use Rattle.number.specs.Refused.{row_of}
use Rattle.book.specs.Calls.{checked, check_of, kind_told, kind_of}

-- check_book, of the whole file
pub record Checks (file : List ℕ) (r : Result (ℕ × ℕ) Refusal) : Type 0 where
  pub answer : checked r ≡ check_of file
  pub row : row_of (checked r) ≡ row_of (check_of file)

-- rule_kind, of rule i
pub record TellsKind (file : List ℕ) (i : ℕ) (r : Result (Option ℕ) Refusal) : Type 0 where
  pub answer : kind_told r ≡ kind_of file i
  pub row : row_of (kind_told r) ≡ row_of (kind_of file i)

-- number and place go with the answer, so the code's proofs show the answer alone
pub checks : {file : List ℕ} {r : Result (ℕ × ℕ) Refusal} → checked r ≡ check_of file → Checks file r
checks e = record { answer = e; row = ap row_of e }

pub tells_kind : {file : List ℕ} {i : ℕ} {r : Result (Option ℕ) Refusal} → kind_told r ≡ kind_of file i → TellsKind file i r
tells_kind e = record { answer = e; row = ap row_of e }
