-- What the public call promises, for every text and every area; and the same past the test for room.
-- Both are the equations of Calls.antt in the crate typed; the call tells a refusal by the paper's number and place too (`row_of`).
use Rattle.std.specs.Prelude.{ℕ, ◌≤◌, ◌≡◌, List, length, Result}
use Rattle.number.specs.Limits.{typed_area}
use Rattle.number.specs.Refused.{row_of}
use Rattle.number.specs.declared.Refusal.{Refusal}
use Rattle.table.specs.Calls.{wrote}
use Rattle.typed.specs.Calls.{book_bytes, put_book, type_of}

-- type_rules: its answer, and the output as it was and is
pub record Types (text out : List ℕ) (r : Result ℕ Refusal) (out' : List ℕ) : Type 0 where
  pub answer : wrote r ≡ (type_of text out).answer
  pub row : row_of (wrote r) ≡ row_of (type_of text out).answer
  pub output : out' ≡ (type_of text out).out

-- the same where the output has room
pub record Given (text out : List ℕ) (r : Result ℕ Refusal) (out' : List ℕ) : Type 0 where
  pub answer : wrote r ≡ (put_book out (book_bytes text)).answer
  pub output : out' ≡ (put_book out (book_bytes text)).out

-- memory that is large enough
pub record Ready (book out : List ℕ) : Type 0 where
  pub book_is : length book ≡ typed_area
  pub room : typed_area ≤ length out
