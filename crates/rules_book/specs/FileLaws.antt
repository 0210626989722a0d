-- What the promise of rules_book says of a file that is too long, and of any other.
-- A longer text is refused before it is looked at; the room that is asked for is the room that typing asks for.
use Rattle.std.specs.Prelude.{ℕ, ◌≤◌, ◌<◌, ◌≡◌, List, length, Result}
use Rattle.std.proofs.Common.{ap}
use borrow.Author.Tests.{lt-ltb, le-ltb}
use Rattle.number.specs.Limits.{rules_file, typed_area}
use Rattle.number.specs.Refused.{row_of}
use Rattle.number.specs.Refused.Row.{row}
use Rattle.number.specs.declared.Refusal.{Refusal}
use Rattle.table.specs.Calls.{wrote}
use Rattle.typed.specs.Calls.{type_of}
use Rattle.rules_book.specs.Print.{rules_bytes, MakesBook}

module _ (text out : List ℕ) (r : Result ℕ Refusal) (out' : List ℕ) (b : MakesBook text out r out') where
  pub long_refused : rules_file < length text → (row_of (wrote r) ≡ row 13 0) × (out' ≡ out)
  unfolding rules_bytes
  long_refused h =
      let z = lt-ltb rules_file (length text) h in
      (ap row_of (rw z at b.answer), rw z at b.output)

  pub short_typed : typed_area ≤ length out → length text ≤ rules_file → (wrote r ≡ (type_of text out).answer) × (out' ≡ (type_of text out).out)
  unfolding rules_bytes
  short_typed room h =
      let z = le-ltb rules_file (length text) h in
      let y = le-ltb (length out) typed_area room in
      (rw y (rw z at b.answer), rw y (rw z at b.output))
