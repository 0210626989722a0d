-- What the theorems of Main say of the call of comparing: when it has room, and what it answers and leaves, told in lists.
-- Only definitions.
use Rattle.std.specs.Prelude.{ℕ, ◌-◌, ◌<◌, ◌≤◌, ◌≡◌, List, ◌⊎◌, ◌↔◌, length, take, drop, replicate}
use Rattle.number.specs.declared.Refusal.{Refusal}
use Rattle.number.specs.Limits.{shown_text}
use Rattle.number.specs.Numbers.{Bytes}
use Rattle.number.specs.Refused.{row_of}
use Rattle.number.specs.Refused.Outcome.{gives, refuses}
use Rattle.meaning.specs.Re.{Re, Text}
use Rattle.table.specs.Table.{Table}
use Rattle.walk.specs.Passing.{WithinLimits, Limits}
use Rattle.vector.specs.Layout.{work_length}
use Rattle.verdict.specs.Calls.{Comparison}
use Rattle.verdict.specs.Calls.Told.{same, differs}
use Rattle.verdict.specs.Demand.{WholeAlike, Differ, held_pairs}

-- the text area and the work area have their full size, or one of them has not
pub record Roomy (area work : List ℕ) : Type 0 where
  pub for_text : shown_text ≤ length area
  pub for_work : work_length ≤ length work

abbrev pub Short : List ℕ → List ℕ → Type 0
Short area work = (length area < shown_text) ⊎ (length work < work_length)

-- after a refusal, but Room: both areas all 0, as long as they were
pub record Refuses (r : Refusal) (area work : List ℕ) (c : Comparison) : Type 0 where
  pub is_refused : c.answer ≡ refuses r
  pub text_blank : c.text ≡ replicate (length area) 0
  pub work_blank : c.work ≡ replicate (length work) 0

-- after Differs: the n bytes at the front of the area are the shown text, with these labels, and the rest of it is 0; the area is as long as it was
pub record Shows (rs : List Re) (t : Table) (n x y : ℕ) (area text : List ℕ) : Type 0 where
  pub enough : length (take n text) ≡ n
  pub differ : Differ rs t (take n text) x y
  pub rest : drop n text ≡ replicate (length area - n) 0
  pub whole : length text ≡ length area

-- whatever the call answers of a book that is read and a table, it is right, and what is right is answered
pub record Answered (rs : List Re) (t : Table) (area work : List ℕ) (c : Comparison) : Type 0 where
  -- demand 3: Same exactly where every text is cut alike, if no limit is passed; the text area is then all 0
  pub is_same : (c.answer ≡ gives same) ↔ (WithinLimits (held_pairs rs t) × ((text : Text) → Bytes text → WholeAlike rs t text))
  pub same_text : c.answer ≡ gives same → c.text ≡ replicate (length area) 0
  -- Differs only with a text that shows it, and of every text that does
  pub differs_text : (n x y : ℕ) → c.answer ≡ gives (differs n x y) → Shows rs t n x y area c.text
  pub is_differs : (text : Text) (x y : ℕ) → WithinLimits (held_pairs rs t) → Differ rs t text x y → c.answer ≡ gives (differs (length text) x y)
  -- a refusal is that of a limit which the walk met
  pub limits : Limits (held_pairs rs t) (row_of c.answer)
  pub refused_text : (r : Refusal) → c.answer ≡ refuses r → c.text ≡ replicate (length area) 0
  -- whatever it answers
  pub work_blank : c.work ≡ replicate (length work) 0

-- two differences are one: the shown text and both labels are the same
pub record OneText (u v : Text) (x y z w : ℕ) : Type 0 where
  pub one_text : u ≡ v
  pub one_book : x ≡ z
  pub one_table : y ≡ w
