-- What the theorems of Main say of a text: that it can go on, that a line starts at a place, and which advice belongs to which refusal.
-- Only definitions. A rightly typed text, its wrong byte and its first line out of range are those of the crate typed.
use Rattle.std.specs.Prelude.{ℕ, ◌-◌, ◌≤◌, ◌<◌, ◌≡◌, List, [], ◌++◌, ◌⊎◌, length, get_or}
use Rattle.number.specs.declared.Refusal.{Refusal}
use Rattle.number.specs.declared.Refusal.TheVariants.{Range, Input, Typed}
use Rattle.number.specs.Limits.{rules_file}
use Rattle.meaning.specs.Re.{Text}
use Rattle.typed.specs.Lines.{RightlyTyped, WrongAt}
use Rattle.typed.specs.Bought.{FirstOut}
use Rattle.advised.specs.Advice.{newline, column_at, typed_advice, range_advice, no_rule, unread}

-- some rightly typed text begins with these bytes
pub record Begins (w : Text) : Type 0 where
  pub rest : Text
  pub goes_on : RightlyTyped (w ++ rest)

-- a line that starts there: at the text's start or behind a newline, and none stands between there and the end of these bytes
pub record StartOfLine (w : Text) (start : ℕ) : Type 0 where
  pub inside : start ≤ length w
  pub opens : (start ≡ 0) ⊎ ((1 ≤ start) × (get_or w (start - 1) 0 ≡ newline))
  pub unbroken : (i : ℕ) → start ≤ i → i < length w → get_or w i 0 ≡ newline → ⊥

-- what is told, by what is refused; a line out of range is told by its first column
pub data Told (text : Text) : Refusal → List ℕ → Type 0 where
  not_read : rules_file < length text → Told text Input unread
  wrong_byte : {p : ℕ} → WrongAt text p → Told text (Typed p) (typed_advice text p)
  no_rule_lem : text ≡ [] → Told text (Range 0) no_rule
  first_out : {p : ℕ} → FirstOut text p → column_at text p ≡ 1 → Told text (Range p) (range_advice text p)
