-- Text read back as numbers, for the theorems on what is printed: the value of decimal digits, and the bytes of hexadecimal ones.
-- Nothing is printed by these; Main says that what is printed reads back to what it was printed of.
use Rattle.std.specs.Prelude.{ℕ, ◌+◌, ◌*◌, ◌-◌, ◌≤◌, ◌≡◌, cond, List, [], ◌∷◌, ltb, get_or}

-- the value of digits that follow digits of a value: each is worth ten of the next
unfoldable pub value_from : ℕ → List ℕ → ℕ
value_from before [] = before
value_from before (d ∷ w) = value_from (10 * before + (d - 48)) w

-- each is a digit from 0 to 9
abbrev pub EachDigit : List ℕ → Type 0
EachDigit [] = Unit
EachDigit (d ∷ w) = (48 ≤ d) × (d ≤ 57) × EachDigit w

-- what the digits of a number are: digits that have its value, and no zero leads them; the number 0 is its one digit
pub record DigitsOf (n : ℕ) (w : List ℕ) : Type 0 where
  pub value : value_from 0 w ≡ n
  pub each : EachDigit w
  pub first : 1 ≤ n → 49 ≤ get_or w 0 0
  pub nought : n ≡ 0 → w ≡ 48 ∷ []

-- the value of a hexadecimal digit, and the bytes of a line of them, two digits a byte
abbrev pub hex_value : ℕ → ℕ
hex_value d = cond (ltb d 58) (d - 48) (d - 87)

unfoldable pub unhex : List ℕ → List ℕ
unhex [] = []
unhex (x ∷ []) = []
unhex (x ∷ y ∷ w) = (16 * hex_value x + hex_value y) ∷ unhex w
