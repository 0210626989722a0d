-- Numbers as text: decimal digits without leading zeros, and two hexadecimal digits for a byte, each digit as its ASCII code.
-- Nothing here knows of lines; specs/Lines.antt puts them together.
use Rattle.std.specs.Prelude.{ℕ, zero, suc, ◌+◌, ◌/◌, ◌%◌, cond, List, [], ◌∷◌, ◌++◌, ltb}

-- a digit below sixteen: 0 to 9 stand from 48 on, a to f from 97 on
abbrev pub digit : ℕ → ℕ
digit d = cond (ltb d 10) (48 + d) (87 + d)

-- a number below ten is its one digit; any other is the digits of its tenth part, and then its last
-- (the first argument counts turns; a number never takes more turns than its own size)
unfoldable pub digits_by : ℕ → ℕ → List ℕ
digits_by zero n = digit n ∷ []
digits_by (suc turns) n = cond (ltb n 10) (digit n ∷ []) (digits_by turns (n / 10) ++ (digit (n % 10) ∷ []))

unfoldable pub decimal : ℕ → List ℕ
decimal n = digits_by n n

-- a byte, always in two digits
abbrev pub hex : ℕ → List ℕ
hex b = digit (b / 16) ∷ digit (b % 16) ∷ []
