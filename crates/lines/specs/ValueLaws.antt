-- What is printed reads back: decimal digits have the number's value and no leading zero, and a line of hexadecimal digits has the text's bytes.
-- One induction over the digits of a number, from the last to the first, serves all that is said of decimals.
use Rattle.std.specs.Prelude.{ℕ, zero, suc, ◌+◌, ◌*◌, ◌-◌, ◌/◌, ◌%◌, ◌<◌, ◌≤◌, ◌≡◌, refl, List, [], ◌∷◌, ◌++◌, get_or}
use Rattle.std.proofs.Math.Decide.{dec_lt}
use Rattle.std.proofs.Common.{arith, ◌∙◌, lt-ltb, le-ltb}
use Rattle.number.specs.Limits.{bytes}
use Rattle.number.specs.Numbers.{Bytes}
use Rattle.lines.specs.Digits.{digit, decimal}
use Rattle.lines.specs.Lines.{hex_line}
use Rattle.lines.specs.DigitLaws.{decimal_low, decimal_high}
use Rattle.lines.specs.Values.{value_from, EachDigit, DigitsOf, hex_value, unhex}

-- ---- decimals

-- what holds of one digit, and of a number's digits if of those of its tenth part, holds of every number's
by_digits : (P : ℕ → List ℕ → Type 0) → ((n : ℕ) → n < 10 → P n (digit n ∷ []))
    → ((n : ℕ) (w : List ℕ) → 10 ≤ n → P (n / 10) w → P n (w ++ (digit (n % 10) ∷ [])))
    → (k n : ℕ) → n ≤ k → P n (decimal n)
by_digits P low high zero n h = rw (decimal_low n (omega arith)) (low n (omega arith))
by_digits P low high (suc k) n h =
    elim (dec_lt n 10) [
      | yes few ↦ rw (decimal_low n few) (low n few)
      | no more ↦
          let some : 10 ≤ n = omega arith in
          rw (decimal_high n some) (high n (decimal (n / 10)) some (by_digits P low high k (n / 10) (omega arith)))
    ]

digit_low : (d : ℕ) → d < 10 → digit d ≡ 48 + d
digit_low d h = simp (lt-ltb d 10 h)

value_last : (before : ℕ) (w : List ℕ) (d : ℕ) → value_from before (w ++ (d ∷ [])) ≡ 10 * value_from before w + (d - 48)
unfolding value_from
value_last before [] d = refl
value_last before (x ∷ w) d = value_last (10 * before + (x - 48)) w d

each_last : (w : List ℕ) (d : ℕ) → EachDigit w → 48 ≤ d → d ≤ 57 → EachDigit (w ++ (d ∷ []))
each_last [] d all h k = (h, k, tt)
each_last (x ∷ w) d all h k = (all.0, all.1, each_last w d all.2 h k)

first_kept : (w : List ℕ) (d : ℕ) → 49 ≤ get_or w 0 0 → 49 ≤ get_or (w ++ (d ∷ [])) 0 0
first_kept [] d h = absurd (omega arith)
first_kept (x ∷ w) d h = h

pub decimal_digits : (n : ℕ) → DigitsOf n (decimal n)
unfolding value_from
decimal_digits n = by_digits DigitsOf low high n n (omega arith)
  where
    low : (m : ℕ) → m < 10 → DigitsOf m (digit m ∷ [])
    low m h =
        rw (digit_low m h)
        (record { value = omega arith; each = (omega arith, omega arith, tt); first = λ k. omega arith; nought = λ z. rw z refl })

    high : (m : ℕ) (w : List ℕ) → 10 ≤ m → DigitsOf (m / 10) w → DigitsOf m (w ++ (digit (m % 10) ∷ []))
    high m w h before =
        let small : m % 10 < 10 = omega arith in
        rw (digit_low (m % 10) small)
        (record {
          value = value_last 0 w (48 + m % 10) ∙ omega (arith, before.value);
          each = each_last w (48 + m % 10) before.each (omega arith) (omega arith);
          first = λ k. first_kept w (48 + m % 10) (before.first (omega arith));
          nought = λ z. absurd (omega arith);
        })

-- ---- hexadecimal

digit_back : (d : ℕ) → d < 16 → hex_value (digit d) ≡ d
digit_back d h =
    elim (dec_lt d 10) [
      | yes few ↦
          let code : 48 + d < 58 = omega arith in
          simp (lt-ltb d 10 few, lt-ltb (48 + d) 58 code) (omega arith)
      | no more ↦
          let some : 10 ≤ d = omega arith in
          let code : 58 ≤ 87 + d = omega arith in
          simp (le-ltb d 10 some, le-ltb (87 + d) 58 code) (omega arith)
    ]

byte_back : (b : ℕ) → b < bytes → 16 * hex_value (digit (b / 16)) + hex_value (digit (b % 16)) ≡ b
byte_back b h =
    let high : b / 16 < 16 = omega arith in
    let low : b % 16 < 16 = omega arith in
    rw (digit_back (b / 16) high, digit_back (b % 16) low) (omega arith)

pub hex_back : (text : List ℕ) → Bytes text → unhex (hex_line text) ≡ text
unfolding unhex hex_line
hex_back [] all = refl
hex_back (b ∷ text) all =
    let rest : unhex (hex_line text) ≡ text = hex_back text (λ i h. all (suc i) (omega arith)) in
    rw (byte_back b (all 0 (omega arith)), rest) refl
