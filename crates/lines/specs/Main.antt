-- The theorems on printed lines that are bought, together: how each line looks, that its numbers read back to what they were, and the room that a line takes.
-- To believe them, read Digits, Lines, Values and Sample, with number's Refused and Quoted. Each proof names its law, of ValueLaws or LineLaws.
use Rattle.std.specs.Prelude.{ℕ, ◌+◌, ◌*◌, ◌^◌, ◌<◌, ◌≤◌, ◌≡◌, refl, List, map, length}
use Rattle.std.proofs.Common.{arith}
use Rattle.number.specs.declared.Refusal.{Refusal}
use Rattle.number.specs.Refused.{number, place}
use Rattle.number.specs.Numbers.{Bytes}
use Rattle.number.specs.Quoted.{quoted}
use Rattle.lines.specs.Digits.{digits_by, decimal}
use Rattle.lines.specs.Lines.{item, word_line, done_line, stuck_line, refused_line, differs_line, hex_line, line_room}
use Rattle.lines.specs.Values.{DigitsOf, unhex}
use Rattle.lines.specs.Sample.{printed, stated, lines}
use Rattle.lines.specs.ValueLaws.{decimal_digits, hex_back}
use Rattle.lines.specs.LineLaws.{word_most, done_most, stuck_most, refused_most, differs_most, hex_length}

-- every kind of line, byte by byte
pub the_lines : map printed lines ≡ map stated lines
unfolding lines word_line done_line stuck_line refused_line differs_line hex_line item decimal digits_by quoted
the_lines = refl

-- a number's digits are digits from 0 to 9 that have its value, and no zero leads them; 0 is the one digit 0
pub the_decimals : (n : ℕ) → DigitsOf n (decimal n)
the_decimals = decimal_digits

-- a line of hexadecimal digits reads back to its text, and has two digits a byte and the line's end
pub the_hex : (text : List ℕ) → Bytes text → (unhex (hex_line text) ≡ text) × (length (hex_line text) ≡ 2 * length text + 1)
the_hex text all = (hex_back text all, hex_length text)

-- the room of a line holds it, whatever numbers of 64 bits stand in it
pub record Fits : Type 0 where
  pub is : line_room ≡ 100
  pub word : (a b c d : ℕ) → a < 2 ^ 64 → b < 2 ^ 64 → c < 2 ^ 64 → d < 2 ^ 64 → length (word_line a b c d) ≤ line_room
  pub done : (n : ℕ) → n < 2 ^ 64 → length (done_line n) ≤ line_room
  pub stuck : (n : ℕ) → n < 2 ^ 64 → length (stuck_line n) ≤ line_room
  pub refused : (r : Refusal) → number r < 2 ^ 64 → place r < 2 ^ 64 → length (refused_line r) ≤ line_room
  pub differs : (a b c : ℕ) → a < 2 ^ 64 → b < 2 ^ 64 → c < 2 ^ 64 → length (differs_line a b c) ≤ line_room

pub the_room : Fits
the_room =
    record {
      is = refl;
      word = λ a b c d ha hb hc hd. omega (arith, word_most 19 a b c d (omega arith) (omega arith) (omega arith) (omega arith));
      done = λ n h. omega (arith, done_most 19 n (omega arith));
      stuck = λ n h. omega (arith, stuck_most 19 n (omega arith));
      refused = λ r h g. omega (arith, refused_most 19 r (omega arith) (omega arith));
      differs = λ a b c ha hb hc. omega (arith, differs_most 19 a b c (omega arith) (omega arith) (omega arith));
    }
