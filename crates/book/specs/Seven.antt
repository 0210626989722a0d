-- A second sample book, with all seven nodes of version 1, bounds above 127, operands in an order that shows, kinds of two groups and a kind that two rules share.
-- Its bytes, what they read as and what its rules mean; the checker computes each equation.
use Rattle.std.specs.Prelude.{ℕ, ◌≡◌, refl, List, [], ◌∷◌, length}
use Rattle.number.specs.Numbers.{due, several, read_number, within, field, write_number}
use Rattle.number.specs.Refused.Answer.{got}
use Rattle.meaning.specs.Re.{Re}
use Rattle.book.specs.declared.Node.TheVariants.{Nothing, Empty, Range, Cat, Alt, Star, Either}
use Rattle.book.specs.Book.{Book, allowed, write_node, write_nodes, write_rule, write_rules, write_book}
use Rattle.book.specs.Reads.{read_range, read_either, read_after, read_node, more_nodes, more_rules, book, read_book}
use Rattle.book.specs.Expression.{stacked, run_nodes, meant}

-- the letters of `if` in either case; digits and bytes from 128 on, none or more; the byte 200 behind nothing; `a`, or `b` and then `c`s; any byte
unfoldable pub seven_bytes : List ℕ
seven_bytes =
    0x01 ∷ 0x05 ∷
    0xAC ∷ 0x02 ∷ 0x03 ∷ 0x06 ∷ 0x69 ∷ 0x06 ∷ 0x66 ∷ 0x03 ∷
    0x07 ∷ 0x04 ∷ 0x02 ∷ 0x80 ∷ 0x01 ∷ 0xFF ∷ 0x01 ∷ 0x02 ∷ 0x30 ∷ 0x39 ∷ 0x04 ∷ 0x05 ∷
    0xAC ∷ 0x02 ∷ 0x05 ∷ 0x01 ∷ 0x00 ∷ 0x04 ∷ 0x02 ∷ 0xC8 ∷ 0x01 ∷ 0xC8 ∷ 0x01 ∷ 0x03 ∷
    0x00 ∷ 0x06 ∷ 0x02 ∷ 0x61 ∷ 0x61 ∷ 0x02 ∷ 0x62 ∷ 0x62 ∷ 0x02 ∷ 0x63 ∷ 0x63 ∷ 0x05 ∷ 0x03 ∷ 0x04 ∷
    0xFF ∷ 0x7F ∷ 0x01 ∷ 0x02 ∷ 0x00 ∷ 0xFF ∷ 0x01 ∷
    []

unfoldable pub seven_book : Book
seven_book = record {
  version = 1;
  rules =
      record { kind = 300; nodes = Either 105 ∷ Either 102 ∷ Cat ∷ [] } ∷
      record { kind = 7; nodes = Range 128 255 ∷ Range 48 57 ∷ Alt ∷ Star ∷ [] } ∷
      record { kind = 300; nodes = Empty ∷ Nothing ∷ Alt ∷ Range 200 200 ∷ Cat ∷ [] } ∷
      record { kind = 0; nodes = Range 97 97 ∷ Range 98 98 ∷ Range 99 99 ∷ Star ∷ Cat ∷ Alt ∷ [] } ∷
      record { kind = 16383; nodes = Range 0 255 ∷ [] } ∷
      [];
}

-- of an Either the capital's range comes first, and of two terms the one that was written first
unfoldable pub seven_rules : List Re
seven_rules =
    Re.Cat (Re.Alt (Re.Range 73 73) (Re.Range 105 105)) (Re.Alt (Re.Range 70 70) (Re.Range 102 102)) ∷
    Re.Star (Re.Alt (Re.Range 128 255) (Re.Range 48 57)) ∷
    Re.Cat (Re.Alt Re.Empty Re.Nothing) (Re.Range 200 200) ∷
    Re.Alt (Re.Range 97 97) (Re.Cat (Re.Range 98 98) (Re.Star (Re.Range 99 99))) ∷
    Re.Range 0 255 ∷
    []

pub seven_length : length seven_bytes ≡ 55
unfolding seven_bytes
seven_length = refl

pub seven_reads : read_book seven_bytes ≡ got seven_book 55
unfolding seven_bytes seven_book book more_rules more_nodes read_node read_after read_range read_either allowed field within read_number several due
seven_reads = refl

pub seven_writes : write_book seven_book ≡ seven_bytes
unfolding seven_bytes seven_book write_book write_rules write_rule write_nodes write_node write_number
seven_writes = refl

pub seven_means : meant seven_book ≡ seven_rules
unfolding seven_book seven_rules run_nodes stacked
seven_means = refl
