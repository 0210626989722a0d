-- The sample book W: its 36 bytes, what they read as, and that its rules are the row that the worked lines are about; the same as a book of version 2.
-- The checker computes each equation.
use Rattle.std.specs.Prelude.{ℕ, ◌≡◌, refl, List, [], ◌∷◌, length, drop}
use Rattle.number.specs.Numbers.{due, several, read_number, within, field, write_number}
use Rattle.number.specs.Refused.Answer.{got}
use Rattle.meaning.specs.Sample.{W}
use Rattle.book.specs.declared.Node.{Node}
use Rattle.book.specs.declared.Node.TheVariants.{Range, Cat, Star}
use Rattle.book.specs.Book.{Book, allowed, write_node, write_nodes, write_rule, write_rules, write_book}
use Rattle.book.specs.Reads.{read_range, read_after, read_node, more_nodes, more_rules, book, read_book}
use Rattle.book.specs.Expression.{stacked, run_nodes, meant}

unfoldable pub w_bytes : List ℕ
w_bytes =
    0x01 ∷ 0x04 ∷
    0x01 ∷ 0x03 ∷ 0x02 ∷ 0x74 ∷ 0x74 ∷ 0x02 ∷ 0x6F ∷ 0x6F ∷ 0x03 ∷
    0x02 ∷ 0x04 ∷ 0x02 ∷ 0x61 ∷ 0x7A ∷ 0x02 ∷ 0x61 ∷ 0x7A ∷ 0x05 ∷ 0x03 ∷
    0x03 ∷ 0x04 ∷ 0x02 ∷ 0x30 ∷ 0x39 ∷ 0x02 ∷ 0x30 ∷ 0x39 ∷ 0x05 ∷ 0x03 ∷
    0x00 ∷ 0x01 ∷ 0x02 ∷ 0x20 ∷ 0x20 ∷
    []

abbrev one_or_more : ℕ → ℕ → List Node
one_or_more lo hi = Range lo hi ∷ Range lo hi ∷ Star ∷ Cat ∷ []

unfoldable pub w_book : Book
w_book = record {
  version = 1;
  rules =
      record { kind = 1; nodes = Range 116 116 ∷ Range 111 111 ∷ Cat ∷ [] } ∷
      record { kind = 2; nodes = one_or_more 97 122 } ∷
      record { kind = 3; nodes = one_or_more 48 57 } ∷
      record { kind = 0; nodes = Range 32 32 ∷ [] } ∷
      [];
}

pub w_length : length w_bytes ≡ 36
unfolding w_bytes
w_length = refl

pub w_reads : read_book w_bytes ≡ got w_book 36
unfolding w_bytes w_book book more_rules more_nodes read_node read_after read_range allowed field within read_number several due
w_reads = refl

pub w_writes : write_book w_book ≡ w_bytes
unfolding w_bytes w_book write_book write_rules write_rule write_nodes write_node write_number
w_writes = refl

pub w_means : meant w_book ≡ W
unfolding w_book run_nodes stacked
w_means = refl

-- the same rules in a book of version 2
unfoldable pub w_second_bytes : List ℕ
w_second_bytes = 0x02 ∷ drop 1 w_bytes

unfoldable pub w_second_book : Book
w_second_book = record { version = 2; rules = w_book.rules }

pub w_second_length : length w_second_bytes ≡ 36
unfolding w_second_bytes w_bytes
w_second_length = refl

pub w_second_reads : read_book w_second_bytes ≡ got w_second_book 36
unfolding w_second_bytes w_bytes w_second_book w_book book more_rules more_nodes read_node read_after read_range allowed field within read_number several due
w_second_reads = refl

pub w_second_writes : write_book w_second_book ≡ w_second_bytes
unfolding w_second_bytes w_bytes w_second_book w_book write_book write_rules write_rule write_nodes write_node write_number
w_second_writes = refl

pub w_second_means : meant w_second_book ≡ W
unfolding w_second_book w_book run_nodes stacked
w_second_means = refl
