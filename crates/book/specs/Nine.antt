-- A third sample book, of version 2, with all nine nodes: a note from `/*` to the first `*/`; words other than `if`; `i` in either case, or the empty text.
-- Its bytes, what they read as and what its rules mean; the checker computes each equation.
use Rattle.std.specs.Prelude.{ℕ, ◌≡◌, refl, List, [], ◌∷◌, length}
use Rattle.number.specs.Numbers.{due, several, read_number, within, field, write_number}
use Rattle.number.specs.Refused.Answer.{got}
use Rattle.meaning.specs.Re.{Re}
use Rattle.book.specs.declared.Node.TheVariants.{Nothing, Empty, Range, Cat, Alt, Star, Either, And, Not}
use Rattle.book.specs.Book.{Book, allowed, write_node, write_nodes, write_rule, write_rules, write_book}
use Rattle.book.specs.Reads.{read_range, read_either, read_after, read_node, more_nodes, more_rules, book, read_book}
use Rattle.book.specs.Expression.{stacked, run_nodes, meant}

unfoldable pub nine_bytes : List ℕ
nine_bytes =
    0x02 ∷ 0x03 ∷
    0x05 ∷ 0x12 ∷ 0x02 ∷ 0x2F ∷ 0x2F ∷ 0x02 ∷ 0x2A ∷ 0x2A ∷ 0x03 ∷
    0x02 ∷ 0x00 ∷ 0xFF ∷ 0x01 ∷ 0x05 ∷ 0x02 ∷ 0x2A ∷ 0x2A ∷ 0x02 ∷ 0x2F ∷ 0x2F ∷ 0x03 ∷ 0x02 ∷ 0x00 ∷ 0xFF ∷ 0x01 ∷ 0x05 ∷ 0x03 ∷ 0x03 ∷ 0x08 ∷ 0x03 ∷
    0x02 ∷ 0x2A ∷ 0x2A ∷ 0x02 ∷ 0x2F ∷ 0x2F ∷ 0x03 ∷ 0x03 ∷
    0x02 ∷ 0x09 ∷ 0x02 ∷ 0x61 ∷ 0x7A ∷ 0x02 ∷ 0x61 ∷ 0x7A ∷ 0x05 ∷ 0x03 ∷ 0x02 ∷ 0x69 ∷ 0x69 ∷ 0x02 ∷ 0x66 ∷ 0x66 ∷ 0x03 ∷ 0x08 ∷ 0x07 ∷
    0x00 ∷ 0x06 ∷ 0x06 ∷ 0x69 ∷ 0x01 ∷ 0x04 ∷ 0x00 ∷ 0x08 ∷ 0x07 ∷
    []

unfoldable pub nine_book : Book
nine_book = record {
  version = 2;
  rules =
      record {
        kind = 5;
        nodes =
            Range 47 47 ∷ Range 42 42 ∷ Cat ∷
            Range 0 255 ∷ Star ∷ Range 42 42 ∷ Range 47 47 ∷ Cat ∷ Range 0 255 ∷ Star ∷ Cat ∷ Cat ∷ Not ∷ Cat ∷
            Range 42 42 ∷ Range 47 47 ∷ Cat ∷ Cat ∷ [];
      } ∷
      record { kind = 2; nodes = Range 97 122 ∷ Range 97 122 ∷ Star ∷ Cat ∷ Range 105 105 ∷ Range 102 102 ∷ Cat ∷ Not ∷ And ∷ [] } ∷
      record { kind = 0; nodes = Either 105 ∷ Empty ∷ Alt ∷ Nothing ∷ Not ∷ And ∷ [] } ∷
      [];
}

-- of the two terms of an And the first is the one that was written first
unfoldable pub nine_rules : List Re
nine_rules =
    Re.Cat
    (Re.Cat (Re.Cat (Re.Range 47 47) (Re.Range 42 42))
    (Re.Not (Re.Cat (Re.Star (Re.Range 0 255)) (Re.Cat (Re.Cat (Re.Range 42 42) (Re.Range 47 47)) (Re.Star (Re.Range 0 255))))))
    (Re.Cat (Re.Range 42 42) (Re.Range 47 47)) ∷
    Re.And (Re.Cat (Re.Range 97 122) (Re.Star (Re.Range 97 122))) (Re.Not (Re.Cat (Re.Range 105 105) (Re.Range 102 102))) ∷
    Re.And (Re.Alt (Re.Alt (Re.Range 73 73) (Re.Range 105 105)) Re.Empty) (Re.Not Re.Nothing) ∷
    []

pub nine_length : length nine_bytes ≡ 68
unfolding nine_bytes
nine_length = refl

pub nine_reads : read_book nine_bytes ≡ got nine_book 68
unfolding nine_bytes nine_book book more_rules more_nodes read_node read_after read_range read_either allowed field within read_number several due
nine_reads = refl

pub nine_writes : write_book nine_book ≡ nine_bytes
unfolding nine_bytes nine_book write_book write_rules write_rule write_nodes write_node write_number
nine_writes = refl

pub nine_means : meant nine_book ≡ nine_rules
unfolding nine_book nine_rules run_nodes stacked
nine_means = refl
