-- A rule of a book by its number, and where it stands in the book's file: for the calls, the laws of ReadLawsPlaces and the code that walks a book.
-- Each place is the length of what is written before it.
use Rattle.std.specs.Prelude.{ℕ, ◌+◌, [], length, get_or, take}
use Rattle.number.specs.Numbers.{write_number}
use Rattle.book.specs.Book.{Rule, Book, write_rules}

-- rule i; past the last rule this stands for it, and nothing is claimed of it
abbrev pub no_rule : Rule
no_rule = record { kind = 0; nodes = [] }

abbrev pub rule_of : Book → ℕ → Rule
rule_of b i = get_or b.rules i no_rule

-- where rule i starts: after the version, the count and the rules before it
unfoldable pub rule_at : Book → ℕ → ℕ
rule_at b i = length (write_number b.version) + length (write_number (length b.rules)) + length (write_rules (take i b.rules))

-- where its first node starts: after its kind and its count
unfoldable pub nodes_at : Book → ℕ → ℕ
nodes_at b i = rule_at b i + length (write_number (rule_of b i).kind) + length (write_number (length (rule_of b i).nodes))
