-- A vector by value is 32 numbers of cells; of a book with n rules the first n count, and the places past them hold Nothing's cell.
-- Its terms are those of its first n numbers.
use Rattle.std.specs.Prelude.{ℕ, ◌<◌, ◌≤◌, ◌≡◌, List, map, length, get_or, take}
use Rattle.number.specs.Limits.{rules}
use Rattle.meaning.specs.Re.{Re}
use Rattle.term.specs.Cells.{term}
use Rattle.vector.specs.Layout.{nothing_cell}

-- the terms of a vector
abbrev pub vector_of : List ℕ → ℕ → List ℕ → List Re
vector_of s n numbers = map (term s) (take n numbers)

-- numbers below top in the first n places, Nothing's cell in the others
pub record Numbers (n top : ℕ) (numbers : List ℕ) : Type 0 where
  pub whole : length numbers ≡ rules
  pub inside : (i : ℕ) → i < n → get_or numbers i 0 < top
  pub past : (i : ℕ) → n ≤ i → i < rules → get_or numbers i 0 ≡ nothing_cell
