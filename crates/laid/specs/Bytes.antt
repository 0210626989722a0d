-- The bytes of laid nodes, by their cells: what the writers put out.
-- ByteLaws shows that they are the bytes of the nodes, for every node that can be typed.
use Rattle.std.specs.Prelude.{ℕ, ◌/◌, ◌%◌, cond, List, [], ◌∷◌, ◌++◌, eqb}
use Rattle.number.specs.Limits.{code_range}
use Rattle.number.specs.Numbers.{write_number}

-- a code; and a range's bounds, which stand above it
unfoldable pub cell_bytes : ℕ → List ℕ
cell_bytes x = write_number (x % 8) ++ cond (eqb (x % 8) code_range) (write_number (x / 8 / 256) ++ write_number (x / 8 % 256)) []

unfoldable pub cells_bytes : List ℕ → List ℕ
cells_bytes [] = []
cells_bytes (x ∷ xs) = cell_bytes x ++ cells_bytes xs
