-- How the work area is laid out: the pool with the scratch above it, a cell that holds Nothing, and what is known of each held item.
-- src/layout.rt holds the same numbers for the code. The length is the one that build and compare ask for.
use Rattle.std.specs.Prelude.{ℕ, ◌+◌, ◌*◌}
use Rattle.number.specs.Limits.{rules, pairs, scratch}
use Rattle.pool.specs.Index.{pool_cells}

-- so many items are held at most: the pairs of a comparison, and its entry
abbrev pub items : ℕ
items = pairs + 1

-- above the pool and the scratch, a cell that always holds Nothing: what the places past the last rule hold
abbrev pub nothing_cell : ℕ
nothing_cell = pool_cells + scratch

-- of each item: its 32 numbers, its sheet state, the item it was found from and the byte
abbrev pub vectors_at : ℕ
vectors_at = nothing_cell + rules

abbrev pub sheets_at : ℕ
sheets_at = vectors_at + items * rules

abbrev pub parents_at : ℕ
parents_at = sheets_at + items

abbrev pub bytes_at : ℕ
bytes_at = parents_at + items

-- the length of the work area
abbrev pub work_length : ℕ
work_length = bytes_at + items
