-- What the work area holds while a walk goes on: the pool, and the items in the order found, as walk has them.
-- `held_of` reads it off the cells; `Kept` says that the cells are in order, and `First` that they hold the terms of one vector and no item yet.
use Rattle.std.specs.Prelude.{ℕ, zero, suc, ◌+◌, ◌*◌, ◌<◌, ◌≤◌, ◌≡◌, true, cond, List, [], ◌∷◌, ◌++◌, eqb, length, get_or, take, drop}
use Rattle.number.specs.Limits.{rules, bytes, tree_nodes, work_cells}
use Rattle.meaning.specs.Re.{Text}
use Rattle.meaning.specs.Limited.{short}
use Rattle.meaning.specs.Shape.{InShape}
use Rattle.term.specs.Cells.{term}
use Rattle.pool.specs.Pooled.{terms_of, Pool}
use Rattle.pool.specs.Index.{pool_cells}
use Rattle.walk.specs.Parts.{with_vector}
use Rattle.walk.specs.Walk.{Item, Held}
use Rattle.vector.specs.Layout.{nothing_cell, vectors_at, sheets_at, parents_at, bytes_at, work_length}
use Rattle.vector.specs.Vectors.{vector_of, Numbers}

-- the 32 numbers of item k
abbrev pub numbers_at : List ℕ → ℕ → List ℕ
numbers_at s k = take rules (drop (vectors_at + k * rules) s)

-- the text of item k: that of the item it was found from, and the byte
unfoldable pub text_by : ℕ → List ℕ → ℕ → Text
text_by zero s k = []
text_by (suc f) s k = cond (eqb k 0) [] (text_by f s (get_or s (parents_at + k) 0) ++ (get_or s (bytes_at + k) 0 ∷ []))

abbrev pub text_of : List ℕ → ℕ → Text
text_of s k = text_by k s k

abbrev pub item_of : List ℕ → ℕ → ℕ → Item
item_of s n k = record { sheet = get_or s (sheets_at + k) 0; vector = vector_of s n (numbers_at s k); text = text_of s k }

unfoldable pub items_of : List ℕ → ℕ → ℕ → List Item
items_of s n zero = []
items_of s n (suc k) = items_of s n k ++ (item_of s n k ∷ [])

abbrev pub held_of : List ℕ → ℕ → ℕ → ℕ → Held
held_of s n top count = record { items = items_of s n count; pool = terms_of s top }

-- every term of the pool is in normal form and short
abbrev pub Shaped : List ℕ → ℕ → Type 0
Shaped s top = (i : ℕ) → i < top → InShape (term s i) × (short (term s i) ≡ true)

-- the cells are in order for n rules, a pool up to top, and count items
pub record Kept (s : List ℕ) (n top count : ℕ) : Type 0 where
  pub long : work_length ≤ length s
  pub small : length s ≤ work_cells
  pub few_rules : n ≤ rules
  pub pooled : Pool s top (terms_of s top)
  pub top_fits : top ≤ pool_cells
  pub shaped : Shaped s top
  pub nothing : get_or s nothing_cell 0 ≡ 0
  pub numbers : (k : ℕ) → k < count → Numbers n top (numbers_at s k)
  pub parents : (k : ℕ) → 0 < k → k < count → get_or s (parents_at + k) 0 < k
  pub text_bytes : (k : ℕ) → k < count → get_or s (bytes_at + k) 0 < bytes

-- the first n places of vector 0 stand in the pool with all their parts, and nothing else does; no item is held yet
pub record First (s : List ℕ) (n top : ℕ) (v : List ℕ) : Type 0 where
  pub kept : Kept s n top 0
  pub numbers : Numbers n top v
  pub holds : terms_of s top ≡ with_vector [] (vector_of s n v)
  pub few : top ≤ n * tree_nodes
