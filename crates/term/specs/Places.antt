-- Places listed in the first n cells of a list, of which the last listed comes first: their terms, and how many nodes are still to come.
-- So a term is gone through: the place at hand, and those that wait.
use Rattle.std.specs.Prelude.{ℕ, zero, suc, ◌+◌, ◌/◌, ◌<◌, ◌≤◌, ◌≡◌, List, [], ◌∷◌, length, get_or}
use Rattle.number.specs.Limits.{tree_nodes}
use Rattle.meaning.specs.Re.{Re, size, sizes}
use Rattle.term.specs.Cells.{term}

-- the terms of the places in the first n cells of l, the last one first; f tells the term of a place
unfoldable pub terms_at : (ℕ → Re) → List ℕ → ℕ → List Re
terms_at f l zero = []
terms_at f l (suc n) = f (get_or l n 0) ∷ terms_at f l n

-- the nodes that are to come, of the term at hand and of those whose places wait
abbrev pub ahead : List ℕ → List ℕ → ℕ → ℕ → ℕ
ahead s l n at = size (term s at) + sizes (terms_at (term s) l n)

-- room for the places that wait while a short term is gone through: for each a node was seen, and one is still to be seen
abbrev pub most_waiting : ℕ
most_waiting = (tree_nodes + 1) / 2

-- the first n places of such a list are used, and no cell in them is above i
pub record Listed (l : List ℕ) (n i : ℕ) : Type 0 where
  pub long : length l ≡ most_waiting
  pub low : (k : ℕ) → k < n → get_or l k 0 ≤ i
