-- Members nested to the right, as the links of a chain and the members of a choice or of an And are: what their list above the top asks, and what is made of it.
-- A list is of numbers of terms below the top, one a cell; the nodes take its place.
use Rattle.std.specs.Prelude.{ℕ, zero, suc, ◌+◌, ◌-◌, ◌<◌, ◌≤◌, ◌≡◌, Bool, List, eqb, length, get_or}
use Rattle.meaning.specs.declared.Join.{Join}
use Rattle.meaning.specs.declared.Join.TheVariants.{Then, Or, Both}
use Rattle.meaning.specs.Re.{Re}
use Rattle.meaning.specs.Normal.{joined}
use Rattle.term.specs.declared.Term.{Term}
use Rattle.term.specs.declared.Built.{Built}
use Rattle.term.specs.declared.Term.TheVariants.{Cat, Alt, And}
use Rattle.term.specs.Cells.{term, Sound}
use Rattle.term.specs.Nodes.{kind_of}
use Rattle.term.specs.Area.{Wasted, Makes}

-- the node that joins a member to the rest, and whether a node is one
abbrev pub join_node : Join → ℕ → ℕ → Term
join_node Then a b = Cat a b
join_node Or a b = Alt a b
join_node Both a b = And a b

abbrev pub joins_node : Join → Term → Bool
joins_node k u = eqb (kind_of u) (kind_of (join_node k 0 0))

-- the terms of s whose numbers stand in the first n cells of l from top on, each joined to all after it, and the last to r
unfoldable pub nested : Join → List ℕ → List ℕ → ℕ → ℕ → Re → Re
nested k s l top zero r = r
nested k s l top (suc n) r = nested k s l top n (joined k (term s (get_or l (top + n) 0)) r)

-- ---- listing

-- on the way to the term v: l lists the members so far in the cells from top to end, and w is to follow them
pub record Listing (k : Join) (s : List ℕ) (top : ℕ) (l : List ℕ) (end : ℕ) (v w : Re) : Type 0 where
  pub up : top ≤ end
  pub low : (j : ℕ) → top ≤ j → j < end → get_or l j 0 < top
  pub wasted : Wasted s top l end
  pub is : nested k s l top (end - top) w ≡ v

-- a list, and the number of what is to follow it
pub record Lists (s : List ℕ) (top end tail : ℕ) : Type 0 where
  pub sound : Sound s top
  pub up : top ≤ end
  pub room : end ≤ length s
  pub low : (j : ℕ) → top ≤ j → j < end → get_or s j 0 < top
  pub held : tail < top

-- ---- turning a list around

pub record Turned (s : List ℕ) (top end : ℕ) (s' : List ℕ) : Type 0 where
  pub wasted : Wasted s top s' end
  pub turned : (j : ℕ) → top ≤ j → j < end → get_or s' j 0 ≡ get_or s (top + end - 1 - j) 0

-- ---- nesting

-- one node a member, in the cells of the list
pub record Nests (k : Join) (s : List ℕ) (top end tail : ℕ) (s' : List ℕ) (r : Built) : Type 0 where
  pub after : r.top ≡ end
  pub makes : Makes s top s' r.root r.top (nested k s s top (end - top) (term s tail)) (end - top)

-- on the way: what is nested stands in cell root, and the members from `at` on, the last of them first, are to come before it
pub record Nesting (k : Join) (s : List ℕ) (top end tail : ℕ) (l : List ℕ) (at root : ℕ) : Type 0 where
  pub up : top ≤ at
  pub inside : at ≤ end
  pub sound : Sound l at
  pub wasted : Wasted s top l end
  pub turned : (j : ℕ) → at ≤ j → j < end → get_or l j 0 ≡ get_or s (top + end - 1 - j) 0
  pub within : root < at
  pub is : nested k s s top (end - at) (term l root) ≡ nested k s s top (end - top) (term s tail)
