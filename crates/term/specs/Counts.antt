-- What counting the nodes of a term asks and tells, and how the places that are still to be counted are listed in the cells above the top.
-- The list is never longer than `pending`, so that the cells past it stay as they were.
use Rattle.std.specs.Prelude.{ℕ, ◌+◌, ◌-◌, ◌<◌, ◌≤◌, ◌≡◌, Bool, List, get_or, drop}
use Rattle.number.specs.Limits.{tree_nodes}
use Rattle.meaning.specs.Re.{size}
use Rattle.meaning.specs.Limited.{short}
use Rattle.term.specs.Cells.{term, Sound}
use Rattle.term.specs.Area.{pending, Wasted, Room}
use Rattle.term.specs.Places.{ahead}

-- a term below top, and room for the list above it
pub record Countable (s : List ℕ) (top i : ℕ) : Type 0 where
  pub sound : Sound s top
  pub held : i < top
  pub room : Room s top pending

-- whether it is short; only the cells of the list have changed
pub record ShortTold (s : List ℕ) (top i : ℕ) (s' : List ℕ) (r : Bool) : Type 0 where
  pub is : r ≡ short (term s i)
  pub wasted : Wasted s top s' (top + pending)

-- on the way: the term at `at` is counted next, the places that wait stand in l from top to `end`, and `left` nodes more are allowed.
-- A node that is counted puts at most one place on the list, so that the list is never longer than `pending`
pub record Counting (s : List ℕ) (top i : ℕ) (l : List ℕ) (at end left : ℕ) : Type 0 where
  pub held : at < top
  pub up : top ≤ end
  pub few : end + left ≤ top + pending
  pub wasted : Wasted s top l (top + pending)
  pub low : (j : ℕ) → top ≤ j → j < end → get_or l j 0 < top
  pub counted : size (term s i) + left ≡ tree_nodes + ahead s (drop top l) (end - top) at
