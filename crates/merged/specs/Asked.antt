-- What the merge of two terms' members, by any operator that sorts them, asks of the work area and of the terms: the contracts are
-- stated with these. Every count of cells is of terms, so that a caller can add up its own.
use Rattle.std.specs.Prelude.{ℕ, ◌+◌, ◌-◌, ◌<◌, ◌≡◌, true, false, cond, ◌||◌, List}
use Rattle.meaning.specs.declared.Join.{Join}
use Rattle.meaning.specs.Re.{Re, is_nothing}
use Rattle.meaning.specs.Normal.{formed}
use Rattle.meaning.specs.Limited.{short}
use Rattle.meaning.specs.Shape.{InShape, Sorts}
use Rattle.term.specs.Cells.{term, Sound}
use Rattle.term.specs.Area.{pending, Room}
use Rattle.normal.specs.Asked.{members}

-- the cells that a merge uses: none where a side is Nothing, else fewer than it has members
unfoldable pub merge_cells : Join → Re → Re → ℕ
merge_cells k a b = cond (is_nothing a || is_nothing b) 0 (members k (formed k a b) - 1)

-- two terms to join, each of which fits
pub record Sides (k : Join) (s : List ℕ) (top a b : ℕ) : Type 0 where
  pub sorts : Sorts k
  pub sound : Sound s top
  pub left : a < top
  pub right : b < top
  pub left_shape : InShape (term s a)
  pub right_shape : InShape (term s b)
  pub left_short : short (term s a) ≡ true
  pub right_short : short (term s b) ≡ true
  pub room : Room s top (members k (term s a) + members k (term s b))

-- with room to count what comes of them
pub record CountedSides (k : Join) (s : List ℕ) (top a b : ℕ) : Type 0 where
  pub sides : Sides k s top a b
  pub count_room : Room s top (members k (term s a) + members k (term s b) + pending)

-- a term that goes into a merge: it fits, and is not Nothing
pub record Enters (s : List ℕ) (i : ℕ) : Type 0 where
  pub in_shape : InShape (term s i)
  pub is_short : short (term s i) ≡ true
  pub some : is_nothing (term s i) ≡ false

-- two of them, whose first members are to be compared
pub record Meets (k : Join) (s : List ℕ) (a b : ℕ) : Type 0 where
  pub sorts : Sorts k
  pub left_sound : Sound s (a + 1)
  pub right_sound : Sound s (b + 1)
  pub left : Enters s a
  pub right : Enters s b

-- two of them to merge
pub record Unites (k : Join) (s : List ℕ) (top a b : ℕ) : Type 0 where
  pub sorts : Sorts k
  pub sound : Sound s top
  pub left_held : a < top
  pub right_held : b < top
  pub left : Enters s a
  pub right : Enters s b
  pub room : Room s top (members k (term s a) + members k (term s b))
