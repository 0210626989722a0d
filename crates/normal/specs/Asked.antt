-- What the builders ask of the work area and of the terms in it, and how many cells each may use: their contracts are stated with these.
-- Every count is of terms, so that a caller can add up its own.
use Rattle.std.specs.Prelude.{ℕ, ◌+◌, ◌/◌, ◌<◌, Bool, cond, ◌||◌, List, length}
use Rattle.number.specs.Limits.{tree_nodes}
use Rattle.meaning.specs.declared.Join.{Join}
use Rattle.meaning.specs.declared.Join.TheVariants.{Then}
use Rattle.meaning.specs.Re.{Re, is_nothing, is_empty}
use Rattle.meaning.specs.Normal.{gathered}
use Rattle.term.specs.Cells.{term, Sound}
use Rattle.term.specs.Area.{pending, Room}

-- the members of a term, and the most that a short one can have
abbrev pub members : Join → Re → ℕ
members k r = length (gathered k r)

abbrev pub most_members : ℕ
most_members = (tree_nodes + 1) / 2

-- what cat answers without a new node
abbrev pub plain : Re → Bool
plain r = is_nothing r || is_empty r

-- the cells that cat uses: none where a side is Nothing or Empty, else one a member of the first side
unfoldable pub cat_cells : Re → Re → ℕ
cat_cells a b = cond (plain a || plain b) 0 (members Then a)

-- two terms to put one after the other
pub record Links (s : List ℕ) (top a b : ℕ) : Type 0 where
  pub sound : Sound s top
  pub left : a < top
  pub right : b < top
  pub room : Room s top (members Then (term s a))

-- and with room to count what comes of it
pub record CountedLinks (s : List ℕ) (top a b : ℕ) : Type 0 where
  pub links : Links s top a b
  pub count_room : Room s top (members Then (term s a) + pending)
