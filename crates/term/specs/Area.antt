-- How the work area grows: what a function that stores nodes leaves as it was, and what it has made.
-- These records are the contracts of every function that builds terms.
use Rattle.std.specs.Prelude.{ℕ, ◌+◌, ◌<◌, ◌≤◌, ◌≡◌, List, length, get_or}
use Rattle.number.specs.Limits.{tree_nodes}
use Rattle.meaning.specs.Re.{Re}
use Rattle.term.specs.Cells.{term, Sound}

-- the cells above the top that counting a term may use: one place for each node that may be counted
abbrev pub pending : ℕ
pending = tree_nodes

-- cells below top, and from `end` on, are as they were; what lies between is waste
pub record Wasted (s : List ℕ) (top : ℕ) (s' : List ℕ) (end : ℕ) : Type 0 where
  pub same_length : length s' ≡ length s
  pub kept_below : (i : ℕ) → i < top → get_or s' i 0 ≡ get_or s i 0
  pub kept_above : (i : ℕ) → end ≤ i → get_or s' i 0 ≡ get_or s i 0

-- cells below the old top, and from so many above the new top on, are as they were; all below the new top are sound
pub record GrownFree (free : ℕ) (s : List ℕ) (top : ℕ) (s' : List ℕ) (top' : ℕ) : Type 0 where
  pub up : top ≤ top'
  pub same_length : length s' ≡ length s
  pub kept_below : (i : ℕ) → i < top → get_or s' i 0 ≡ get_or s i 0
  pub kept_above : (i : ℕ) → top' + free ≤ i → get_or s' i 0 ≡ get_or s i 0
  pub sound : Sound s' top'

-- where no cell above the new top has changed
abbrev pub Grown : List ℕ → ℕ → List ℕ → ℕ → Type 0
Grown s top s' top' = GrownFree 0 s top s' top'

-- so many cells more fit
abbrev pub Room : List ℕ → ℕ → ℕ → Type 0
Room s top more = top + more ≤ length s

-- the term v stands in cell root, made with at most `more` cells
pub record MakesFree (free : ℕ) (s : List ℕ) (top : ℕ) (s' : List ℕ) (root top' : ℕ) (v : Re) (more : ℕ) : Type 0 where
  pub grown : GrownFree free s top s' top'
  pub within : root < top'
  pub is : term s' root ≡ v
  pub few : top' ≤ top + more

-- where no cell above the new top has changed
abbrev pub Makes : List ℕ → ℕ → List ℕ → ℕ → ℕ → Re → ℕ → Type 0
Makes s top s' root top' v more = MakesFree 0 s top s' root top' v more
