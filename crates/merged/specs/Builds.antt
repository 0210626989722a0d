-- What the merge of two terms leaves in the work area: the contracts' second half.
-- A term in normal form is made of terms in normal form; nothing below the old top changes.
use Rattle.std.specs.Prelude.{ℕ, ◌-◌, List, Option}
use Rattle.meaning.specs.declared.Join.{Join}
use Rattle.meaning.specs.Normal.{formed}
use Rattle.meaning.specs.Limited.{fit}
use Rattle.meaning.specs.Shape.{united}
use Rattle.term.specs.Cells.{term}
use Rattle.term.specs.Area.{Makes}
use Rattle.term.specs.declared.Built.{Built}
use Rattle.normal.specs.Made.{MadeBy}
use Rattle.normal.specs.Asked.{members}
use Rattle.merged.specs.Asked.{merge_cells}

-- the members of two terms, merged: one node a member at most, and none for the last
abbrev pub United : Join → List ℕ → ℕ → ℕ → ℕ → List ℕ → Built → Type 0
United k s top a b s' r =
    Makes s top s' r.root r.top (united k (term s a) (term s b)) (members k (united k (term s a) (term s b)) - 1)

-- two terms joined, in normal form
abbrev pub Merged : Join → List ℕ → ℕ → ℕ → ℕ → List ℕ → Built → Type 0
Merged k s top a b s' r = Makes s top s' r.root r.top (formed k (term s a) (term s b)) (merge_cells k (term s a) (term s b))

-- the same, with the limit
abbrev pub MergedFits : Join → List ℕ → ℕ → ℕ → ℕ → List ℕ → Option Built → Type 0
MergedFits k s top a b s' r = MadeBy s top s' r (fit (formed k (term s a) (term s b))) (merge_cells k (term s a) (term s b))
