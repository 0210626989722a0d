-- What derive asks of the work area and of its term, how many cells it may use, and what it leaves: its contract is stated with these.
-- A derivative uses at most one cell more than most_members a node of its term, and above these what counting uses.
use Rattle.std.specs.Prelude.{ℕ, ◌+◌, ◌-◌, ◌*◌, ◌<◌, ◌≡◌, Bool, true, cond, ◌&&◌, ◌||◌, List, Option, leb, eqb}
use Rattle.meaning.specs.declared.Join.{Join}
use Rattle.meaning.specs.declared.Join.TheVariants.{Or, Both}
use Rattle.meaning.specs.Re.{Re, size}
use Rattle.meaning.specs.Normal.{cat, negated}
use Rattle.meaning.specs.Derive.{nullable}
use Rattle.meaning.specs.Limited.{Fit, short, fit, deriv_fit}
use Rattle.meaning.specs.Limited.Fit.{Fits}
use Rattle.meaning.specs.Shape.{InShape}
use Rattle.term.specs.declared.Term.{Term}
use Rattle.term.specs.declared.Term.TheVariants.{Nothing, Empty, Range, Cat, Alt, And, Not}
use Rattle.term.specs.declared.Built.{Built}
use Rattle.term.specs.Cells.{term, Sound}
use Rattle.term.specs.Area.{pending, Room}
use Rattle.term.specs.Nodes.{kind_of, first_of, second_of, arity_of}
use Rattle.normal.specs.Made.{MadeBy}
use Rattle.normal.specs.Asked.{most_members, cat_cells}

-- the cells that it asks for, with those for counting, and the cells that it uses
unfoldable pub deriv_room : Re → ℕ
deriv_room r = (most_members + 1) * size r + pending

unfoldable pub deriv_cells : Re → ℕ
deriv_cells r = (most_members + 1) * size r - most_members

-- a held term to derive
pub record Derives (s : List ℕ) (top i : ℕ) : Type 0 where
  pub sound : Sound s top
  pub held : i < top
  pub in_shape : InShape (term s i)
  pub is_short : short (term s i) ≡ true
  pub room : Room s top (deriv_room (term s i))

-- what a term without parts leaves after a byte: only a range leaves something, where the byte lies in it
abbrev pub leaf_left : Term → ℕ → Term
leaf_left u byte = cond (eqb (kind_of u) (kind_of (Range 0 0)) && (leb (first_of u) byte && leb byte (second_of u))) Empty Nothing

-- what stands behind a node's first part: the second one, or where there is none the node itself
abbrev pub rest_of : Term → ℕ → ℕ
rest_of u i = cond (eqb (arity_of u) 1) i (second_of u)

-- whether the derivative goes to both sides and leaves nothing behind the first: in an Alt and in an And
abbrev pub sided : ℕ → Bool
sided kind = eqb kind (kind_of (Alt 0 0)) || eqb kind (kind_of (And 0 0))

-- by the node's kind: its first part's derivative v, in a Not turned, else with the rest y behind it; and the cells that this uses
abbrev pub rest_fit : ℕ → Re → Re → Fit
rest_fit kind v y = cond (sided kind) (Fits v) (cond (eqb kind (kind_of (Not 0))) (fit (negated v)) (fit (cat v y)))

abbrev pub rest_cells : ℕ → Re → Re → ℕ
rest_cells kind v y = cond (sided kind) 0 (cond (eqb kind (kind_of (Not 0))) 1 (cat_cells v y))

-- whether the second side's derivative is joined to that: also in a Cat, where the first part x matches the empty text
abbrev pub both_sides : ℕ → Re → Bool
both_sides kind x = cond (eqb kind (kind_of (Cat 0 0))) (nullable x) (sided kind)

-- and how: in an And both at once, else as a choice
abbrev pub join_of : ℕ → Join
join_of kind = cond (eqb kind (kind_of (And 0 0))) Both Or

-- what with_rest leaves, and what derive does
abbrev pub Rested : List ℕ → ℕ → ℕ → ℕ → ℕ → List ℕ → Option Built → Type 0
Rested s top kind da rest s' r = MadeBy s top s' r (rest_fit kind (term s da) (term s rest)) (rest_cells kind (term s da) (term s rest))

abbrev pub Derived : List ℕ → ℕ → ℕ → ℕ → List ℕ → Option Built → Type 0
Derived s top i byte s' r = MadeBy s top s' r (deriv_fit byte (term s i)) (deriv_cells (term s i))
