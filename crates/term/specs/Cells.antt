-- A term in the work area: one cell a node, its kind and two fields, a range's bounds or the numbers of the cells of its children, which are
-- below its own: a term is read off by going down. A cell has a bit too, whether its term matches the empty text, and a link to another cell.
use Rattle.std.specs.Prelude.{ℕ, zero, suc, ◌+◌, ◌*◌, ◌/◌, ◌%◌, ◌<◌, ◌≤◌, ◌≡◌, Bool, cond, List, eqb, length, get_or}
use Rattle.number.specs.Limits.{last_byte, work_cells}
use Rattle.meaning.specs.Re.{Re}
use Rattle.meaning.specs.Derive.{nullable}
use Rattle.term.specs.declared.Term.{Term}
use Rattle.term.specs.declared.Term.TheVariants.{Nothing, Empty, Range, Cat, Alt, Star, And, Not}

-- what a field can hold: any number of a cell
abbrev pub field_size : ℕ
field_size = work_cells

-- the kinds' places in a cell, as in the order of terms
abbrev pub kind_size : ℕ
kind_size = 8

abbrev pub first : ℕ → ℕ
first cell = cell / kind_size % field_size

abbrev pub second : ℕ → ℕ
second cell = cell / (kind_size * field_size) % field_size

-- the places of the link and of the bit
abbrev pub link_place : ℕ
link_place = kind_size * field_size * field_size

abbrev pub bit_place : ℕ
bit_place = link_place * field_size

-- a cell by its kind, its two fields, its link and its bit
abbrev pub packed : ℕ → ℕ → ℕ → ℕ → ℕ → ℕ
packed kind a b link bit = kind + kind_size * a + kind_size * field_size * b + link_place * link + bit_place * bit

-- the link in a cell, and what its bit says
unfoldable pub link_of : ℕ → ℕ
link_of cell = cell / link_place % field_size

unfoldable pub empty_of : ℕ → Bool
empty_of cell = eqb (cell / bit_place % 2) 1

-- the node of a kind over two fields
abbrev pub rebuilt : ℕ → ℕ → ℕ → Term
rebuilt kind a b =
    cond (eqb kind 1) Empty
    (cond (eqb kind 2) (Range a b)
    (cond (eqb kind 3) (Cat a b)
    (cond (eqb kind 4) (Alt a b)
    (cond (eqb kind 5) (Star a)
    (cond (eqb kind 6) (And a b)
    (cond (eqb kind 7) (Not a)
    Nothing))))))

-- the node in a cell
unfoldable pub node_of : ℕ → Term
node_of cell = rebuilt (cell % kind_size) (first cell) (second cell)

-- the term of a node, given the terms of its children
abbrev pub grow : Term → (ℕ → Re) → Re
grow Nothing child = Re.Nothing
grow Empty child = Re.Empty
grow (Range lo hi) child = Re.Range lo hi
grow (Cat a b) child = Re.Cat (child a) (child b)
grow (Alt a b) child = Re.Alt (child a) (child b)
grow (Star a) child = Re.Star (child a)
grow (And a b) child = Re.And (child a) (child b)
grow (Not a) child = Re.Not (child a)

-- the term in cell i, going down at most so many steps, and going down as far as need be
unfoldable pub term_by : ℕ → List ℕ → ℕ → Re
term_by zero s i = Re.Nothing
term_by (suc n) s i = grow (node_of (get_or s i 0)) (term_by n s)

unfoldable pub term : List ℕ → ℕ → Re
term s i = term_by (suc i) s i

-- a node that may stand in cell i: its children below it, its bounds bytes
abbrev pub Below : Term → ℕ → Type 0
Below Nothing i = Unit
Below Empty i = Unit
Below (Range lo hi) i = (lo ≤ last_byte) × (hi ≤ last_byte)
Below (Cat a b) i = (a < i) × (b < i)
Below (Alt a b) i = (a < i) × (b < i)
Below (Star a) i = a < i
Below (And a b) i = (a < i) × (b < i)
Below (Not a) i = a < i

-- all cells below top hold such nodes
abbrev pub Layered : List ℕ → ℕ → Type 0
Layered s top = (i : ℕ) → i < top → Below (node_of (get_or s i 0)) i

-- and their bits tell whether their terms match the empty text
pub record Sound (s : List ℕ) (top : ℕ) : Type 0 where
  pub nodes : Layered s top
  pub bits : (i : ℕ) → i < top → empty_of (get_or s i 0) ≡ nullable (term s i)
  pub room : top ≤ length s
  pub small : length s ≤ work_cells
