-- What it is that nodes lie in cells, one after the other, up to a count; and what each function that lays some does to that.
-- Past the limit only that there are more is kept, so nothing is asked of the cells then.
use Rattle.std.specs.Prelude.{ℕ, ◌+◌, ◌*◌, ◌≤◌, ◌<◌, ◌≡◌, cond, List, [], ◌∷◌, ◌++◌, map, eqb, length, take}
use Rattle.number.specs.Limits.{nodes, code_nothing, code_empty, code_range, code_cat, code_alt, code_star, code_either, code_and, code_not}
use Rattle.book.specs.declared.Node.{Node}
use Rattle.book.specs.declared.Node.TheVariants.{Nothing, Empty, Range, Cat, Alt, Star, Either, And, Not}
use Rattle.typed.specs.Exp.{Exp, postfix}
use Rattle.typed.specs.Reader.{Mark, marked}
use Rattle.typed.specs.Reader.Mark.{many, more, perhaps}

-- a node in a cell; the last three cannot be typed and are not laid
abbrev pub pack : Node → ℕ
pack Nothing = code_nothing
pack Empty = code_empty
pack (Range lo hi) = (lo * 256 + hi) * 8 + code_range
pack Cat = code_cat
pack Alt = code_alt
pack Star = code_star
pack (Either x) = x * 8 + code_either
pack And = code_and
pack Not = code_not

-- a count that stops one past a limit
pub data Capped (limit : ℕ) : ℕ → ℕ → Type 0 where
  fits : {n : ℕ} → n ≤ limit → Capped limit n n
  over : {n : ℕ} → limit < n → Capped limit (limit + 1) n

-- these nodes lie in the cells, and are so many; or they are too many
pub data Lays (cells : List ℕ) : ℕ → List Node → Type 0 where
  lies : {top : ℕ} {ns : List Node} → top ≤ nodes → length ns ≡ top → take top cells ≡ map pack ns → Lays cells top ns
  lost : {ns : List Node} → nodes < length ns → Lays cells (nodes + 1) ns

-- one cell more
pub record AddsCell (cells : List ℕ) (top x : ℕ) (cells' : List ℕ) (top' : ℕ) : Type 0 where
  pub same : length cells' ≡ length cells
  pub small : top' ≤ nodes + 1
  pub adds : (n : Node) (ns : List Node) → x ≡ pack n → Lays cells top ns → Lays cells' top' (ns ++ (n ∷ []))
  pub stays_lost : (n : Node) (ns : List Node) → nodes < length ns → Lays cells top ns → Lays cells' top' (ns ++ (n ∷ []))

-- some nodes more
pub record Adds (cells : List ℕ) (top : ℕ) (more : List Node) (cells' : List ℕ) (top' : ℕ) : Type 0 where
  pub same : length cells' ≡ length cells
  pub small : top ≤ nodes + 1 → top' ≤ nodes + 1
  pub adds : (ns : List Node) → Lays cells top ns → Lays cells' top' (ns ++ more)

-- the nodes from a place on once more
pub record Again (cells : List ℕ) (start top : ℕ) (cells' : List ℕ) (top' : ℕ) : Type 0 where
  pub same : length cells' ≡ length cells
  pub adds : (ms ns : List Node) → Capped nodes start (length ms) → Lays cells top (ms ++ ns) → Lays cells' top' ((ms ++ ns) ++ ns)

-- the mark that a byte is; a question mark where it is no other
abbrev pub mark_of : ℕ → Mark
mark_of c = cond (eqb c 42) many (cond (eqb c 43) more perhaps)

-- the nodes of an expression, from a place on, become those of the marked one
pub record Marked (m : Mark) (cells : List ℕ) (start top : ℕ) (cells' : List ℕ) (top' : ℕ) : Type 0 where
  pub same : length cells' ≡ length cells
  pub small : top' ≤ nodes + 1
  pub adds : (ns : List Node) (e : Exp) → Capped nodes start (length ns) → Lays cells top (ns ++ postfix e)
      → Lays cells' top' (ns ++ postfix (marked m e))
