-- A rule book: its version, and its rules in order, each a kind and nodes in postfix order.
-- Also how a book is written to bytes, and which codes of nodes a version has.
use Rattle.std.specs.Prelude.{ℕ, ◌+◌, Bool, false, cond, ◌||◌, List, [], ◌∷◌, ◌++◌, eqb, length}
use Rattle.number.specs.Limits.{code_nothing, code_empty, code_range, code_cat, code_alt, code_star, code_either, code_and, code_not}
use Rattle.number.specs.Limits.{first_version}
use Rattle.number.specs.Numbers.{write_number}
use Rattle.book.specs.declared.Node.{Node}
use Rattle.book.specs.declared.Node.TheVariants.{Nothing, Empty, Range, Cat, Alt, Star, Either, And, Not}

pub record Rule : Type 0 where
  pub kind : ℕ
  pub nodes : List Node

pub record Book : Type 0 where
  pub version : ℕ
  pub rules : List Rule

abbrev pub code_of : Node → ℕ
code_of Nothing = code_nothing
code_of Empty = code_empty
code_of (Range lo hi) = code_range
code_of Cat = code_cat
code_of Alt = code_alt
code_of Star = code_star
code_of (Either x) = code_either
code_of And = code_and
code_of Not = code_not

-- whether the number is in the list
abbrev pub listed : List ℕ → ℕ → Bool
listed [] n = false
listed (m ∷ ms) n = eqb n m || listed ms n

-- the codes that books of version 1 have
abbrev pub first_codes : List ℕ
first_codes = code_nothing ∷ code_empty ∷ code_range ∷ code_cat ∷ code_alt ∷ code_star ∷ code_either ∷ []

-- the codes that books of version v have: of version 1 those, and of version 2 two more; there are no books of other versions
abbrev pub codes : ℕ → List ℕ
codes v =
    cond (eqb v first_version) first_codes
    (first_codes ++ (code_and ∷ code_not ∷ []))

unfoldable pub allowed : ℕ → ℕ → Bool
allowed v code = listed (codes v) code

-- how many terms a node takes; it leaves one
abbrev pub takes : Node → ℕ
takes Nothing = 0
takes Empty = 0
takes (Range lo hi) = 0
takes Cat = 2
takes Alt = 2
takes Star = 1
takes (Either x) = 0
takes And = 2
takes Not = 1

-- nodes of all rules together
unfoldable pub total : List Rule → ℕ
total [] = 0
total (r ∷ rs) = length r.nodes + total rs

-- the numbers that a node carries
abbrev pub write_fields : Node → List ℕ
write_fields Nothing = []
write_fields Empty = []
write_fields (Range lo hi) = write_number lo ++ write_number hi
write_fields Cat = []
write_fields Alt = []
write_fields Star = []
write_fields (Either x) = write_number x
write_fields And = []
write_fields Not = []

unfoldable pub write_node : Node → List ℕ
write_node n = write_number (code_of n) ++ write_fields n

unfoldable pub write_nodes : List Node → List ℕ
write_nodes [] = []
write_nodes (n ∷ ns) = write_node n ++ write_nodes ns

unfoldable pub write_rule : Rule → List ℕ
write_rule r = write_number r.kind ++ (write_number (length r.nodes) ++ write_nodes r.nodes)

unfoldable pub write_rules : List Rule → List ℕ
write_rules [] = []
write_rules (r ∷ rs) = write_rule r ++ write_rules rs

unfoldable pub write_book : Book → List ℕ
write_book b = write_number b.version ++ (write_number (length b.rules) ++ write_rules b.rules)
