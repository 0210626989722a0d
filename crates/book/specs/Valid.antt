-- Which books are valid: every field within its bounds, and each rule's nodes leave exactly one term.
-- ReadLaws proves that exactly these are read, from exactly the bytes that would be written.
use Rattle.std.specs.Prelude.{ℕ, ◌+◌, ◌-◌, ◌≤◌, ◌<◌, ◌≡◌, true, false, ◌↔◌, List, [], ◌∷◌, length}
use Rattle.number.specs.Limits.{first_version, last_version, rules, kinds, nodes, last_byte, first_letter, last_letter}
use Rattle.book.specs.declared.Node.{Node}
use Rattle.book.specs.declared.Node.TheVariants.{Nothing, Empty, Range, Cat, Alt, Star, Either, And, Not}
use Rattle.book.specs.Book.{Rule, Book, code_of, allowed, takes, total}

-- books of version v have that code
abbrev pub Allowed : ℕ → ℕ → Type 0
Allowed v code = allowed v code ≡ true

-- and these are the codes up to the last, and no other
pub record CodesUpTo (v last : ℕ) : Type 0 where
  pub has : (c : ℕ) → Allowed v c ↔ (c ≤ last)
  pub lacks : (c : ℕ) → (allowed v c ≡ false) ↔ (last < c)

-- the numbers that a node carries are within their fields
abbrev pub InFields : Node → Type 0
InFields Nothing = Unit
InFields Empty = Unit
InFields (Range lo hi) = (lo ≤ hi) × (hi ≤ last_byte)
InFields Cat = Unit
InFields Alt = Unit
InFields Star = Unit
InFields (Either x) = (first_letter ≤ x) × (x ≤ last_letter)
InFields And = Unit
InFields Not = Unit

-- a book of version v may have that node
abbrev pub Within : ℕ → Node → Type 0
Within v n = Allowed v (code_of n) × InFields n

-- so many terms stand: each node finds its terms, and one term is left
abbrev pub Leaves : ℕ → ℕ → List Node → Type 0
Leaves v terms [] = terms ≡ 1
Leaves v terms (n ∷ ns) = Within v n × (takes n ≤ terms) × Leaves v (terms - takes n + 1) ns

pub record ValidRule (v : ℕ) (r : Rule) : Type 0 where
  pub kind_fits : r.kind ≤ kinds
  pub some : 1 ≤ length r.nodes
  pub leaves : Leaves v 0 r.nodes

abbrev pub AllValid : ℕ → List Rule → Type 0
AllValid v [] = Unit
AllValid v (r ∷ rs) = ValidRule v r × AllValid v rs

-- there are books of that version
abbrev pub Known : ℕ → Type 0
Known v = (first_version ≤ v) × (v ≤ last_version)

pub record ValidBook (b : Book) : Type 0 where
  pub known : Known b.version
  pub some : 1 ≤ length b.rules
  pub few : length b.rules ≤ rules
  pub valid : AllValid b.version b.rules
  pub small : total b.rules ≤ nodes
