-- What the code asks of a node, and what reading and storing one tells; also the code's answer of a comparison.
-- Found, Held and Pushed are the records that callers of node_at, hold and push cite.
use Prim.Native.Nat.{ℕ, ◌+◌, ◌<◌, Ordering}
use Rattle.std.specs.Prelude.{◌≡◌, Bool, List, [], ◌∷◌, eqb, get_or, take}
use mir.Val.{bool_byte}
use Rattle.meaning.specs.Re.{parts}
use Rattle.term.specs.declared.Term.{Term}
use Rattle.term.specs.declared.Term.TheVariants.{Nothing, Empty, Range, Cat, Alt, Star, And, Not}
use Rattle.std.specs.declared.cmp.Ordering.{Ordering as Answer}
use Rattle.std.specs.declared.cmp.Ordering.TheVariants.{Less, Equal, Greater}
use Rattle.term.specs.Cells.{field_size, packed, link_of, node_of, grow, term, Below, Sound}
use Rattle.term.specs.Area.{Makes}

-- the place of its kind in the order of terms
abbrev pub kind_of : Term → ℕ
kind_of Nothing = 0
kind_of Empty = 1
kind_of (Range lo hi) = 2
kind_of (Cat a b) = 3
kind_of (Alt a b) = 4
kind_of (Star a) = 5
kind_of (And a b) = 6
kind_of (Not a) = 7

-- its fields; a kind that lacks one has 0 for it
abbrev pub first_of : Term → ℕ
first_of Nothing = 0
first_of Empty = 0
first_of (Range lo hi) = lo
first_of (Cat a b) = a
first_of (Alt a b) = a
first_of (Star a) = a
first_of (And a b) = a
first_of (Not a) = a

abbrev pub second_of : Term → ℕ
second_of Nothing = 0
second_of Empty = 0
second_of (Range lo hi) = hi
second_of (Cat a b) = b
second_of (Alt a b) = b
second_of (Star a) = 0
second_of (And a b) = b
second_of (Not a) = 0

-- how many children it has, and which: the first ones of its fields
abbrev pub arity_of : Term → ℕ
arity_of Nothing = 0
arity_of Empty = 0
arity_of (Range lo hi) = 0
arity_of (Cat a b) = 2
arity_of (Alt a b) = 2
arity_of (Star a) = 1
arity_of (And a b) = 2
arity_of (Not a) = 1

abbrev pub children_of : Term → List ℕ
children_of u = take (arity_of u) (first_of u ∷ second_of u ∷ [])

-- a cell can hold it
pub record Fields (u : Term) : Type 0 where
  pub first : first_of u < field_size
  pub second : second_of u < field_size

-- the cell of a node with a link, and with what its bit is to say
unfoldable pub cell_of : Term → ℕ → Bool → ℕ
cell_of u link empty = packed (kind_of u) (first_of u) (second_of u) link (bool_byte empty)

-- what it is, by its kind
abbrev pub nothing_node : Term → Bool
nothing_node u = eqb (kind_of u) (kind_of Nothing)

abbrev pub empty_node : Term → Bool
empty_node u = eqb (kind_of u) (kind_of Empty)

-- the code's answer of a comparison
abbrev pub ordering : Answer → Ordering
ordering Less = Ordering.lt
ordering Equal = Ordering.eq
ordering Greater = Ordering.gt

-- what the node in a cell tells: its children stand below it, and its term is made of theirs
pub record Found (s : List ℕ) (i : ℕ) (u : Term) : Type 0 where
  pub below : Below u i
  pub is : term s i ≡ grow u (term s)

-- the term in cell i has the term in cell a for its only part, or those in a and b for its two; they stand below
pub record OnePart (s : List ℕ) (i a : ℕ) : Type 0 where
  pub is : parts (term s i) ≡ term s a ∷ []
  pub below : a < i

pub record TwoParts (s : List ℕ) (i a b : ℕ) : Type 0 where
  pub is : parts (term s i) ≡ term s a ∷ term s b ∷ []
  pub first : a < i
  pub second : b < i

-- the children of a node stand in sound cells
pub record Over (s : List ℕ) (u : Term) : Type 0 where
  pub top : ℕ
  pub sound : Sound s top
  pub below : Below u top

-- a node was stored at top with a link: what its cell tells, and the term that it makes of the terms that stood there before
pub record Held (s : List ℕ) (top : ℕ) (u : Term) (link : ℕ) (s' : List ℕ) (next : ℕ) : Type 0 where
  pub after : next ≡ top + 1
  pub node : node_of (get_or s' top 0) ≡ u
  pub linked : link_of (get_or s' top 0) ≡ link
  pub makes : Makes s top s' top next (grow u (term s)) 1

-- one with no link
abbrev pub Pushed : List ℕ → ℕ → Term → List ℕ → ℕ → Type 0
Pushed s top u s' next = Held s top u 0 s' next
