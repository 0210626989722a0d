-- Regular expressions, as source document 000 (1.3.3) has them, with a range of bytes for a single letter, and with And and Not (source document 002).
-- Also a text, an expression's bounds, its parts and its size as a tree, and the tests that the normal form asks.
use Rattle.std.specs.Prelude.{ℕ, ◌+◌, Bool, true, false, List, [], ◌∷◌}

-- a text is a list of bytes
abbrev pub Text : Type 0
Text = List ℕ

-- an expression; a book's Either is the Alt of two ranges, so it is none of these
pub data Re : Type 0 where
  Nothing : Re
  Empty : Re
  Range : ℕ → ℕ → Re
  Cat : Re → Re → Re
  Alt : Re → Re → Re
  Star : Re → Re
  And : Re → Re → Re
  Not : Re → Re

-- a range's bounds; no other kind has any
abbrev pub bounds : Re → List ℕ
bounds Nothing = []
bounds Empty = []
bounds (Range lo hi) = lo ∷ hi ∷ []
bounds (Cat a b) = []
bounds (Alt a b) = []
bounds (Star a) = []
bounds (And a b) = []
bounds (Not a) = []

-- its parts, from left to right
abbrev pub parts : Re → List Re
parts Nothing = []
parts Empty = []
parts (Range lo hi) = []
parts (Cat a b) = a ∷ b ∷ []
parts (Alt a b) = a ∷ b ∷ []
parts (Star a) = a ∷ []
parts (And a b) = a ∷ b ∷ []
parts (Not a) = a ∷ []

-- worked out upward: f is told an expression and what its parts came to
unfoldable pub upward : {A : Type 0} → (Re → List A → A) → Re → A
upward f Nothing = f Nothing []
upward f Empty = f Empty []
upward f (Range lo hi) = f (Range lo hi) []
upward f (Cat a b) = f (Cat a b) (upward f a ∷ upward f b ∷ [])
upward f (Alt a b) = f (Alt a b) (upward f a ∷ upward f b ∷ [])
upward f (Star a) = f (Star a) (upward f a ∷ [])
upward f (And a b) = f (And a b) (upward f a ∷ upward f b ∷ [])
upward f (Not a) = f (Not a) (upward f a ∷ [])

-- the number of its tree's nodes
unfoldable pub size : Re → ℕ
size Nothing = 1
size Empty = 1
size (Range lo hi) = 1
size (Cat a b) = 1 + size a + size b
size (Alt a b) = 1 + size a + size b
size (Star a) = 1 + size a
size (And a b) = 1 + size a + size b
size (Not a) = 1 + size a

-- how many nodes expressions have together
unfoldable pub sizes : List Re → ℕ
sizes [] = 0
sizes (r ∷ rs) = size r + sizes rs

abbrev pub is_nothing : Re → Bool
is_nothing Nothing = true
is_nothing Empty = false
is_nothing (Range lo hi) = false
is_nothing (Cat a b) = false
is_nothing (Alt a b) = false
is_nothing (Star a) = false
is_nothing (And a b) = false
is_nothing (Not a) = false

abbrev pub is_empty : Re → Bool
is_empty Nothing = false
is_empty Empty = true
is_empty (Range lo hi) = false
is_empty (Cat a b) = false
is_empty (Alt a b) = false
is_empty (Star a) = false
is_empty (And a b) = false
is_empty (Not a) = false
