-- Where the derivative of a term can change from one byte to the next: where some range of it starts, or has just ended.
-- Code derives a row once for each run of bytes between two such edges; EdgeLaws proves that this is enough.
use Rattle.std.specs.Prelude.{ℕ, ◌+◌, min, cond, List, [], ◌∷◌, map, leb, ltb}
use Rattle.number.specs.Limits.{bytes}
use Rattle.meaning.specs.Re.{Re, upward}
use Rattle.meaning.specs.Re.Re.{Nothing, Empty, Range, Cat, Alt, Star, And, Not}

-- the next byte after c at which a range starts or has just ended, or the number of bytes if there is none
unfoldable pub range_edge : ℕ → ℕ → ℕ → ℕ
range_edge c lo hi = cond (ltb c lo) lo (cond (leb c hi) (hi + 1) bytes)

-- the next edge that a term has by itself
abbrev pub own_edge : ℕ → Re → ℕ
own_edge c Nothing = bytes
own_edge c Empty = bytes
own_edge c (Range lo hi) = range_edge c lo hi
own_edge c (Cat a b) = bytes
own_edge c (Alt a b) = bytes
own_edge c (Star a) = bytes
own_edge c (And a b) = bytes
own_edge c (Not a) = bytes

-- the least of edges
unfoldable pub least : List ℕ → ℕ
least [] = bytes
least (e ∷ es) = min e (least es)

-- the next byte after c that is an edge of the term or of a part of it, or the number of bytes if there is none
unfoldable pub next_edge : ℕ → Re → ℕ
unfolding upward
next_edge c = upward (λ r es. min (own_edge c r) (least es))

-- the next edge of any term of a row
unfoldable pub next_edge_all : ℕ → List Re → ℕ
next_edge_all c v = least (map (next_edge c) v)
