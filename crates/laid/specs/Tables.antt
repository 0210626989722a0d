-- The code's constant tables: the ranges of the sets one after the other, and where each set's begin.
-- Sets have numbers, by their order; TableLaws shows that the ranges there are those of Sets.
use Rattle.std.specs.Prelude.{ℕ, Bool, true, false, List, [], ◌∷◌, get_or}
use Rattle.book.specs.declared.Node.{Node}
use Rattle.book.specs.declared.Node.TheVariants.{Range, Alt}
use Rattle.typed.specs.Sets.{Set, sets}
use Rattle.typed.specs.Sets.Set.{alnum}
use Rattle.laid.specs.declared.Span.{Span}

-- the set of a number
abbrev pub set_at : ℕ → Set
set_at k = get_or sets k alnum

abbrev pub bytes : ℕ → ℕ → Span
bytes lo hi = record { lo = lo; hi = hi }

abbrev pub table : List Span
table =
    bytes 48 57 ∷ bytes 65 90 ∷ bytes 97 122 ∷ bytes 65 90 ∷ bytes 97 122 ∷ bytes 9 9 ∷ bytes 32 32 ∷ bytes 0 31 ∷ bytes 127 127
    ∷ bytes 48 57 ∷ bytes 33 126 ∷ bytes 97 122 ∷ bytes 32 126 ∷ bytes 33 47 ∷ bytes 58 64 ∷ bytes 91 96 ∷ bytes 123 126
    ∷ bytes 9 13 ∷ bytes 32 32 ∷ bytes 65 90 ∷ bytes 48 57 ∷ bytes 65 70 ∷ bytes 97 102 ∷ []

abbrev pub starts : List ℕ
starts = 0 ∷ 3 ∷ 5 ∷ 7 ∷ 9 ∷ 10 ∷ 11 ∷ 12 ∷ 13 ∷ 17 ∷ 19 ∷ 20 ∷ 23 ∷ []

-- the nodes of one range, joined to those before it or not
abbrev pub range_nodes : Span → Bool → List Node
range_nodes r false = Range r.lo r.hi ∷ []
range_nodes r true = Range r.lo r.hi ∷ Alt ∷ []
