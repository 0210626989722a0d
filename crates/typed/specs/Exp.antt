-- What can be typed as an expression, as a tree; what it means, by source documents 000 and 001; and the nodes that it becomes.
-- Nodes follow the typing: R+ is R, R, Star, Cat; R? is R, Empty, Alt; a set is a choice of its ranges, from the left.
use Rattle.std.specs.Prelude.{ℕ, ◌≡◌, List, [], ◌∷◌, ◌++◌, ◌⊎◌}
use Rattle.number.specs.Limits.{last_byte}
use Rattle.meaning.specs.Lang.{Lang, Then, Many}
use Rattle.meaning.specs.Means.{OneByte}
use Rattle.book.specs.declared.Node.{Node}
use Rattle.book.specs.declared.Node.TheVariants.{Empty, Range, Cat, Alt, Star}
use Rattle.typed.specs.Sets.{Set, Span, spans}
use Rattle.typed.specs.Sets.Span.{span}

pub data Exp : Type 0 where
  byte : ℕ → Exp
  dot : Exp
  set : Set → Exp
  empty : Exp
  cat : Exp → Exp → Exp
  alt : Exp → Exp → Exp
  star : Exp → Exp
  plus : Exp → Exp
  maybe : Exp → Exp

-- ---- its meaning

-- one byte that one of the ranges holds
abbrev pub Among : List Span → Lang
Among [] w = ⊥
Among (span lo hi ∷ more) w = OneByte lo hi w ⊎ Among more w

abbrev pub Means : Exp → Lang
Means (byte c) w = OneByte c c w
Means dot w = OneByte 0 last_byte w
Means (set s) w = Among (spans s) w
Means empty w = w ≡ []
Means (cat a b) w = Then (Means a) (Means b) w
Means (alt a b) w = Means a w ⊎ Means b w
Means (star a) w = Many (Means a) w
Means (plus a) w = Then (Means a) (Many (Means a)) w
Means (maybe a) w = Means a w ⊎ (w ≡ [])

-- ---- its nodes, in postfix order

-- each range joined to the choice before it
unfoldable pub joined : List Span → List Node
joined [] = []
joined (span lo hi ∷ more) = Range lo hi ∷ Alt ∷ joined more

unfoldable pub ranges : List Span → List Node
ranges [] = []
ranges (span lo hi ∷ more) = Range lo hi ∷ joined more

unfoldable pub postfix : Exp → List Node
postfix (byte c) = Range c c ∷ []
postfix dot = Range 0 last_byte ∷ []
postfix (set s) = ranges (spans s)
postfix empty = Empty ∷ []
postfix (cat a b) = postfix a ++ (postfix b ++ (Cat ∷ []))
postfix (alt a b) = postfix a ++ (postfix b ++ (Alt ∷ []))
postfix (star a) = postfix a ++ (Star ∷ [])
postfix (plus a) = postfix a ++ (postfix a ++ (Star ∷ Cat ∷ []))
postfix (maybe a) = postfix a ++ (Empty ∷ Alt ∷ [])
