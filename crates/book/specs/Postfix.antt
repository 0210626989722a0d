-- Any expression as a rule's nodes, in postfix order: of two terms the first, then the later one, then their operator.
-- PostfixLaws proves that these nodes leave that expression, and that expressions within a book's limits are some book's rules.
use Rattle.std.specs.Prelude.{◌≤◌, ◌≡◌, List, [], ◌∷◌, ◌++◌}
use Rattle.number.specs.Limits.{last_byte}
use Rattle.meaning.specs.Re.{Re}
use Rattle.book.specs.declared.Node.{Node}
use Rattle.book.specs.declared.Node.TheVariants.{Nothing, Empty, Range, Cat, Alt, Star, And, Not}
use Rattle.book.specs.Book.{Book}
use Rattle.book.specs.Valid.{ValidBook}
use Rattle.book.specs.Expression.{meant}

unfoldable pub postfix : Re → List Node
postfix Re.Nothing = Nothing ∷ []
postfix Re.Empty = Empty ∷ []
postfix (Re.Range lo hi) = Range lo hi ∷ []
postfix (Re.Cat a b) = postfix a ++ (postfix b ++ (Cat ∷ []))
postfix (Re.Alt a b) = postfix a ++ (postfix b ++ (Alt ∷ []))
postfix (Re.Star a) = postfix a ++ (Star ∷ [])
postfix (Re.And a b) = postfix a ++ (postfix b ++ (And ∷ []))
postfix (Re.Not a) = postfix a ++ (Not ∷ [])

-- its ranges are of bytes, none of them with hi below lo
abbrev pub OfBytes : Re → Type 0
OfBytes Re.Nothing = Unit
OfBytes Re.Empty = Unit
OfBytes (Re.Range lo hi) = (lo ≤ hi) × (hi ≤ last_byte)
OfBytes (Re.Cat a b) = OfBytes a × OfBytes b
OfBytes (Re.Alt a b) = OfBytes a × OfBytes b
OfBytes (Re.Star a) = OfBytes a
OfBytes (Re.And a b) = OfBytes a × OfBytes b
OfBytes (Re.Not a) = OfBytes a

abbrev pub AllOfBytes : List Re → Type 0
AllOfBytes [] = Unit
AllOfBytes (r ∷ rs) = OfBytes r × AllOfBytes rs

-- a valid book whose rules are these
pub record BookFor (row : List Re) : Type 0 where
  pub b : Book
  pub valid : ValidBook b
  pub means : meant b ≡ row
