-- The expression of a rule: its nodes in postfix order, worked off with a stack of expressions.
-- Cat, Alt and And take two terms, the later one being b; Either is the Alt of its two one-byte ranges.
use Rattle.std.specs.Prelude.{◌-◌, List, [], ◌∷◌, map}
use Rattle.number.specs.Limits.{capital}
use Rattle.meaning.specs.Re.{Re}
use Rattle.book.specs.declared.Node.{Node}
use Rattle.book.specs.declared.Node.TheVariants.{Nothing, Empty, Range, Cat, Alt, Star, Either, And, Not}
use Rattle.book.specs.Book.{Rule, Book}

-- an operator of one term, of two; where the stack is too short it stays as it is, which no valid rule meets
abbrev pub one : (Re → Re) → List Re → List Re
one f [] = []
one f (a ∷ stack) = f a ∷ stack

abbrev pub two : (Re → Re → Re) → List Re → List Re
two f [] = []
two f (b ∷ []) = b ∷ []
two f (b ∷ a ∷ stack) = f a b ∷ stack

unfoldable pub stacked : Node → List Re → List Re
stacked Nothing stack = Re.Nothing ∷ stack
stacked Empty stack = Re.Empty ∷ stack
stacked (Range lo hi) stack = Re.Range lo hi ∷ stack
stacked Cat stack = two Re.Cat stack
stacked Alt stack = two Re.Alt stack
stacked Star stack = one Re.Star stack
stacked (Either x) stack = Re.Alt (Re.Range (x - capital) (x - capital)) (Re.Range x x) ∷ stack
stacked And stack = two Re.And stack
stacked Not stack = one Re.Not stack

unfoldable pub run_nodes : List Node → List Re → List Re
run_nodes [] stack = stack
run_nodes (n ∷ ns) stack = run_nodes ns (stacked n stack)

-- the term that is left
abbrev pub top : List Re → Re
top [] = Re.Nothing
top (r ∷ stack) = r

abbrev pub expression : Rule → Re
expression r = top (run_nodes r.nodes [])

-- the rules of a book, as a row of expressions
abbrev pub meant : Book → List Re
meant b = map expression b.rules
