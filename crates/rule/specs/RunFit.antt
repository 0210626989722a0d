-- A rule's nodes worked off with a stack of terms in normal form, each result tested as it is made: what the code does.
-- RunFitLaws proves that this is the limited normal form of the rule's expression.
use Rattle.std.specs.Prelude.{ℕ, ◌-◌, List, [], ◌∷◌, drop}
use Rattle.number.specs.Limits.{capital}
use Rattle.meaning.specs.Re.{Re}
use Rattle.meaning.specs.Normal.{cat, alt, star, both, negated}
use Rattle.meaning.specs.Limited.{Fit, ◌>>=◌, fit}
use Rattle.meaning.specs.Limited.Fit.{Fits}
use Rattle.book.specs.declared.Node.{Node}
use Rattle.book.specs.declared.Node.TheVariants.{Nothing, Empty, Range, Cat, Alt, Star, Either, And, Not}
use Rattle.book.specs.Book.{takes}
use Rattle.book.specs.Expression.{top}

-- the term below the top one
abbrev pub second : List Re → Re
second [] = Re.Nothing
second (b ∷ stack) = top stack

-- the two letters of an Either: the capital, and the small one
abbrev pub large : ℕ → Re
large x = Re.Range (x - capital) (x - capital)

abbrev pub small : ℕ → Re
small x = Re.Range x x

-- what a node makes of the term on top, b, and the one below it, a; a node that takes fewer ignores the others
abbrev pub node_term : Node → Re → Re → Re
node_term Nothing a b = Re.Nothing
node_term Empty a b = Re.Empty
node_term (Range lo hi) a b = Re.Range lo hi
node_term Cat a b = cat a b
node_term Alt a b = alt a b
node_term Star a b = star b
node_term (Either x) a b = alt (large x) (small x)
node_term And a b = both a b
node_term Not a b = negated b

-- with the limit
abbrev pub made : Node → Re → Re → Fit
made n a b = fit (node_term n a b)

-- the term that is left at the end, or that a result was too long, which ends the work
unfoldable pub run_fit : List Node → List Re → Fit
run_fit [] stack = Fits (top stack)
run_fit (n ∷ ns) stack = do
  v ← made n (second stack) (top stack)
  run_fit ns (v ∷ drop (takes n) stack)
