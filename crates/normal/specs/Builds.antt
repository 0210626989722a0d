-- What each builder leaves in the work area: the contracts' second half, one name a builder.
-- A term in normal form is made of terms in normal form; nothing below the old top changes.
use Rattle.std.specs.Prelude.{ℕ, ◌+◌, ◌≡◌, cond, List, Option, None, Some}
use Rattle.meaning.specs.declared.Join.TheVariants.{Then}
use Rattle.meaning.specs.Normal.{chain, cat, star, negated}
use Rattle.meaning.specs.Limited.{short, fit}
use Rattle.term.specs.declared.Term.{Term as Node}
use Rattle.term.specs.declared.Built.{Built}
use Rattle.term.specs.Cells.{grow, term}
use Rattle.term.specs.Area.{pending, Wasted, Makes}
use Rattle.normal.specs.Asked.{members, cat_cells}
use Rattle.normal.specs.Made.{MadeBy}

-- a node is stored
abbrev pub Stores : List ℕ → ℕ → Node → List ℕ → Built → Type 0
Stores s top u s' r = Makes s top s' r.root r.top (grow u (term s)) 1

abbrev pub Chains : List ℕ → ℕ → ℕ → ℕ → List ℕ → Built → Type 0
Chains s top a b s' r = Makes s top s' r.root r.top (chain (term s a) (term s b)) (members Then (term s a))

abbrev pub Cats : List ℕ → ℕ → ℕ → ℕ → List ℕ → Built → Type 0
Cats s top a b s' r = Makes s top s' r.root r.top (cat (term s a) (term s b)) (cat_cells (term s a) (term s b))

abbrev pub Stars : List ℕ → ℕ → ℕ → List ℕ → Built → Type 0
Stars s top a s' r = Makes s top s' r.root r.top (star (term s a)) 1

abbrev pub Negates : List ℕ → ℕ → ℕ → List ℕ → Built → Type 0
Negates s top a s' r = Makes s top s' r.root r.top (negated (term s a)) 1

-- what was built is counted
pub record Fitted (s : List ℕ) (made : Built) (s' : List ℕ) (r : Option Built) : Type 0 where
  pub is : r ≡ cond (short (term s made.root)) (Some made) None
  pub wasted : Wasted s made.top s' (made.top + pending)

-- cat and negated with the limit
abbrev pub CatFits : List ℕ → ℕ → ℕ → ℕ → List ℕ → Option Built → Type 0
CatFits s top a b s' r = MadeBy s top s' r (fit (cat (term s a) (term s b))) (cat_cells (term s a) (term s b))

abbrev pub NegatedFits : List ℕ → ℕ → ℕ → List ℕ → Option Built → Type 0
NegatedFits s top a s' r = MadeBy s top s' r (fit (negated (term s a))) 1
