-- The merge of two terms' members, one step at a time: what their first members tell of it.
-- The merge stands in a cell already, or it is a member before what is left, with no more cells to look at than before.
use Rattle.std.specs.Prelude.{ℕ, ◌+◌, ◌<◌, ◌≤◌, ◌≡◌, cond, List}
use Rattle.meaning.specs.declared.Join.{Join}
use Rattle.meaning.specs.Re.{size}
use Rattle.meaning.specs.Normal.{joined}
use Rattle.meaning.specs.Shape.{head_of, united}
use Rattle.term.specs.declared.Term.{Term}
use Rattle.term.specs.Cells.{term}
use Rattle.term.specs.Nodes.{first_of}
use Rattle.normal.specs.Asked.{members}
use Rattle.normal.specs.Nest.{joins_node}
use Rattle.merged.specs.declared.Next.{Next}
use Rattle.merged.specs.declared.Next.TheVariants.{Whole, Pair, More}
use Rattle.merged.specs.Asked.{Enters}

-- the cell of a term's first member, by its node and its own cell
abbrev pub head_at : Join → Term → ℕ → ℕ
head_at k u i = cond (joins_node k u) (first_of u) i

-- the first member of a term, at the term's own number or below it, and of no more nodes than the term
pub record Heads (k : Join) (s : List ℕ) (i r : ℕ) : Type 0 where
  pub is : term s r ≡ head_of k (term s i)
  pub low : r ≤ i
  pub small : size (term s r) ≤ size (term s i)

-- the merge is in a cell
pub record Stands (k : Join) (s : List ℕ) (a b root : ℕ) : Type 0 where
  pub is : term s root ≡ united k (term s a) (term s b)
  pub low : (n : ℕ) → a < n → b < n → root < n

-- it is a member and what follows it, each in a cell
pub record Pairs (k : Join) (s : List ℕ) (a b first rest : ℕ) : Type 0 where
  pub is : united k (term s a) (term s b) ≡ joined k (term s first) (term s rest)
  pub low : (n : ℕ) → a < n → b < n → (first < n) × (rest < n)

-- it is a member before the merge of two terms, which have a member less between them
pub record Leads (k : Join) (s : List ℕ) (a b first left right : ℕ) : Type 0 where
  pub is : united k (term s a) (term s b) ≡ joined k (term s first) (united k (term s left) (term s right))
  pub low : (n : ℕ) → a < n → b < n → (first < n) × ((left < n) × (right < n))
  pub falls : left + right < a + b
  pub left_enters : Enters s left
  pub right_enters : Enters s right
  pub fewer : members k (term s left) + members k (term s right) < members k (term s a) + members k (term s b)

abbrev pub Told : Join → List ℕ → ℕ → ℕ → Next → Type 0
Told k s a b (Whole root) = Stands k s a b root
Told k s a b (Pair first rest) = Pairs k s a b first rest
Told k s a b (More first left right) = Leads k s a b first left right

pub record Goes (k : Join) (s : List ℕ) (a b : ℕ) (r : Next) : Type 0 where
  pub told : Told k s a b r
