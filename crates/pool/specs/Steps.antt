-- What looking a node up in the pool tells: a cell looked for by its node.
-- This is its contract; Pooled has those of the pool itself.
use Rattle.std.specs.Prelude.{ℕ, ◌<◌, ◌≡◌, Option, IfSome, IfNone, List, get_or}
use Rattle.term.specs.declared.Term.{Term}
use Rattle.term.specs.Cells.{node_of}

-- r is a cell below top that holds this node; there is none where none does
pub record Looked (s : List ℕ) (top : ℕ) (u : Term) (r : Option ℕ) : Type 0 where
  pub within : IfSome r (λ k. k < top)
  pub there : IfSome r (λ k. node_of (get_or s k 0) ≡ u)
  pub absent : IfNone r ((k : ℕ) → k < top → node_of (get_or s k 0) ≡ u → ⊥)
