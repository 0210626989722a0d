-- A term's tree in postfix order: each node after its children, of which those that stand in the pool are left out.
-- Its nodes are worked off with a stack of terms, and what each makes is put into the pool; PostfixLaws says how the order comes about.
use Rattle.std.specs.Prelude.{ℕ, ◌+◌, ◌<◌, ◌≤◌, ◌≡◌, cond, List, [], ◌∷◌, map, ltb, get_or, drop}
use Rattle.meaning.specs.Re.{Re}
use Rattle.term.specs.declared.Term.{Term}
use Rattle.term.specs.Cells.{node_of, grow, Below}
use Rattle.term.specs.Nodes.{children_of}
use Rattle.walk.specs.Parts.{with_term, with_parts}

-- ---- nodes and a stack of terms, the last one first

module _ (base : ℕ) where
  -- a child below base stands in the pool; the term of any other waits on the stack
  unfoldable pub waits : (ℕ → Re) → ℕ → List Re → List Re
  waits f a vs = cond (ltb a base) vs (f a ∷ vs)

  unfoldable pub takes : ℕ → ℕ
  takes a = cond (ltb a base) 0 1

  -- the same of children, from left to right
  unfoldable pub all_wait : (ℕ → Re) → List ℕ → List Re → List Re
  all_wait f [] vs = vs
  all_wait f (a ∷ js) vs = all_wait f js (waits f a vs)

  unfoldable pub all_take : List ℕ → ℕ
  all_take [] = 0
  all_take (a ∷ js) = takes a + all_take js

  -- a node taken apart: its children wait
  abbrev pub opened : (ℕ → Re) → Term → List Re → List Re
  opened f u vs = all_wait f (children_of u) vs

  -- a stack of n terms may have what waits for the node, and the node may stand somewhere
  pub record Fit (u : Term) (n : ℕ) : Type 0 where
    pub place : ℕ
    pub below : Below u place
    pub enough : all_take (children_of u) ≤ n

  -- worked off on this stack and pool, the nodes make v alone, and the pool then holds `all`: what waits for a node makes way for its term
  abbrev pub Runs : (ℕ → Re) → Re → List Re → List Term → List Re → List Re → Type 0
  Runs f v all [] vs pool = (vs ≡ v ∷ []) × (pool ≡ all)
  Runs f v all (u ∷ us) vs pool =
      (place : ℕ) × Below u place × (left : List Re) × (vs ≡ opened f u left) × Runs f v all us (grow u f ∷ left) (with_term pool (grow u f))

-- the pool with all the parts of a stack's terms, the last one's last
unfoldable pub with_all : List Re → List Re → List Re
with_all pool [] = pool
with_all pool (v ∷ vs) = with_parts (with_all pool vs) v

-- ---- in memory

-- the numbers in the first n places, whose terms are the stack, are below top
abbrev pub Low : List ℕ → ℕ → ℕ → Type 0
Low o n top = (j : ℕ) → j < n → get_or o j 0 < top

-- the nodes from place k on
abbrev pub nodes_from : List ℕ → ℕ → List Term
nodes_from o k = map node_of (drop k o)
