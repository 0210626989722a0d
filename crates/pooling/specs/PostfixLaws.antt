-- Laws of the postfix order: to take a term apart and let its children wait is undone by working its node off.
-- So what is worked off in the end is the term with its parts, in their order.
use Rattle.std.specs.Prelude.{ℕ, suc, ◌+◌, ◌<◌, ◌≤◌, ◌≡◌, Bool, get_or}
use native.Mathlib.Omega.{arith}
use Rattle.std.proofs.Math.Path.{refl, sym, ap}
use Rattle.std.proofs.Common.{◌∙◌, ltb-true, drop_of_length-le, drop-cons}
use Rattle.std.proofs.Math.Bool.{true, false, cond}
use mathlib.Core.List.{List, [], ◌∷◌, map}
use Rattle.std.proofs.Math.Dec.{ltb}
use Rattle.std.proofs.Math.ListN.{length}
use Rattle.meaning.specs.Re.{Re, size, sizes}
use Rattle.meaning.specs.PartLaws.{size_parts}
use Rattle.term.specs.declared.Term.{Term}
use Rattle.term.specs.Cells.{node_of, grow, Below}
use Rattle.term.specs.Nodes.{children_of}
use Rattle.term.specs.ReadLaws.{parts_grow}
use Rattle.walk.specs.Parts.{with_term, with_parts, with_vector, InPool, Closed}
use Rattle.walk.specs.PartsLaws.{with_parts_lem, takes_parts, parts_closed, parts_held}
use Rattle.pooling.specs.Postfix.{waits, takes, all_wait, all_take, opened, Runs, with_all, nodes_from}

-- ---- children that wait

module _ (base : ℕ) (f : ℕ → Re) where
  waits_length : (a : ℕ) (vs : List Re) → length (waits base f a vs) ≡ takes base a + length vs
  unfolding takes waits
  waits_length a vs = go (ltb a base)
    where
      go : (b : Bool) → length (cond b vs (f a ∷ vs)) ≡ cond b 0 1 + length vs
      go true = omega arith
      go false = omega arith

  waits_sizes : (a : ℕ) (vs : List Re) → sizes (waits base f a vs) ≤ size (f a) + sizes vs
  unfolding waits sizes
  waits_sizes a vs = go (ltb a base)
    where
      go : (b : Bool) → sizes (cond b vs (f a ∷ vs)) ≤ size (f a) + sizes vs
      go true = omega arith
      go false = omega arith

  pub all_length : (js : List ℕ) (vs : List Re) → length (all_wait base f js vs) ≡ all_take base js + length vs
  unfolding all_wait all_take
  all_length [] vs = omega arith
  all_length (a ∷ js) vs = omega (arith, all_length js (waits base f a vs), waits_length a vs)

  all_sizes : (js : List ℕ) (vs : List Re) → sizes (all_wait base f js vs) ≤ sizes (map f js) + sizes vs
  unfolding all_wait sizes
  all_sizes [] vs = omega arith
  all_sizes (a ∷ js) vs = omega (arith, all_sizes js (waits base f a vs), waits_sizes a vs)

  pub opened_sizes : (u : Term) (vs : List Re) → sizes (opened base f u vs) + 1 ≤ size (grow u f) + sizes vs
  opened_sizes u vs = omega (arith, all_sizes (children_of u) vs, size_parts (grow u f), ap sizes (parts_grow u f))

-- ---- a pool that holds the terms below base with their parts

all_closed : (pool vs : List Re) → Closed pool → Closed (with_all pool vs)
unfolding with_all
all_closed pool [] c = c
all_closed pool (v ∷ vs) c = parts_closed (with_all pool vs) v (all_closed pool vs c)

all_keeps : (pool vs : List Re) (x : Re) → InPool pool x → InPool (with_all pool vs) x
unfolding with_all
all_keeps pool [] x h = h
all_keeps pool (v ∷ vs) x h = (takes_parts (with_all pool vs) v).keeps x (all_keeps pool vs x h)

module _ (base : ℕ) (f : ℕ → Re) (pool : List Re) (closed : Closed pool) (held : (a : ℕ) → a < base → InPool pool (f a)) where
  waits_parts : (a : ℕ) (vs : List Re) → with_all pool (waits base f a vs) ≡ with_parts (with_all pool vs) (f a)
  unfolding waits with_all
  waits_parts a vs = go (ltb a base) refl
    where
      go : (b : Bool) → ltb a base ≡ b → with_all pool (cond b vs (f a ∷ vs)) ≡ with_parts (with_all pool vs) (f a)
      go true e = sym (parts_held (with_all pool vs) (f a) (all_closed pool vs closed) (all_keeps pool vs (f a) (held a (ltb-true a base e))))
      go false e = refl

  all_parts : (js : List ℕ) (vs : List Re) → with_all pool (all_wait base f js vs) ≡ with_vector (with_all pool vs) (map f js)
  unfolding all_wait with_vector
  all_parts [] vs = refl
  all_parts (a ∷ js) vs = all_parts js (waits base f a vs) ∙ ap (λ p. with_vector p (map f js)) (waits_parts a vs)

  opened_parts : (u : Term) (vs : List Re) → with_term (with_all pool (opened base f u vs)) (grow u f) ≡ with_all pool (grow u f ∷ vs)
  unfolding with_all
  opened_parts u vs = rw (all_parts (children_of u) vs, ← parts_grow u f) (sym (with_parts_lem (with_all pool vs) (grow u f)))

  -- the node is the first of those to be worked off, once its children wait in its place
  pub runs_opened : (v : Re) (all : List Re) (us : List Term) (vs : List Re) (u : Term) (i : ℕ) → Below u i
      → Runs base f v all us (grow u f ∷ vs) (with_all pool (grow u f ∷ vs))
      → Runs base f v all (u ∷ us) (opened base f u vs) (with_all pool (opened base f u vs))
  runs_opened v all us vs u i h r = (i, h, vs, refl, rw (opened_parts u vs) r)

-- ---- in memory

pub nodes_at_lem : (o : List ℕ) (k : ℕ) → k < length o → nodes_from o k ≡ node_of (get_or o k 0) ∷ nodes_from o (k + 1)
nodes_at_lem o k h = let e : k + 1 ≡ suc k = omega arith in rw e (ap (map node_of) (drop-cons o k 0 h))

pub nodes_none : (o : List ℕ) (k : ℕ) → length o ≤ k → nodes_from o k ≡ []
nodes_none o k h = ap (map node_of) (drop_of_length-le o h)
