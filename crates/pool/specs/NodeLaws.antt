-- In a pool a node stands for its term: of nodes whose children stand there, equal ones have equal terms, and no others have.
-- So looking for a node among the cells is looking for its term among the terms, which is what putting a node rests on.
use Prim.Native.Nat.{ℕ, suc, ◌+◌, ◌<◌, ◌≤◌}
use native.Mathlib.Omega.{arith}
use Rattle.std.proofs.Math.Decide.{dec_lt}
use Rattle.std.specs.Prelude.{◌≡◌, Bool, true, Some, None, List, [], ◌∷◌, ◌++◌, map, get_or, take, set}
use Rattle.std.proofs.Math.Path.{refl, sym, ap}
use Rattle.std.proofs.Common.{◌∙◌}
use Rattle.std.proofs.Math.Bool.{false}
use Rattle.meaning.specs.Re.{Re, bounds, parts}
use Rattle.meaning.specs.PartLaws.{All}
use Rattle.meaning.specs.Order.{rank}
use Rattle.meaning.specs.Tests.{clash}
use Rattle.term.specs.declared.Term.{Term}
use Rattle.term.specs.declared.Term.TheVariants.{Nothing, Empty, Range, Cat, Alt, Star, And, Not}
use Rattle.term.specs.Cells.{node_of, grow, term, Below}
use Rattle.term.specs.Nodes.{kind_of, first_of, second_of, children_of, Held}
use Rattle.term.specs.ReadLaws.{rank_grow, rebuild, parts_grow, below_children, below_again}
use Rattle.term.specs.CellLaws.{Same, frame, term_node}
use Rattle.walk.specs.Parts.{holds, with_term, InPool}
use Rattle.walk.specs.PartsLaws.{term_held, term_new}
use Rattle.pool.specs.Pooled.{terms_of, Pooled}
use Rattle.pool.specs.Index.{pool_cells, hash_of, Indexed, After}
use Rattle.pool.specs.Steps.{Looked}
use Rattle.pool.specs.PoolLaws.{held_stands, term_held_below, terms_frame, same_number}
use Rattle.pool.specs.IndexLaws.{indexed_more}

-- ---- a node by its kind and fields

by_fields : (u w : Term) → kind_of u ≡ kind_of w → first_of u ≡ first_of w → second_of u ≡ second_of w → u ≡ w
by_fields u w k a b = rebuild u ∙ rw (k, a, b) (sym (rebuild w))

-- ---- nodes and terms

pub below_more : (u : Term) (i j : ℕ) → Below u i → i ≤ j → Below u j
below_more u i j b h = below_again u i j b (go (children_of u) (below_children u i b))
  where
    go : (ks : List ℕ) → All (λ k. k < i) ks → All (λ k. k < j) ks
    go [] l = tt
    go (k ∷ ks) l = (omega (arith, l.0), go ks l.1)

-- its fields are the bounds of its term, or its children
fields : (u : Term) (f : ℕ → Re) → ◌≡◌ {A = List ℕ} (first_of u ∷ second_of u ∷ []) (take 2 (bounds (grow u f) ++ (children_of u ++ (0 ∷ 0 ∷ []))))
fields Nothing f = refl
fields Empty f = refl
fields (Range lo hi) f = refl
fields (Cat a b) f = refl
fields (Alt a b) f = refl
fields (Star a) f = refl
fields (And a b) f = refl
fields (Not a) f = refl

-- where children with equal terms are equal, nodes with equal terms are equal
module _ (f : ℕ → Re) (top : ℕ) (apart : (i j : ℕ) → i < top → j < top → f i ≡ f j → i ≡ j) where
  children_same : (is js : List ℕ) → All (λ i. i < top) is → All (λ j. j < top) js → map f is ≡ map f js → is ≡ js
  children_same [] [] b d e = refl
  children_same [] (j ∷ js) b d e = absurd (let z : ◌≡◌ {A = ℕ} 0 1 = cc in omega arith)
  children_same (i ∷ is) [] b d e = absurd (let z : ◌≡◌ {A = ℕ} 0 1 = cc in omega arith)
  children_same (i ∷ is) (j ∷ js) b d e =
      let p = apart i j b.0 d.0 (cc) in
      let q = children_same is js b.1 d.1 (cc) in
      cc

  node_grown : (u w : Term) → Below u top → Below w top → grow w f ≡ grow u f → w ≡ u
  node_grown u w b d e =
      let c : children_of w ≡ children_of u =
      children_same (children_of w) (children_of u) (below_children w top d) (below_children u top b)
      (sym (parts_grow w f) ∙ ap parts e ∙ parts_grow u f) in
      let l : ◌≡◌ {A = List ℕ} (first_of w ∷ second_of w ∷ []) (first_of u ∷ second_of u ∷ []) = fields w f ∙ rw (c, e) (sym (fields u f)) in
      by_fields w u (sym (rank_grow w f) ∙ ap rank e ∙ rank_grow u f) (cc) (cc)

module _ (x s : List ℕ) (top : ℕ) (u : Term) (p : Pooled s top) (i : Indexed x s top) (b : Below u top) where
  -- a cell that holds the node holds its term, and the other way round
  cell_term : (k : ℕ) → k < top → node_of (get_or s k 0) ≡ u → term s k ≡ grow u (term s)
  cell_term k h e = term_node s top k p.sound h ∙ ap (λ (w : Term). grow w (term s)) e

  term_cell : (k : ℕ) → k < top → term s k ≡ grow u (term s) → node_of (get_or s k 0) ≡ u
  term_cell k h e =
      node_grown (term s) top (λ i j l m d. same_number s top i j p l m d) u (node_of (get_or s k 0)) b
      (below_more (node_of (get_or s k 0)) k top (p.sound.nodes k h) (omega arith)) (sym (term_node s top k p.sound h) ∙ e)

  -- the node was found: its term is held
  pub put_old : (r : ℕ) → Looked s top u (Some r)
      → After s top (with_term (terms_of s top) (grow u (term s))) x s r top (grow u (term s)) (top + 1)
  put_old r l =
      let e = cell_term r l.within l.there in
      let held : InPool (terms_of s top) (grow u (term s)) = rw e at (term_held_below s top r l.within) in
      record {
        pool = record { sound = p.sound; holds = sym (term_held (terms_of s top) (grow u (term s)) held); once = p.once };
        indexed = i;
        up = omega arith;
        few = omega arith;
        within = l.within;
        is = e;
        same_length = refl;
        kept_below = λ i k. refl;
        kept_above = λ i k. refl;
      }

  -- it was not found: its term is new
  not_held : ((k : ℕ) → k < top → node_of (get_or s k 0) ≡ u → ⊥) → (x : Bool) → holds (terms_of s top) (grow u (term s)) ≡ x
      → holds (terms_of s top) (grow u (term s)) ≡ false
  not_held none true e =
      let t = held_stands s top (grow u (term s)) e in
      absurd (none t.at t.within (term_cell t.at t.within t.is))
  not_held none false e = e

  pub put_new : (s' : List ℕ) (next : ℕ) → Looked s top u None
      → {hash : ℕ} → hash ≡ hash_of u → Held s top u (get_or x hash 0) s' next → top < pool_cells
      → After s top (with_term (terms_of s top) (grow u (term s))) (set x hash next) s' top next (grow u (term s)) (top + 1)
  unfolding terms_of
  put_new s' next l at-hash n few =
      let new : holds (terms_of s top) (grow u (term s)) ≡ false =
      not_held l.absent (holds (terms_of s top) (grow u (term s))) refl in
      let g = n.makes.grown in
      let same : Same s s' top = g.kept_below in
      let at : next ≡ suc top = omega (arith, n.after) in
      let is : term s' top ≡ grow u (term s) = n.makes.is in
      let t : (i : ℕ) → i < top → term s' i ≡ term s i = λ i k. frame s s' top i p.sound same k in
      record {
        pool = record {
          sound = g.sound;
          holds = rw (at, terms_frame s s' top p.sound same, is) (sym (term_new (terms_of s top) (grow u (term s)) new));
          once = λ i j k m e. elim (dec_lt j top) [
            | yes o ↦ p.once i j k o (sym (t i (omega arith)) ∙ e ∙ t j o)
            | no o ↦
                let d : j ≡ top = omega arith in
                let f : term s i ≡ grow u (term s) = sym (t i (omega arith)) ∙ e ∙ ap (term s') d ∙ is in
                clash (rw f at (term_held_below s top i (omega arith))) new
          ];
        };
        indexed = rw (n.after, at-hash) (indexed_more x s s' top u i same n.node (rw at-hash at n.linked) few);
        up = omega arith;
        few = omega arith;
        within = omega arith;
        is = is;
        same_length = g.same_length;
        kept_below = same;
        kept_above = λ i k. g.kept_above i (omega arith);
      }
