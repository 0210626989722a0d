-- Laws for putting a term with its parts into the pool: the quick ways, and one for each place of the loop over the nodes that were copied out.
-- In a turn a node is put over the numbers of its children, and its own number takes their place on the stack.
use Rattle.std.specs.Prelude.{ℕ, ◌+◌, ◌-◌, ◌<◌, ◌≤◌, ◌≡◌, refl, length, get_or, take, set, drop}
use native.Mathlib.Omega.{arith}
use Rattle.std.proofs.Math.Path.{sym}
use Rattle.std.proofs.Common.{ap, ◌∙◌, length-set, length-take-le, get_or-take, drop-set-lt, below_more, lt-ltb, le-ltb}
use mathlib.Core.List.{List, [], ◌∷◌, map}
use Rattle.meaning.specs.Re.{Re, size}
use Rattle.meaning.specs.PartLaws.{All}
use Rattle.term.specs.declared.Term.{Term}
use Rattle.term.specs.Cells.{rebuilt, node_of, grow, term, Below}
use Rattle.term.specs.Nodes.{kind_of, first_of, second_of, arity_of, children_of, Found}
use Rattle.term.specs.Places.{terms_at}
use Rattle.term.specs.CellLaws.{frame}
use Rattle.term.specs.ReadLaws.{grow_rebuilt, below_rebuilt, grow_agree, below_again, no_parts, leaf_size}
use Rattle.term.specs.PlaceLaws.{set_there, set_other, terms_length, terms_same, terms_last, terms_set}
use Rattle.walk.specs.Parts.{with_term, with_parts, with_vector}
use Rattle.walk.specs.PartsLaws.{with_parts_lem, parts_held}
use Rattle.pool.specs.Pooled.{terms_of}
use Rattle.pool.specs.Index.{After, Put, Open}
use Rattle.pool.specs.PoolLaws.{pool_as, term_held_below}
use Rattle.pool.specs.IndexLaws.{open_less, open_after}
use Rattle.pool.specs.ClosedLaws.{pool_closed}
use Rattle.pooling.specs.Postfix.{waits, takes, all_wait, all_take, Fit, Low, Runs, nodes_from}
use Rattle.pooling.specs.Copied.{Copied, Taken, Rooted, Putting}
use Rattle.pooling.specs.PostfixLaws.{all_length, nodes_at_lem, nodes_none}

-- ---- the quick ways

-- a term that stands in the pool is put by leaving the pool as it is
pub put_held : (x s : List ℕ) (top i more : ℕ) → Open x s top more → i < top
    → Put s top (terms_of s top) x s i top (term s i) (top + size (term s i))
put_held x s top i more o h =
    let p = o.pooled in
    record {
      pool = record {
        sound = p.sound;
        holds = sym (parts_held (terms_of s top) (term s i) (pool_closed s top p.sound) (term_held_below s top i h));
        once = p.once;
      };
      indexed = o.indexed;
      up = omega arith;
      few = omega arith;
      within = h;
      is = refl;
      same_length = refl;
      kept_below = λ k m. refl;
      kept_above = λ k m. refl;
    }

-- what put_node tells
abbrev Node : List ℕ → ℕ → Term → List ℕ → List ℕ → ℕ → ℕ → Type 0
Node s top u x' s' root top' = After s top (with_term (terms_of s top) (grow u (term s))) x' s' root top' (grow u (term s)) (top + 1)

-- a node without children is put alone
pub put_leaf : {s x' s' : List ℕ} {top i root top' : ℕ} {u : Term} → Found s i u → arity_of u ≡ 0 → Node s top u x' s' root top'
    → Put s top (terms_of s top) x' s' root top' (term s i) (top + size (term s i))
unfolding with_vector
put_leaf {s} {x'} {s'} {top} {i} {root} {top'} {u} f h a =
    let none = no_parts f h in
    let alone : with_parts (terms_of s top) (term s i) ≡ with_term (terms_of s top) (term s i) = with_parts_lem (terms_of s top) (term s i) ∙ rw none in
    rw (leaf_size (term s i) none, alone, f.is) a

-- ---- a node over the numbers of its children

module _ (base child : ℕ) (o : List ℕ) (n : ℕ) where
  pub taken_held : child < base → Taken base child o n child n
  unfolding takes waits
  taken_held h =
      record {
        fewer = rw (lt-ltb child base h) (omega arith);
        is = λ f g same vs e. (rw (lt-ltb child base h) at e, same child h);
        low = λ top k l. omega arith;
      }

  pub takes_some : (child < base → ⊥) → takes base child ≤ n → 0 < n
  unfolding takes
  takes_some h k = let k' = rw (le-ltb child base (omega arith)) at k in omega arith

  pub taken_made : (child < base → ⊥) → 0 < n → Taken base child o n (get_or o (n - 1) 0) (n - 1)
  unfolding takes waits
  taken_made h some =
      record {
        fewer = rw (le-ltb child base (omega arith)) (omega arith);
        is = λ f g same vs e.
            let both : g (get_or o (n - 1) 0) ∷ terms_at g o (n - 1) ≡ f child ∷ vs = sym (terms_last g o n some) ∙ rw (le-ltb child base (omega arith)) at e in
            (cc, cc);
        low = λ top k l. l (n - 1) (omega arith);
      }

-- a stack in the front of a longer list
module _ (o o' : List ℕ) {n : ℕ} (same : (j : ℕ) → j < n → get_or o' j 0 ≡ get_or o j 0) where
  terms_there : (g : ℕ → Re) (m : ℕ) → m ≤ n → terms_at g o' m ≡ terms_at g o m
  terms_there g m l = terms_same g g o o' m (λ j h. ap g (same j (omega arith)))

  low_there : (top : ℕ) → Low o' n top → Low o n top
  low_there top l j h = rw (← same j h) (l j h)

  pub taken_there : {base child number n' : ℕ} → Taken base child o n number n' → Taken base child o' n number n'
  taken_there {n' = n'} t =
      record {
        fewer = t.fewer;
        is = λ f g alike vs e.
            let got = t.is f g alike vs (sym (terms_there g n (omega arith)) ∙ e) in
            (terms_there g n' (omega (arith, t.fewer)) ∙ got.0, got.1);
        low = λ top k l. t.low top k (low_there top l);
      }

  pub rooted_there : {base n' : ℕ} {u u' : Term} → Rooted base u o n u' n' → Rooted base u o' n u' n'
  rooted_there {n' = n'} r =
      record {
        fewer = r.fewer;
        is = λ f g alike vs e.
            let got = r.is f g alike vs (sym (terms_there g n (omega arith)) ∙ e) in
            (terms_there g n' r.fewer ∙ got.0, got.1);
        below = λ top k l. r.below top k (low_there top l);
      }

pub rooted_front : (o : List ℕ) (n : ℕ) {base n' : ℕ} {u u' : Term} → n ≤ length o → Rooted base u (take n o) (length (take n o)) u' n'
    → Rooted base u o n u' n'
rooted_front o n h r = rooted_there (take n o) o (λ j k. sym (get_or-take n o j 0 k)) (rw (length-take-le n o h) at r)

-- a node over other children
module _ (u w : Term) (kind x y : ℕ) (d : w ≡ rebuilt kind x y) (k : kind ≡ kind_of u) (some : arity_of u ≡ 0 → ⊥) where
  over : (f g : ℕ → Re) → map g (take (arity_of u) (x ∷ y ∷ [])) ≡ map f (children_of u) → grow w g ≡ grow u f
  over f g e = rw (d, k) (grow_rebuilt u x y f g (λ z. absurd (some z)) e)

  stands : (i top : ℕ) → Below u i → All (λ j. j < top) (take (arity_of u) (x ∷ y ∷ [])) → Below w top
  stands i top b l = rw (d, k) (below_rebuilt u x y i top (λ z. absurd (some z)) b l)

-- the stack has what the node takes
module _ {base n : ℕ} {u : Term} (h : Fit base u n) where
  pub takes_one : {a : ℕ} → arity_of u ≡ 1 → a ≡ first_of u → takes base a ≤ n
  unfolding all_take
  takes_one e p = let some = rw (e, ← p) at h.enough in omega arith

  pub takes_two : arity_of u ≡ 2 → {a b : ℕ} → a ≡ first_of u → b ≡ second_of u → takes base a + takes base b ≤ n
  unfolding all_take
  takes_two e p q = let some = rw (e, ← p, ← q) at h.enough in omega arith

  pub takes_last : arity_of u ≡ 2 → {b : ℕ} → b ≡ second_of u → takes base b ≤ n
  takes_last e q = omega (arith, takes_two e refl q)

module _ {base : ℕ} {o : List ℕ} {n : ℕ} {u : Term} (h : Fit base u n) where
  pub rooted_none : arity_of u ≡ 0 → Rooted base u o n u n
  unfolding all_wait
  rooted_none e =
      let alone : (j : ℕ) → Below u j = λ j. below_again u h.place j h.below (rw e tt) in
      record {
        fewer = omega arith;
        is = λ f g same vs d. (rw e at d, grow_agree u 0 g f (alone 0) (λ j k. absurd (omega arith)));
        below = λ top m l. alone top;
      }

  pub rooted_one : {w : Term} {kind x a m : ℕ} → w ≡ rebuilt kind x 0 → kind ≡ kind_of u → arity_of u ≡ 1 → a ≡ first_of u
      → Taken base a o n x m → Rooted base u o n w m
  unfolding all_wait
  rooted_one {w} {kind} {x} d k e p t =
      let some : arity_of u ≡ 0 → ⊥ = λ z. omega arith in
      record {
        fewer = omega (arith, t.fewer);
        is = λ f g same vs z.
            let got = t.is f g same vs (rw (e, ← p) at z) in
            (got.0, over u w kind x 0 d k some f g (rw (e, got.1, p)));
        below = λ top l low. stands u w kind x 0 d k some h.place top h.below (rw e (t.low top l low, tt));
      }

  pub rooted_two : {w : Term} {kind x y a b m l : ℕ} → w ≡ rebuilt kind x y → kind ≡ kind_of u → arity_of u ≡ 2 → a ≡ first_of u → b ≡ second_of u
      → Taken base b o n y m → Taken base a o m x l → Rooted base u o n w l
  unfolding all_wait
  rooted_two {w} {kind} {x} {y} {a} d k e p q second first =
      let some : arity_of u ≡ 0 → ⊥ = λ z. omega arith in
      record {
        fewer = omega (arith, first.fewer, second.fewer);
        is = λ f g same vs z.
            let got = second.is f g same (waits base f a vs) (rw (e, ← p, ← q) at z) in
            let then = first.is f g same vs got.0 in
            (then.0, over u w kind x y d k some f g (rw (e, then.1, got.1, p, q)));
        below = λ top l low.
            let rest = first.low top l (λ j z. low j (omega (arith, second.fewer))) in
            stands u w kind x y d k some h.place top h.below (rw e (rest, (second.low top l low, tt)));
      }

-- ---- the loop

pub putting_first : {s : List ℕ} {top : ℕ} {v : Re} {o : List ℕ} {start : ℕ} (x : List ℕ) → Copied s top v o start
    → Open x s top (length o - start) → Putting s top v (length o) start x s top o 0 start
unfolding terms_at
putting_first x c p =
    record {
      pool = p.pooled.sound;
      same_length = refl;
      from = omega arith;
      within = c.within;
      high = omega arith;
      low = λ j h. absurd (omega arith);
      runs = c.runs;
      ready = p;
      up = omega arith;
      few = omega arith;
      area = refl;
      kept_below = λ i h. refl;
      kept_above = λ i h. refl;
    }

module _ {s : List ℕ} {top : ℕ} {v : Re} {long start : ℕ} {x s' : List ℕ} {top' : ℕ} {o : List ℕ} {n k : ℕ}
    (t : Putting s top v long start x s' top' o n k) where
  -- the end: one number is left
  module _ (none : long ≤ k) where
    last : (terms_at (term s') o n ≡ v ∷ []) × (terms_of s' top' ≡ with_parts (terms_of s top) v)
    last = rw (nodes_none o k (omega (arith, t.same_length))) at t.runs

    one : n ≡ 1
    one = sym (terms_length (term s') o n) ∙ ap length last.0

    pub root_inside : 0 < length o
    root_inside = omega (arith, one, t.high, t.within, t.same_length)

    pub put_copied : (o₀ : List ℕ) → Copied s top v o₀ start → length o₀ ≡ long
        → Put s top (terms_of s top) x s' (get_or o 0 0) top' v (top + size v)
    unfolding terms_at
    put_copied o₀ c l =
        let first : terms_at (term s') o 1 ≡ v ∷ [] = rw one at last.0 in
        record {
          pool = pool_as (with_parts (terms_of s top) v) t.ready.pooled last.1;
          indexed = t.ready.indexed;
          up = t.up;
          few = omega (arith, t.few, t.within, c.few);
          within = t.low 0 (omega (arith, one));
          is = cc (first);
          same_length = t.area;
          kept_below = t.kept_below;
          kept_above = λ i h. t.kept_above i (omega (arith, c.few));
        }

  -- a turn
  module _ (more : k < long) {u : Term} (e : u ≡ node_of (get_or o k 0)) where
    runs : Runs top (term s) v (with_parts (terms_of s top) v) (u ∷ nodes_from o (k + 1)) (terms_at (term s') o n) (terms_of s' top')
    runs = rw (nodes_at_lem o k (omega (arith, t.same_length)), ← e) at t.runs

    abbrev left : List Re
    left = runs.2

    pub fit : Fit top u n
    fit =
        record {
          place = runs.0;
          below = runs.1;
          enough = omega (arith, terms_length (term s') o n, ap length runs.3, all_length top (term s) (children_of u) left);
        }

    module _ {u' : Term} {n' : ℕ} (r : Rooted top u o n u' n') where
      pub asks : Open x s' top' 1 × Below u' top'
      asks = (open_less 1 t.ready (omega arith), r.below top' t.up t.low)

      pub put_inside : n' < length o
      put_inside = omega (arith, r.fewer, t.high, t.same_length)

      module _ {x'' s'' : List ℕ} {root top'' : ℕ} (a : Node s' top' u' x'' s'' root top'') where
        abbrev put : List ℕ
        put = set o n' root

        here : get_or put n' 0 ≡ root
        here = set_there o n' root put_inside

        other : (j : ℕ) → j < n' → get_or put j 0 ≡ get_or o j 0
        other j h = set_other o n' root put_inside j h

        low : (j : ℕ) → j < n' → get_or o j 0 < top'
        low j h = t.low j (omega (arith, r.fewer))

        -- the terms on the stack, and the node's own
        made : (terms_at (term s') o n' ≡ left) × (grow u' (term s') ≡ grow u (term s))
        made = r.is (term s) (term s') (λ i h. frame s s' top i t.pool t.kept_below h) left runs.3

        below : terms_at (term s'') o n' ≡ left
        below =
            terms_same (term s') (term s'') o o n'
            (λ j h. frame s' s'' top' (get_or o j 0) t.ready.pooled.sound a.kept_below (low j h)) ∙ made.0

        stack : terms_at (term s'') put (n' + 1) ≡ grow u (term s) ∷ left
        stack = rw (a.is, below, made.1) at (terms_set (term s'') o n' root put_inside)

        pub putting_next : Putting s top v long start x'' s'' top'' put (n' + 1) (k + 1)
        putting_next =
            let after : drop (k + 1) put ≡ drop (k + 1) o = drop-set-lt (k + 1) o n' root (omega (arith, r.fewer, t.high)) in
            let terms : terms_of s'' top'' ≡ with_term (terms_of s' top') (grow u (term s)) = rw (← made.1) a.pool.holds in
            record {
              pool = t.pool;
              same_length = length-set o n' root ∙ t.same_length;
              from = omega (arith, t.from);
              within = omega arith;
              high = omega (arith, r.fewer, t.high);
              low = below_more (λ (j : ℕ). get_or put j 0 < top'') n' (λ j h. rw (other j h) (omega (arith, low j h, a.up))) (rw here a.within);
              runs = rw (after, stack, terms) runs.4;
              ready = open_after (long - (k + 1)) t.ready a (omega arith);
              up = omega (arith, t.up, a.up);
              few = omega (arith, t.few, a.few);
              area = a.same_length ∙ t.area;
              kept_below = λ i h. a.kept_below i (omega (arith, t.up)) ∙ t.kept_below i h;
              kept_above = λ i h. a.kept_above i (omega (arith, t.few, t.from)) ∙ t.kept_above i h;
            }
