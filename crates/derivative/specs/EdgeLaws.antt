-- Laws for next_edge: the edge of a leaf, how going through a term begins, what a turn makes of it, and what its end tells.
-- In a turn a leaf makes way for the last place that waits, and anything else for its children.
use Rattle.std.specs.Prelude.{ℕ, ◌+◌, ◌-◌, ◌<◌, ◌≤◌, min, ◌≡◌, refl, true, List, [], ◌∷◌, leb, ltb, eqb, length, get_or, set, replicate}
use Rattle.std.proofs.Common.{arith, sym, ap, subst, ◌∙◌}
use Rattle.std.proofs.Math.ListN.{length-replicate}
use borrow.Author.Tests.{eqb-true, ne_eqb}
use Rattle.number.specs.Branch.{by_cond}
use Rattle.number.specs.Limits.{bytes, last_byte, work_cells}
use Rattle.meaning.specs.Re.{Re, parts, sizes}
use Rattle.meaning.specs.Limited.{short}
use Rattle.meaning.specs.SizeLaws.{short_size}
use Rattle.meaning.specs.Edges.{range_edge, own_edge, next_edge, next_edge_all}
use Rattle.meaning.proofs.EdgeLaws.{edge_parts, edge_none, edge_more, edge_within}
use Rattle.term.specs.declared.Term.{Term}
use Rattle.term.specs.declared.Term.TheVariants.{Nothing, Empty, Range, Cat, Alt, Star, And, Not}
use Rattle.term.specs.Cells.{node_of, grow, term, Below, Sound}
use Rattle.term.specs.Nodes.{kind_of, first_of, second_of, arity_of, Fields, Found, OnePart, TwoParts}
use Rattle.term.specs.Places.{terms_at, ahead, most_waiting}
use Rattle.term.specs.CellLaws.{below_fields, found}
use Rattle.term.specs.ReadLaws.{of_kind, arity_kind, no_parts, one_part, two_parts, one_size, two_size}
use Rattle.term.specs.PlaceLaws.{listed_less, listed_more, terms_last, terms_set, sizes_most, ahead_last, ahead_set}
use Rattle.derivative.specs.Waiting.{leaf_edge, Passing}

-- ---- one node

no_range : (c : ℕ) (u : Term) → (kind_of u ≡ 2 → ⊥) → bytes ≡ leaf_edge u c
no_range c u h = rw (ne_eqb (kind_of u) 2 h)

-- a range's is the term's own
own_grow : (c : ℕ) (u : Term) (f : ℕ → Re) → own_edge c (grow u f) ≡ leaf_edge u c
own_grow c Nothing f = refl
own_grow c Empty f = refl
own_grow c (Range lo hi) f = refl
own_grow c (Cat a b) f = refl
own_grow c (Alt a b) f = refl
own_grow c (Star a) f = refl
own_grow c (And a b) f = refl
own_grow c (Not a) f = refl

range_within : (c lo hi : ℕ) → lo ≤ last_byte → hi ≤ last_byte → range_edge c lo hi ≤ bytes
unfolding range_edge
range_within c lo hi h k =
    by_cond (λ n. n ≤ bytes) (ltb c lo) (λ _. omega arith) (λ _. by_cond (λ n. n ≤ bytes) (leb c hi) (λ _. omega arith) (λ _. omega arith))

-- what a node tells of its term's edge, by the number of its children
module _ {s : List ℕ} {i : ℕ} {u : Term} (f : Found s i u) (c : ℕ) where
  leaf_within : leaf_edge u c ≤ bytes
  leaf_within = by_cond (λ n. n ≤ bytes) (eqb (kind_of u) 2) within (λ _. omega arith)
    where
      within : eqb (kind_of u) 2 ≡ true → range_edge c (first_of u) (second_of u) ≤ bytes
      within e =
          let b : Below (Range (first_of u) (second_of u)) i = subst (λ (v : Term). Below v i) (of_kind u 2 (eqb-true (kind_of u) 2 e)) f.below in
          range_within c (first_of u) (second_of u) b.0 b.1

  edge_found : next_edge c (term s i) ≡ min (leaf_edge u c) (next_edge_all c (parts (term s i)))
  edge_found = edge_parts c (term s i) ∙ ap (λ e. min e (next_edge_all c (parts (term s i)))) (ap (own_edge c) f.is ∙ own_grow c u (term s))

  pub leaf_edge_lem : arity_of u ≡ 0 → next_edge c (term s i) ≡ leaf_edge u c
  leaf_edge_lem e = omega (arith, edge_found, ap (next_edge_all c) (no_parts f e), edge_none c, leaf_within)

  inner : (arity_of u ≡ 0 → ⊥) → leaf_edge u c ≡ bytes
  inner h = sym (no_range c u (λ e. h (arity_kind u ∙ rw e)))

  one_edge : {a : ℕ} → arity_of u ≡ 1 → a ≡ first_of u → next_edge c (term s i) ≡ next_edge c (term s a)
  one_edge {a} e p =
      omega (
        arith,
        edge_found,
        inner (λ z. omega arith),
        ap (next_edge_all c) (one_part f e p).is,
        edge_more c (term s a) [],
        edge_none c,
        edge_within c (term s a),
      )

  two_edge : {a b : ℕ} → arity_of u ≡ 2 → a ≡ first_of u → b ≡ second_of u → next_edge c (term s i) ≡ min (next_edge c (term s a)) (next_edge c (term s b))
  two_edge {a} {b} e p q =
      omega (
        arith,
        edge_found,
        inner (λ z. omega arith),
        ap (next_edge_all c) (two_parts f e p q).is,
        edge_more c (term s a) (term s b ∷ []),
        edge_more c (term s b) [],
        edge_none c,
        edge_within c (term s b),
      )

-- ---- the terms that wait

none_wait : (c : ℕ) (s l : List ℕ) (n : ℕ) → n ≡ 0 → next_edge_all c (terms_at (term s) l n) ≡ bytes
unfolding terms_at
none_wait c s l n e = rw e (edge_none c)

-- ---- the loop

module _ {s : List ℕ} {i : ℕ} (ok : Sound s (i + 1)) (fits : short (term s i) ≡ true) (c : ℕ) where
  pub passing_first : Passing s i c (replicate most_waiting 0) 0 bytes i
  unfolding terms_at sizes
  passing_first =
      record {
        held = omega arith;
        listed = record { long = length-replicate {A = ℕ} most_waiting 0; low = λ j h. absurd (omega arith) };
        few = omega arith;
        most = omega arith;
        edge = omega (arith, edge_within c (term s i), edge_none c);
      }

  module _ {l : List ℕ} {count least at : ℕ} (t : Passing s i c l count least at) {u : Term} (e : u ≡ node_of (get_or s at 0)) where
    here : Found s at u
    here = found s (i + 1) at u ok (omega (arith, t.held)) e

    pub fields : Fields u
    fields = below_fields u at (omega (arith, t.held, ok.room, ok.small)) here.below

    -- a leaf: it is the last, or a place that waits comes next
    module _ (leaf : arity_of u ≡ 0) where
      pub edge_told : {m : ℕ} → m ≡ min least (leaf_edge u c) → count ≡ 0 → m ≡ next_edge c (term s i)
      edge_told n none = omega (arith, t.edge, t.most, leaf_edge_lem here c leaf, none_wait c s l count none)

      module _ (some : count ≡ 0 → ⊥) where
        pub last_inside : count - 1 < most_waiting
        last_inside = omega (arith, t.few, sizes_most (term s) l count, short_size (term s i) fits)

        pub leaf_less : ahead s l (count - 1) (get_or l (count - 1) 0) < ahead s l count at
        leaf_less = ahead_last s l count at (omega arith)

        pub leaf_next : {m : ℕ} → m ≡ min least (leaf_edge u c) → Passing s i c l (count - 1) m (get_or l (count - 1) 0)
        leaf_next n =
            record {
              held = t.listed.low (count - 1) (omega arith);
              listed = listed_less t.listed;
              few = omega (arith, t.few, leaf_less);
              most = omega (arith, t.most);
              edge =
                  omega (
                    arith,
                    t.edge,
                    leaf_edge_lem here c leaf,
                    ap (next_edge_all c) (terms_last (term s) l count (omega arith)),
                    edge_more c (term s (get_or l (count - 1) 0)) (terms_at (term s) l (count - 1)),
                  );
            }

    module _ {a : ℕ} (k : arity_of u ≡ 1) (p : a ≡ first_of u) where
      only : OnePart s at a
      only = one_part here k p

      pub one_less : ahead s l count a < ahead s l count at
      one_less = omega (arith, one_size only)

      pub one_next : Passing s i c l count least a
      one_next =
          record {
            held = omega (arith, only.below, t.held);
            listed = t.listed;
            few = omega (arith, t.few, one_less);
            most = t.most;
            edge = omega (arith, t.edge, one_edge here c k p);
          }

    -- two children: the second waits
    module _ {a b : ℕ} (k : arity_of u ≡ 2) (p : a ≡ first_of u) (q : b ≡ second_of u) where
      both : TwoParts s at a b
      both = two_parts here k p q

      pub second_small : b < work_cells
      second_small = omega (arith, both.second, t.held, ok.room, ok.small)

      pub end_inside : count < most_waiting
      end_inside = omega (arith, t.few, sizes_most (term s) l count, short_size (term s i) fits)

      inside : count < length l
      inside = omega (arith, end_inside, t.listed.long)

      pub two_less : ahead s (set l count b) (count + 1) a < ahead s l count at
      two_less = ahead_set s l count at a b inside (two_size both)

      pub two_next : Passing s i c (set l count b) (count + 1) least a
      two_next =
          record {
            held = omega (arith, both.first, t.held);
            listed = listed_more t.listed end_inside (omega (arith, both.second, t.held));
            few = omega (arith, t.few, two_less);
            most = t.most;
            edge =
                omega (
                  arith,
                  t.edge,
                  two_edge here c k p q,
                  ap (next_edge_all c) (terms_set (term s) l count b inside),
                  edge_more c (term s b) (terms_at (term s) l count),
                );
          }
