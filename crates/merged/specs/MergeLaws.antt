-- Laws for next_member, one for each of its returns: what the first members of two terms tell of their merge.
-- The order of the first members is that of the terms in their cells.
use Prim.Native.Nat.{ℕ, ◌+◌, ◌<◌, Ordering}
use Rattle.std.proofs.Common.{arith, sym, ap, ◌∙◌}
use Rattle.std.specs.Prelude.{◌≡◌, refl, Bool, true, false, List}
use Rattle.meaning.specs.declared.Join.{Join}
use Rattle.meaning.specs.Re.{size}
use Rattle.meaning.specs.Normal.{joined, joins}
use Rattle.meaning.specs.JoinLaws.{joined_size}
use Rattle.meaning.specs.Limited.{short}
use Rattle.meaning.specs.Order.{order}
use Rattle.meaning.specs.Shape.{Sorts, Ordered, InShape, head_of}
use Rattle.meaning.proofs.ShapeLaws.{shape_joined, head_alone, head_more, united_less_one, united_less_more, united_same_one, united_same_left}
use Rattle.meaning.proofs.ShapeLaws.{united_same_more, united_greater_one, united_greater_more}
use Rattle.meaning.specs.SizeLaws.{part_short}
use Rattle.term.specs.declared.Term.{Term}
use Rattle.term.specs.Cells.{term, Sound}
use Rattle.term.specs.Nodes.{first_of, second_of, Found}
use Rattle.term.specs.CellLaws.{sound_less}
use Rattle.normal.specs.Asked.{members}
use Rattle.normal.specs.Nest.{joins_node}
use Rattle.normal.specs.NodeLaws.{Joins, told_joins, told_single, members_rest}
use Rattle.merged.specs.Asked.{Enters, Meets}
use Rattle.merged.specs.Merge.{head_at, Heads, Stands, Pairs, Leads}

-- ---- a term whose members are sorted, by its node

module _ {k : Join} (o : Sorts k) {s : List ℕ} {i : ℕ} (ok : Enters s i) where
  -- it joins a member to the rest
  module _ {x y : ℕ} (f : Joins k s i x y) where
    shape : InShape (term s x) × InShape (term s y) × Ordered k (term s x) (term s y)
    shape = (shape_joined k o (term s x) (term s y)).0 (rw f.is at ok.in_shape)

    head : head_of k (term s i) ≡ term s x
    head = ap (head_of k) f.is ∙ head_more k (term s x) (term s y) shape.2.single

    sized : size (term s i) ≡ 1 + size (term s x) + size (term s y)
    sized = ap size f.is ∙ joined_size k (term s x) (term s y)

  -- its first member
  pub heads : {u : Term} {r : ℕ} → Found s i u → r ≡ head_at k u i → Heads k s i r
  heads {u} {r} f e = go (joins_node k u) refl
    where
      go : (q : Bool) → joins_node k u ≡ q → Heads k s i r
      go true d =
          let g : Joins k s i (first_of u) (second_of u) = told_joins k f refl d refl refl in
          let h : r ≡ first_of u = rw d at e in
          record { is = ap (term s) h ∙ sym (head g); low = omega (arith, g.first); small = rw h (omega (arith, sized g)) }
      go false d =
          let h : r ≡ i = rw d at e in
          record { is = ap (term s) h ∙ sym (head_alone k (term s i) (told_single k f refl d)); low = omega arith; small = rw h (omega arith) }

-- with its first member in cell h: what is left of it
record Splits (k : Join) (s : List ℕ) (i h y : ℕ) : Type 0 where
  is : term s i ≡ joined k (term s h) (term s y)
  in_shape : InShape (joined k (term s h) (term s y))
  low : y < i
  rest : Enters s y
  fewer : members k (term s y) < members k (term s i)

splits : {k : Join} → Sorts k → {s : List ℕ} {i x y h : ℕ} → Enters s i → Joins k s i x y → Heads k s i h → Splits k s i h y
splits {k} o {s} {i} {x} {y} {h} ok f d =
    let is : term s i ≡ joined k (term s h) (term s y) = rw (d.is ∙ head o ok f) f.is in
    record {
      is = is;
      in_shape = rw is at ok.in_shape;
      low = f.rest;
      rest = record {
        in_shape = (shape o ok f).1;
        is_short = part_short (term s i) (term s y) ok.is_short (omega (arith, sized o ok f));
        some = (shape o ok f).2.right_some;
      };
      fewer = rw f.is (members_rest k (term s x) (term s y));
    }

-- ---- the returns

module _ {k : Join} {s : List ℕ} {a b : ℕ} (m : Meets k s a b) {h r : ℕ} (p : Heads k s a h) (q : Heads k s b r) where
  pub heads_ask : Sound s (h + 1) × (Sound s (r + 1) × (short (term s h) ≡ true))
  heads_ask = (
    sound_less (h + 1) m.left_sound (omega (arith, p.low)),
    (sound_less (r + 1) m.right_sound (omega (arith, q.low)), part_short (term s a) (term s h) m.left.is_short p.small),
  )

  heads_order : {o : Ordering} → order (term s h) (term s r) ≡ o → order (head_of k (term s a)) (head_of k (term s b)) ≡ o
  heads_order e = cc (p.is, q.is)

  -- one member
  module _ (n : joins k (term s a) ≡ false) where
    pub less_one : order (term s h) (term s r) ≡ Ordering.lt → Pairs k s a b a b
    less_one e = record {
      is = united_less_one k m.sorts (term s a) (term s b) m.right.in_shape n (heads_order e);
      low = λ i x y. (x, y);
    }

    pub same_one : order (term s h) (term s r) ≡ Ordering.eq → Stands k s a b b
    same_one e = record {
      is = sym (united_same_one k m.sorts (term s a) (term s b) m.right.in_shape n (heads_order e));
      low = λ i x y. y;
    }

  pub greater_one : joins k (term s b) ≡ false → order (term s h) (term s r) ≡ Ordering.gt → Pairs k s a b b a
  greater_one n e = record {
    is = united_greater_one k m.sorts (term s a) (term s b) m.left.in_shape n (heads_order e);
    low = λ i x y. (y, x);
  }

  -- the first goes on
  module _ {x y : ℕ} (f : Joins k s a x y) where
    left_splits : Splits k s a h y
    left_splits = splits m.sorts m.left f p

    pub less_more : order (term s h) (term s r) ≡ Ordering.lt → Leads k s a b h y b
    less_more e =
        let d = left_splits in
        let o : order (term s h) (head_of k (term s b)) ≡ Ordering.lt = cc q.is in
        record {
          is = cc (d.is, united_less_more k m.sorts (term s h) (term s y) (term s b) d.in_shape o);
          low = λ i u v. (omega (arith, p.low), (omega (arith, d.low), v));
          falls = omega (arith, d.low);
          left_enters = d.rest;
          right_enters = m.right;
          fewer = omega (arith, d.fewer);
        }

    pub same_left : joins k (term s b) ≡ false → order (term s h) (term s r) ≡ Ordering.eq → Stands k s a b a
    same_left n e =
        let d = left_splits in
        let o : order (term s h) (head_of k (term s b)) ≡ Ordering.eq = cc q.is in
        record {
          is = cc (d.is, united_same_left k m.sorts (term s h) (term s y) (term s b) d.in_shape n o);
          low = λ i u v. u;
        }

  -- the second goes on
  module _ {x y : ℕ} (g : Joins k s b x y) where
    right_splits : Splits k s b r y
    right_splits = splits m.sorts m.right g q

    pub greater_more : order (term s h) (term s r) ≡ Ordering.gt → Leads k s a b r a y
    greater_more e =
        let d = right_splits in
        let o : order (head_of k (term s a)) (term s r) ≡ Ordering.gt = cc p.is in
        record {
          is = cc (d.is, united_greater_more k m.sorts (term s a) (term s r) (term s y) d.in_shape o);
          low = λ i u v. (omega (arith, q.low), (u, omega (arith, d.low)));
          falls = omega (arith, d.low);
          left_enters = m.left;
          right_enters = d.rest;
          fewer = omega (arith, d.fewer);
        }

  -- both go on
  pub same_more : {x y z w : ℕ} → Joins k s a x y → Joins k s b z w → order (term s h) (term s r) ≡ Ordering.eq → Leads k s a b r y w
  same_more {x} {y} {z} {w} f g o =
      let d = left_splits f in
      let e = right_splits g in
      record {
        is = cc (d.is, e.is, united_same_more k m.sorts (term s h) (term s y) (term s r) (term s w) d.in_shape e.in_shape o);
        low = λ i u v. (omega (arith, q.low), (omega (arith, d.low), omega (arith, e.low)));
        falls = omega (arith, d.low, e.low);
        left_enters = d.rest;
        right_enters = e.rest;
        fewer = omega (arith, d.fewer, e.fewer);
      }
