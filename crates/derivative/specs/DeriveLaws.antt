-- Laws for derive and with_rest, one for each of their calls and returns, over what the node told and what the callees answered.
-- Pure laws come first: the limited derivative by its parts, and the cells that a Cat uses.
use Rattle.std.specs.Prelude.{ℕ, ◌+◌, ◌-◌, ◌*◌, ◌<◌, ◌≤◌, ◌≡◌, refl, Bool, true, false, cond, ◌&&◌, ◌||◌, List, Option, None, Some, leb, eqb, length}
use Rattle.std.proofs.Common.{arith, sym, ap, ◌∙◌}
use Rattle.number.specs.Branch.{by_cond}
use Rattle.meaning.specs.declared.Join.{Join}
use Rattle.meaning.specs.declared.Join.TheVariants.{Then, Or, Both}
use Rattle.meaning.specs.Re.{Re, size, is_nothing, is_empty}
use Rattle.meaning.specs.Normal.{cat, negated, formed}
use Rattle.meaning.specs.Derive.{deriv}
use Rattle.meaning.specs.Limited.{Fit, ◌>>=◌, short, fit, deriv_fit}
use Rattle.meaning.specs.Limited.Fit.{Long, Fits}
use Rattle.meaning.proofs.LimitedLaws.{deriv_short, deriv_fits_short}
use Rattle.meaning.specs.Shape.{InShape, Sorts}
use Rattle.meaning.proofs.ShapeLaws.{shape_cat, shape_negated, shape_deriv, cat_members}
use Rattle.meaning.specs.PartLaws.{size_some}
use Rattle.meaning.specs.Tests.{clash}
use Rattle.meaning.specs.SizeLaws.{short_members, part_short}
use Rattle.term.specs.declared.Term.{Term}
use Rattle.term.specs.declared.Term.TheVariants.{Nothing, Empty, Range, Cat, Alt, Star, And, Not}
use Rattle.term.specs.declared.Built.{Built}
use Rattle.term.specs.Cells.{grow, term, Below, Sound}
use Rattle.term.specs.Area.{pending, GrownFree, Room, Makes}
use Rattle.term.specs.Nodes.{kind_of, first_of, second_of, arity_of, Found, OnePart, TwoParts}
use Rattle.term.specs.CellLaws.{sound_less, grown_refl, grown_trans, grown_term, makes_free, makes_after}
use Rattle.term.specs.ReadLaws.{one_part, two_parts, one_size, two_size}
use Rattle.normal.specs.Made.{MadeBy}
use Rattle.normal.specs.Asked.{members, most_members, cat_cells, CountedLinks}
use Rattle.normal.specs.NodeLaws.{members_some}
use Rattle.normal.specs.ChainLaws.{cat_few, cat_idle_left}
use Rattle.normal.specs.AnswerLaws.{Got, long_is, made_term, made_after, long_after}
use Rattle.merged.specs.Asked.{merge_cells, CountedSides}
use Rattle.merged.specs.Builds.{MergedFits}
use Rattle.merged.specs.UniteLaws.{merge_few, merge_idle_left}
use Rattle.derivative.specs.Derives.{deriv_room, deriv_cells, Derives, leaf_left, rest_of, sided, rest_fit, rest_cells, both_sides, join_of, Rested}

-- ---- the limited derivative is short

abbrev Short : Fit → Type 0
Short Long = Unit
Short (Fits v) = short v ≡ true

abbrev Shaped : Fit → Type 0
Shaped Long = Unit
Shaped (Fits v) = InShape v

fit_is_short : (v : Re) → Short (fit v)
fit_is_short v = by_cond Short (short v) (λ e. e) (λ _. tt)

fit_shaped : (v : Re) → InShape v → Shaped (fit v)
fit_shaped v p = by_cond Shaped (short v) (λ _. p) (λ _. tt)

fits_short : (f : Fit) (v : Re) → Short f → f ≡ Fits v → short v ≡ true
fits_short f v h e = rw e at h

-- a derivative that fits is in shape where its term is
derived_shape : (c : ℕ) (r v : Re) → InShape r → deriv_fit c r ≡ Fits v → InShape v
derived_shape c r v s e = rw (deriv_short c r v e) (shape_deriv c r s)

fit_value : (v w : Re) → fit v ≡ Fits w → w ≡ v
fit_value v w = go (short v)
  where
    go : (b : Bool) → cond b (Fits v) Long ≡ Fits w → w ≡ v
    go true e = cc
    go false e = absurd (let z : ◌≡◌ {A = ℕ} 0 1 = cc in omega arith)

-- ---- the limited derivative by its parts: that of the first part, what becomes of it, and where it is joined the second side's

abbrev parts_fit : ℕ → ℕ → Re → Re → Fit
parts_fit c kind x y = do
  v ← deriv_fit c x
  w ← rest_fit kind v y
  elim (both_sides kind x) [
    | true ↦ do
      z ← deriv_fit c y
      fit (formed (join_of kind) w z)
    | false ↦ Fits w
  ]

-- where the second side is not joined, nothing follows
one_step : (m : Fit) (g : Re → Re) → (m >>= λ v. fit (g v)) ≡ (m >>= λ v. fit (g v) >>= λ w. Fits w)
one_step Long g = refl
one_step (Fits v) g = same (fit (g v))
  where
    same : (m : Fit) → m ≡ (m >>= Fits)
    same Long = refl
    same (Fits w) = refl

module _ (c kind : ℕ) (x y : Re) where
  long_1 : deriv_fit c x ≡ Long → parts_fit c kind x y ≡ Long
  long_1 e = rw e

  module _ (v : Re) (d : deriv_fit c x ≡ Fits v) where
    long_2 : rest_fit kind v y ≡ Long → parts_fit c kind x y ≡ Long
    long_2 e = rw (d, e)

    module _ (w : Re) (e : rest_fit kind v y ≡ Fits w) where
      fits_left : both_sides kind x ≡ false → parts_fit c kind x y ≡ Fits w
      fits_left n = rw (d, e, n)

      long_3 : both_sides kind x ≡ true → deriv_fit c y ≡ Long → parts_fit c kind x y ≡ Long
      long_3 n h = rw (d, e, n, h)

      fits_both : both_sides kind x ≡ true → (z : Re) → deriv_fit c y ≡ Fits z → fit (formed (join_of kind) w z) ≡ parts_fit c kind x y
      fits_both n z h = rw (d, e, n, h)

-- what becomes of the first part's derivative is short and in shape, and this uses few cells
module _ (kind : ℕ) (v y : Re) where
  by_kind : (P : Fit → Type 0) → P (Fits v) → P (fit (negated v)) → P (fit (cat v y)) → P (rest_fit kind v y)
  by_kind P f g h = by_cond P (sided kind) (λ _. f) (λ _. by_cond P (eqb kind 7) (λ _. g) (λ _. h))

  rest_short : short v ≡ true → (w : Re) → rest_fit kind v y ≡ Fits w → short w ≡ true
  rest_short e w = fits_short (rest_fit kind v y) w (by_kind Short e (fit_is_short (negated v)) (fit_is_short (cat v y)))

  rest_few : short v ≡ true → rest_cells kind v y ≤ most_members
  rest_few e =
      by_cond (λ n. n ≤ most_members) (sided kind) (λ _. omega arith)
      (λ _. by_cond (λ n. n ≤ most_members) (eqb kind 7) (λ _. omega arith) (λ _. omega (arith, cat_few v y, short_members Then v e)))

  rest_shape : (w : Re) → InShape v → InShape y → rest_fit kind v y ≡ Fits w → InShape w
  rest_shape w p q e = rw e at (by_kind Shaped p (fit_shaped (negated v) (shape_negated v p)) (fit_shaped (cat v y) (shape_cat v y p q)))

-- what with_rest asks to turn the derivative
pub turned_asks : {s : List ℕ} {top da b : ℕ} → CountedLinks s top da b → Sound s top × ((da < top) × Room s top (1 + pending))
turned_asks {s} {top} {da} l = (l.links.sound, (l.links.left, omega (arith, l.count_room, members_some Then (term s da))))

-- ---- the cells that the two steps of a Cat use together

or_left : {p : Bool} (q : Bool) → p ≡ true → (p || q) ≡ true
or_left q e = rw e

or_right : {p q : Bool} → p ≡ false → q ≡ true → (p || q) ≡ true
or_right e f = rw (e, f)

left_none : (v b : Re) → is_nothing v ≡ true → cat v b ≡ Re.Nothing
unfolding cat
left_none v b e = rw e

two_steps : (v b w z : Re) → w ≡ cat v b → InShape w → InShape z → short v ≡ true → short w ≡ true → short z ≡ true → is_nothing b ≡ false
    → is_empty b ≡ false → cat_cells v b + merge_cells Or w z ≤ 2 * most_members
two_steps v b w z e s t sv sw sz m n = go (is_nothing v) (is_empty v) refl refl
  where
    go : (p q : Bool) → is_nothing v ≡ p → is_empty v ≡ q → cat_cells v b + merge_cells Or w z ≤ 2 * most_members
    go true q f g =
        let gone : is_nothing w ≡ true = ap is_nothing (e ∙ left_none v b f) in
        omega (arith, cat_idle_left v b (or_left (is_empty v) f), merge_idle_left Or w z gone)
    go false true f g =
        omega (arith, cat_idle_left v b (or_right f g), merge_few Or tt w z s t, short_members Or w sw, short_members Or z sz)
    go false false f g =
        omega (
          arith,
          cat_few v b,
          short_members Then v sv,
          merge_few Or tt w z s t,
          ap (members Or) e,
          cat_members v b f g m n,
          short_members Or z sz,
        )

-- ---- a term without parts

range_grown : (s : List ℕ) (b : Bool) → grow (cond b Empty Nothing) (term s) ≡ cond b Re.Empty Re.Nothing
range_grown s true = refl
range_grown s false = refl

leaf_fits : (s : List ℕ) (c : ℕ) (u w : Term) → arity_of u ≡ 0 → w ≡ leaf_left u c → Fits (grow w (term s)) ≡ deriv_fit c (grow u (term s))
unfolding deriv_fit deriv
leaf_fits s c Nothing w h e = rw e
leaf_fits s c Empty w h e = rw e
leaf_fits s c (Range lo hi) w h e = rw e (ap Fits (range_grown s (leb lo c && leb c hi)))
leaf_fits s c (Cat a b) w h e = absurd (omega arith)
leaf_fits s c (Alt a b) w h e = absurd (omega arith)
leaf_fits s c (Star a) w h e = absurd (omega arith)
leaf_fits s c (And a b) w h e = absurd (omega arith)
leaf_fits s c (Not a) w h e = absurd (omega arith)

leaf_below : (top c : ℕ) (u w : Term) → w ≡ leaf_left u c → Below w top
leaf_below top c u w e =
    rw e (by_cond (λ v. Below v top) (eqb (kind_of u) 2 && (leb (first_of u) c && leb c (second_of u))) (λ _. tt) (λ _. tt))

-- ---- a node with parts, of any kind: what the derivative asks of its first part and of the rest

-- the cells of what becomes of the first part's derivative, and of the merge with the second side's
abbrev Steps : ℕ → Re → Re → Type 0
Steps kind x y =
    both_sides kind x ≡ true → (v w z : Re) → rest_fit kind v y ≡ Fits w → InShape w → InShape z
    → short v ≡ true → short w ≡ true → short z ≡ true → rest_cells kind v y + merge_cells (join_of kind) w z ≤ 2 * most_members

pub record Parts (s : List ℕ) (i kind a b : ℕ) : Type 0 where
  pub first : a < i
  pub rest : b ≤ i
  pub first_shape : InShape (term s a)
  pub rest_shape : InShape (term s b)
  pub larger : size (term s a) < size (term s i)
  pub is : (c : ℕ) → deriv_fit c (term s i) ≡ parts_fit c kind (term s a) (term s b)
  -- where the second side's derivative is joined
  pub second : both_sides kind (term s a) ≡ true → (b < i) × (size (term s i) ≡ 1 + size (term s a) + size (term s b))
  pub steps : Steps kind (term s a) (term s b)

-- of a node with two parts, and of one with one
of_two : {s : List ℕ} {i a b : ℕ} (kind : ℕ) → TwoParts s i a b → InShape (term s a) → InShape (term s b)
    → ((c : ℕ) → deriv_fit c (term s i) ≡ parts_fit c kind (term s a) (term s b)) → Steps kind (term s a) (term s b) → Parts s i kind a b
of_two kind p t u e h = record {
  first = p.first;
  rest = omega (arith, p.second);
  first_shape = t;
  rest_shape = u;
  larger = omega (arith, two_size p);
  is = e;
  second = λ _. (p.second, two_size p);
  steps = h;
}

of_one : {s : List ℕ} {i a : ℕ} (kind : ℕ) → OnePart s i a → InShape (term s a) → InShape (term s i)
    → ((c : ℕ) → deriv_fit c (term s i) ≡ parts_fit c kind (term s a) (term s i)) → both_sides kind (term s a) ≡ false → Parts s i kind a i
of_one kind p t u e n = record {
  first = p.below;
  rest = omega arith;
  first_shape = t;
  rest_shape = u;
  larger = omega (arith, one_size p);
  is = e;
  second = λ y. absurd (clash y n);
  steps = λ y. absurd (clash y n);
}

-- both operators sort
join_sorts : (kind : ℕ) → Sorts (join_of kind)
join_sorts kind = by_cond Sorts (eqb kind 6) (λ _. tt) (λ _. tt)

-- two derivatives that stand alone, merged
merge_steps : (k : Join) → Sorts k → (w z : Re) → InShape w → InShape z → short w ≡ true → short z ≡ true → merge_cells k w z ≤ 2 * most_members
merge_steps k o w z p q e d = omega (arith, merge_few k o w z p q, short_members k w e, short_members k z d)

parts_of : (s : List ℕ) (i : ℕ) (u : Term) → Found s i u → (arity_of u ≡ 0 → ⊥) → InShape (term s i) → Parts s i (kind_of u) (first_of u) (rest_of u i)
unfolding deriv_fit
parts_of s i Nothing f h t = absurd (h refl)
parts_of s i Empty f h t = absurd (h refl)
parts_of s i (Range lo hi) f h t = absurd (h refl)
parts_of s i (Cat a b) f h t =
    let whole : InShape (Re.Cat (term s a) (term s b)) = rw f.is at t in
    of_two 3 (two_parts f refl refl refl) whole.0 whole.1 (λ c. ap (deriv_fit c) f.is) (λ _ v w z e k l m n o.
    two_steps v (term s b) w z (fit_value (cat v (term s b)) w e) k l m n o whole.2.right_some whole.2.right_long)
parts_of s i (Alt a b) f h t =
    let whole : InShape (Re.Alt (term s a) (term s b)) = rw f.is at t in
    of_two 4 (two_parts f refl refl refl) whole.0 whole.1 (λ c. ap (deriv_fit c) f.is) (λ _ v w z _ k l _ n o. omega (arith, merge_steps Or tt w z k l n o))
parts_of s i (Star a) f h t =
    let whole : InShape (Re.Star (term s a)) = rw f.is at t in
    of_one 5 (one_part f refl refl) whole.0 t (λ c. rw f.is (one_step (deriv_fit c (term s a)) (λ v. cat v (Re.Star (term s a))))) refl
parts_of s i (And a b) f h t =
    let whole : InShape (Re.And (term s a) (term s b)) = rw f.is at t in
    of_two 6 (two_parts f refl refl refl) whole.0 whole.1 (λ c. ap (deriv_fit c) f.is) (λ _ v w z _ k l _ n o. omega (arith, merge_steps Both tt w z k l n o))
parts_of s i (Not a) f h t =
    let whole : InShape (Re.Not (term s a)) = rw f.is at t in
    of_one 7 (one_part f refl refl) whole.0 t (λ c. rw f.is (one_step (deriv_fit c (term s a)) negated)) refl

-- as the code has read it
pub parts : {s : List ℕ} {i : ℕ} {u : Term} {kind a b : ℕ} → Found s i u → (arity_of u ≡ 0 → ⊥) → InShape (term s i) → kind ≡ kind_of u → a ≡ first_of u
    → b ≡ rest_of u i → Parts s i kind a b
parts {s} {i} {u} f h t x y z = rw (x, y, z) (parts_of s i u f h t)

-- ---- a part of a held term

-- cells as they are counted
room_of : (r : Re) (n : ℕ) → size r ≡ n → deriv_room r ≡ (most_members + 1) * n + pending
unfolding deriv_room
room_of r n e = rw e

cells_of : (r : Re) (n : ℕ) → size r ≡ n → deriv_cells r ≡ (most_members + 1) * n - most_members
unfolding deriv_cells
cells_of r n e = rw e

room_size : (r : Re) → deriv_room r ≡ (most_members + 1) * size r + pending
room_size r = room_of r (size r) refl

cells_size : (r : Re) → deriv_cells r ≡ (most_members + 1) * size r - most_members
cells_size r = cells_of r (size r) refl

-- a term's room is its cells, most_members and those that counting may use; and its cells are more than those of its parts together
room_cells : (r : Re) → deriv_room r ≡ deriv_cells r + most_members + pending
room_cells r = omega (arith, room_size r, cells_size r, size_some r)

cells_some : (r : Re) → 1 ≤ deriv_cells r
cells_some r = omega (arith, cells_size r, size_some r)

part_cells : (r x : Re) → size x < size r → deriv_cells x + most_members + 1 ≤ deriv_cells r
part_cells r x h = omega (arith, cells_size r, cells_size x, size_some x)

two_cells : (r x y : Re) → size r ≡ 1 + size x + size y → deriv_cells r ≡ deriv_cells x + deriv_cells y + 2 * most_members + 1
two_cells r x y e = omega (arith, cells_size r, cells_size x, cells_size y, size_some x, size_some y)

-- two derivatives that fit, to be merged
counted_sides : {k : Join} (o : Sorts k) {s : List ℕ} {top a b : ℕ} (x y : Re) → Sound s top → a < top → b < top → term s a ≡ x → term s b ≡ y → InShape x → InShape y
    → short x ≡ true → short y ≡ true → Room s top (2 * most_members + pending) → CountedSides k s top a b
counted_sides {k} o {s} {top} {a} {b} x y ok h g p q t u v w m =
    let room : Room s top (members k (term s a) + members k (term s b) + pending) =
    omega (arith, m, ap (members k) p, ap (members k) q, short_members k x v, short_members k y w) in
    record {
      sides = record {
        sorts = o;
        sound = ok;
        left = h;
        right = g;
        left_shape = rw p t;
        right_shape = rw q u;
        left_short = rw p v;
        right_short = rw q w;
        room = omega arith;
      };
      count_room = room;
    }

module _ {s : List ℕ} {top i : ℕ} (d : Derives s top i) where
  -- a part, after some growth
  later : {s' : List ℕ} {top' : ℕ} (used a : ℕ) → GrownFree pending s top s' top' → top' ≤ top + used → a < i → InShape (term s a)
      → size (term s a) ≤ size (term s i) → used + deriv_cells (term s a) ≤ deriv_cells (term s i) → Derives s' top' a
  later {s'} {top'} used a g h k t l m =
      let up = g.up in
      let held = d.held in
      let same : term s' a ≡ term s a = grown_term a g d.sound (omega arith) in
      record {
        sound = g.sound;
        held = omega arith;
        in_shape = rw same t;
        is_short = rw same (part_short (term s i) (term s a) d.is_short l);
        room = rw same (omega (arith, d.room, g.same_length, room_cells (term s a), room_cells (term s i)));
      }

  -- the first part's derivative is there, to have a held term behind it
  links_after : (c a : ℕ) {b : ℕ} {s₁ : List ℕ} {da first : ℕ} → Got s top s₁ da first (deriv_fit c (term s a)) (deriv_cells (term s a))
      → deriv_cells (term s a) + most_members + 1 ≤ deriv_cells (term s i) → b < top → CountedLinks s₁ first da b
  links_after c a {b} {s₁} {da} {first} g fewer held =
      let few = short_members Then g.value (deriv_fits_short c (term s a) g.value g.fits) in
      let room : Room s₁ first (members Then (term s₁ da) + pending) = omega (
        arith,
        ap (members Then) g.makes.is,
        few,
        g.makes.few,
        g.makes.grown.same_length,
        d.room,
        room_cells (term s i),
      ) in
      record {
        links = record {
          sound = g.makes.grown.sound;
          left = g.makes.within;
          right = omega (arith, g.makes.grown.up);
          room = omega arith;
        };
        count_room = room;
      }

  module _ {u : Term} (f : Found s i u) where
    -- a term without parts
    module _ (k : arity_of u ≡ 0) (c : ℕ) {w : Term} (e : w ≡ leaf_left u c) where
      pub leaf_asks : Sound s top × ((top < length s) × Below w top)
      leaf_asks = (d.sound, (omega (arith, d.room, room_cells (term s i), cells_some (term s i)), leaf_below top c u w e))

      pub leaf_up : {s' : List ℕ} {made : Built} → Makes s top s' made.root made.top (grow w (term s)) 1
          → MadeBy s top s' (Some made) (deriv_fit c (term s i)) (deriv_cells (term s i))
      leaf_up {s'} {made} m =
          made_term made (deriv_fit c (term s i)) (deriv_cells (term s i)) (makes_free pending m)
          (sym (leaf_fits s c u w k e ∙ sym (ap (deriv_fit c) f.is))) (omega (arith, cells_some (term s i)))

  -- a term with parts
  module _ {kind a b : ℕ} (p : Parts s i kind a b) (c : ℕ) where
    fewer : deriv_cells (term s a) + most_members + 1 ≤ deriv_cells (term s i)
    fewer = part_cells (term s i) (term s a) p.larger

    rest_held : b < top
    rest_held = omega (arith, p.rest, d.held)

    pub first_asks : Derives s top a
    first_asks =
        later 0 a (grown_refl d.sound) (omega arith) p.first p.first_shape (omega (arith, p.larger)) (omega (arith, fewer))

    pub first_long : {s₁ : List ℕ} {r : Option Built} → MadeBy s top s₁ r (deriv_fit c (term s a)) (deriv_cells (term s a)) → r ≡ None
        → MadeBy s top s₁ None (deriv_fit c (term s i)) (deriv_cells (term s i))
    first_long m x =
        long_after 0 (deriv_cells (term s i)) (deriv_fit c (term s i)) (grown_refl d.sound) (omega arith) m x
        (p.is c ∙ long_1 c kind (term s a) (term s b) (long_is m x)) (omega (arith, fewer))

    -- the first part's derivative is there
    module _ {s₁ : List ℕ} {da first : ℕ} (g : Got s top s₁ da first (deriv_fit c (term s a)) (deriv_cells (term s a))) where
      da_short : short g.value ≡ true
      da_short = deriv_fits_short c (term s a) g.value g.fits

      da_shape : InShape g.value
      da_shape = derived_shape c (term s a) g.value p.first_shape g.fits

      rest_stays : term s₁ b ≡ term s b
      rest_stays = grown_term b g.makes.grown d.sound rest_held

      pub rest_asks : CountedLinks s₁ first da b
      rest_asks = links_after c a g fewer rest_held

      left_same : rest_fit kind (term s₁ da) (term s₁ b) ≡ rest_fit kind g.value (term s b)
      left_same = cc (g.makes.is, rest_stays)

      left_cells : rest_cells kind (term s₁ da) (term s₁ b) ≡ rest_cells kind g.value (term s b)
      left_cells = cc (g.makes.is, rest_stays)

      left_few : rest_cells kind g.value (term s b) ≤ most_members
      left_few = rest_few kind g.value (term s b) da_short

      pub rest_long : {s₂ : List ℕ} {r : Option Built} → Rested s₁ first kind da b s₂ r → r ≡ None
          → MadeBy s top s₂ None (deriv_fit c (term s i)) (deriv_cells (term s i))
      rest_long m e =
          long_after (deriv_cells (term s a)) (deriv_cells (term s i)) (deriv_fit c (term s i)) g.makes.grown g.makes.few m e
          (p.is c ∙ long_2 c kind (term s a) (term s b) g.value g.fits (sym left_same ∙ long_is m e))
          (omega (arith, left_cells, left_few, fewer))

      -- and the rest behind it
      module _ {s₂ : List ℕ} {left second : ℕ}
          (h : Got s₁ first s₂ left second (rest_fit kind (term s₁ da) (term s₁ b)) (rest_cells kind (term s₁ da) (term s₁ b))) where
        left_fits : rest_fit kind g.value (term s b) ≡ Fits h.value
        left_fits = sym left_same ∙ h.fits

        left_short : short h.value ≡ true
        left_short = rest_short kind g.value (term s b) da_short h.value left_fits

        left_shape : InShape h.value
        left_shape = rest_shape kind g.value (term s b) h.value da_shape p.rest_shape left_fits

        grown_2 : GrownFree pending s top s₂ second
        grown_2 = grown_trans g.makes.grown h.makes.grown

        few_2 : second ≤ top + (deriv_cells (term s a) + rest_cells kind g.value (term s b))
        few_2 = omega (arith, g.makes.few, h.makes.few, left_cells)

        pub both_asks : Sound s₂ (a + 1)
        both_asks = sound_less (a + 1) grown_2.sound (omega (arith, p.first, d.held, grown_2.up))

        pub both_told : {q r : Bool} → q ≡ both_sides kind (term s₂ a) → q ≡ r → both_sides kind (term s a) ≡ r
        both_told e t = sym (ap (both_sides kind) (grown_term a grown_2 d.sound (omega (arith, p.first, d.held)))) ∙ sym e ∙ t

        pub left_alone : both_sides kind (term s a) ≡ false
            → MadeBy s top s₂ (Some (record { root = left; top = second })) (deriv_fit c (term s i)) (deriv_cells (term s i))
        left_alone n =
            made_term _ (deriv_fit c (term s i)) (deriv_cells (term s i)) (makes_after (deriv_cells (term s a)) g.makes.grown g.makes.few h.makes)
            (p.is c ∙ fits_left c kind (term s a) (term s b) g.value g.fits h.value left_fits n)
            (omega (arith, left_cells, left_few, fewer))

        -- the second side's derivative is joined
        module _ (n : both_sides kind (term s a) ≡ true) where
          both_cells : deriv_cells (term s i) ≡ deriv_cells (term s a) + deriv_cells (term s b) + 2 * most_members + 1
          both_cells = two_cells (term s i) (term s a) (term s b) (p.second n).1

          pub second_asks : Derives s₂ second b
          second_asks =
              later (deriv_cells (term s a) + rest_cells kind g.value (term s b)) b grown_2 few_2 (p.second n).0 p.rest_shape
              (omega (arith, (p.second n).1)) (omega (arith, left_few, both_cells))

          rest_stays_2 : term s₂ b ≡ term s b
          rest_stays_2 = grown_term b grown_2 d.sound rest_held

          pub second_long : {s₃ : List ℕ} {r : Option Built} → MadeBy s₂ second s₃ r (deriv_fit c (term s₂ b)) (deriv_cells (term s₂ b)) → r ≡ None
              → MadeBy s top s₃ None (deriv_fit c (term s i)) (deriv_cells (term s i))
          second_long m e =
              let used = deriv_cells (term s a) + rest_cells kind g.value (term s b) in
              long_after used (deriv_cells (term s i)) (deriv_fit c (term s i)) grown_2 few_2 m e
              (p.is c ∙ long_3 c kind (term s a) (term s b) g.value g.fits h.value left_fits n
              (sym (ap (deriv_fit c) rest_stays_2) ∙ long_is m e))
              (omega (arith, left_few, ap deriv_cells rest_stays_2, both_cells))

          module _ {s₃ : List ℕ} {db third : ℕ} (k : Got s₂ second s₃ db third (deriv_fit c (term s₂ b)) (deriv_cells (term s₂ b))) where
            db_fits : deriv_fit c (term s b) ≡ Fits k.value
            db_fits = sym (ap (deriv_fit c) rest_stays_2) ∙ k.fits

            db_short : short k.value ≡ true
            db_short = deriv_fits_short c (term s b) k.value db_fits

            db_shape : InShape k.value
            db_shape = derived_shape c (term s b) k.value p.rest_shape db_fits

            left_stays : term s₃ left ≡ h.value
            left_stays = grown_term left k.makes.grown h.makes.grown.sound h.makes.within ∙ h.makes.is

            few_3 : third ≤ top + (deriv_cells (term s a) + rest_cells kind g.value (term s b) + deriv_cells (term s b))
            few_3 = omega (arith, few_2, k.makes.few, ap deriv_cells rest_stays_2)

            pub merge_asks : {k : Join} → k ≡ join_of kind → CountedSides k s₃ third left db
            merge_asks e =
                rw e (counted_sides (join_sorts kind) h.value k.value k.makes.grown.sound (omega (arith, h.makes.within, k.makes.grown.up))
                k.makes.within left_stays k.makes.is left_shape db_shape left_short db_short
                (omega (arith, few_3, left_few, k.makes.grown.same_length, grown_2.same_length, d.room, room_cells (term s i), both_cells)))

            last_cells : merge_cells (join_of kind) (term s₃ left) (term s₃ db) ≡ merge_cells (join_of kind) h.value k.value
            last_cells = cc (left_stays, k.makes.is)

            last_same : fit (formed (join_of kind) (term s₃ left) (term s₃ db)) ≡ fit (formed (join_of kind) h.value k.value)
            last_same = cc (left_stays, k.makes.is)

            pub merge_up : {j : Join} → j ≡ join_of kind → {s₄ : List ℕ} {r : Option Built} → MergedFits j s₃ third left db s₄ r
                → MadeBy s top s₄ r (deriv_fit c (term s i)) (deriv_cells (term s i))
            merge_up e m =
                let used = deriv_cells (term s a) + rest_cells kind g.value (term s b) + deriv_cells (term s b) in
                made_after used (deriv_cells (term s i)) (deriv_fit c (term s i)) (grown_trans grown_2 k.makes.grown) few_3 (rw e at m)
                (last_same ∙ fits_both c kind (term s a) (term s b) g.value g.fits h.value left_fits n k.value db_fits ∙ sym (p.is c))
                (omega (
                  arith,
                  last_cells,
                  p.steps n g.value h.value k.value left_fits left_shape db_shape da_short left_short db_short,
                  both_cells,
                ))
