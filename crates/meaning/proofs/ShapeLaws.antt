-- The normal form has the shape of Shape.antt, and on terms in that shape merging is alt and both, one law for each way the merge goes.
-- Code that builds terms node by node cites these laws and never sees a list of members.
use Prim.Native.Nat.{ℕ, ◌+◌, ◌≤◌, Ordering}
use Rattle.std.proofs.Common.{arith, sym, subst, ◌∙◌}
use Rattle.std.specs.Prelude.{◌≡◌, Bool, cond, ◌&&◌, ◌||◌, ◌↔◌, leb, length}
use Rattle.std.proofs.Math.Path.{refl, ap}
use Rattle.std.proofs.Math.Bool.{true, false}
use mathlib.Core.List.{List, [], ◌∷◌, ◌++◌, head_d, tail, append-nil}
use Rattle.number.specs.Branch.{by_cond}
use Rattle.meaning.specs.Re.{Re, is_nothing, is_empty}
use Rattle.meaning.specs.Re.Re.{Nothing, Empty, Range, Cat, Alt, Star, And, Not}
use Rattle.meaning.specs.PartLaws.{All}
use Rattle.meaning.specs.Order.{order, turned}
use Rattle.meaning.specs.OrderLaws.{order_turned, order_trans, order_equal}
use Rattle.meaning.specs.declared.Join.{Join}
use Rattle.meaning.specs.declared.Join.TheVariants.{Then, Or, Both}
use Rattle.meaning.specs.Normal.{joined, joins, chain, cat, gathered, kept, placed, spoilt, sorted, nested, alt, both, formed, star, negated, normal, Before}
use Rattle.meaning.specs.JoinLaws.{by_members, joined_some, gathered_alone, gathered_more, Full, gathered_full, nested_more, chain_one}
use Rattle.meaning.proofs.NormalShape.{Rising, sorted_rising}
use Rattle.meaning.specs.Derive.{nullable, deriv}
use Rattle.meaning.specs.Shape.{Sorts, InShape, Ordered, head_of, beside, merge, united}
use Rattle.meaning.specs.Tests.{or_of_true, is_nothing_lem}

-- the shape of what is joined by an operator that sorts
pub shape_joined : (j : Join) → Sorts j → (a b : Re) → InShape (joined j a b) ↔ (InShape a × InShape b × Ordered j a b)
shape_joined Then o a b = absurd o
shape_joined Or o a b = (λ s. s, λ s. s)
shape_joined Both o a b = (λ s. s, λ s. s)

-- a member of a term in shape
pub record Member (j : Join) (r : Re) : Type 0 where
  pub in_shape : InShape r
  pub single : joins j r ≡ false
  pub some : is_nothing r ≡ false

-- the first of what is gathered
pub gathered_head : (j : Join) (r : Re) → gathered j r ≡ head_of j r ∷ tail (gathered j r)
unfolding head_d
gathered_head j r = go (gathered j r) (gathered_full j r)
  where
    go : (xs : List Re) → Full xs → xs ≡ head_d xs Nothing ∷ tail xs
    go [] f = absurd f
    go (x ∷ xs) f = refl

pub head_alone : (j : Join) (r : Re) → joins j r ≡ false → head_of j r ≡ r
unfolding head_d
head_alone j r e = rw (gathered_alone j r e)

pub head_more : (j : Join) (x xs : Re) → joins j x ≡ false → head_of j (joined j x xs) ≡ x
unfolding head_d
head_more j x xs e = rw (gathered_more j x xs e)

-- what is gathered of a term in shape, and that nesting and gathering undo each other
module _ (j : Join) (o : Sorts j) where
  -- an induction: each member alone, and one before the others
  by_shape : (P : Re → Type 0) → ((r : Re) → joins j r ≡ false → InShape r → P r)
      → ((a b : Re) → InShape a → InShape b → Ordered j a b → P b → P (joined j a b)) → (r : Re) → InShape r → P r
  by_shape P f g =
      by_members j (λ r. InShape r → P r) f (λ a b _ ih s. let t = (shape_joined j o a b).0 s in g a b t.0 t.1 t.2 (ih t.1))

  pub gathered_members : (r : Re) → InShape r → is_nothing r ≡ false → All (Member j) (gathered j r)
  gathered_members =
      by_shape (λ r. is_nothing r ≡ false → All (Member j) (gathered j r))
      (λ r e s n. rw (gathered_alone j r e) (record { in_shape = s; single = e; some = n }, tt))
      (λ a b s t d ih n.
      rw (gathered_more j a b d.single) (record { in_shape = s; single = d.single; some = d.left_some }, ih d.right_some))

  pub gathered_rising : (r : Re) → InShape r → Rising (gathered j r)
  gathered_rising =
      by_shape (λ r. Rising (gathered j r)) (λ r e s. rw (gathered_alone j r e) (tt, tt))
      (λ a b s t d ih. rw (gathered_more j a b d.single) (d.before, ih))

  pub nested_gathered : (r : Re) → InShape r → nested j (gathered j r) ≡ r
  unfolding nested
  nested_gathered =
      by_shape (λ r. nested j (gathered j r) ≡ r) (λ r e s. rw (gathered_alone j r e))
      (λ a b s t d ih.
      rw (gathered_more j a b d.single) (nested_more j a (gathered j b) (gathered_full j b) ∙ ap (joined j a) ih))

  nested_joined : (x r : Re) → InShape r → nested j (x ∷ gathered j r) ≡ joined j x r
  nested_joined x r s = nested_more j x (gathered j r) (gathered_full j r) ∙ ap (joined j x) (nested_gathered r s)

  gathered_nested : (xs : List Re) → Full xs → All (Member j) xs → gathered j (nested j xs) ≡ xs
  unfolding nested
  gathered_nested [] f m = absurd f
  gathered_nested (x ∷ []) f m = gathered_alone j x m.0.single
  gathered_nested (x ∷ y ∷ ys) f m =
      gathered_more j x (nested j (y ∷ ys)) m.0.single ∙ ap {B = List Re} (λ r. x ∷ r) (gathered_nested (y ∷ ys) tt m.1)

  nested_some : (xs : List Re) → Full xs → All (Member j) xs → is_nothing (nested j xs) ≡ false
  unfolding nested
  nested_some [] f m = absurd f
  nested_some (x ∷ []) f m = m.0.some
  nested_some (x ∷ y ∷ ys) f m = joined_some j x (nested j (y ∷ ys))

  nested_shape : (xs : List Re) → All (Member j) xs → Rising xs → InShape (nested j xs)
  unfolding nested
  nested_shape [] m r = tt
  nested_shape (x ∷ []) m r = m.0.in_shape
  nested_shape (x ∷ y ∷ ys) m r =
      (shape_joined j o x (nested j (y ∷ ys))).1 (
        m.0.in_shape,
        nested_shape (y ∷ ys) m.1 r.1,
        record {
          single = m.0.single;
          left_some = m.0.some;
          right_some = nested_some (y ∷ ys) tt m.1;
          before = rw (gathered_nested (y ∷ ys) tt m.1) r.0;
        },
      )

-- the merge's steps
merge_end : (xs : List Re) → merge xs [] ≡ xs
unfolding merge
merge_end [] = refl
merge_end (x ∷ xs) = refl

merge_less : (x y : Re) (xs ys : List Re) → order x y ≡ Ordering.lt → merge (x ∷ xs) (y ∷ ys) ≡ x ∷ merge xs (y ∷ ys)
unfolding merge
merge_less x y xs ys e = rw (e, merge)

merge_same : (x y : Re) (xs ys : List Re) → order x y ≡ Ordering.eq → merge (x ∷ xs) (y ∷ ys) ≡ y ∷ merge xs ys
unfolding merge
merge_same x y xs ys e = rw (e, merge)

merge_more : (x y : Re) (xs ys : List Re) → order x y ≡ Ordering.gt → merge (x ∷ xs) (y ∷ ys) ≡ y ∷ merge (x ∷ xs) ys
unfolding merge
merge_more x y xs ys e = rw (e, merge)

-- a member that stands before the whole first list comes first
merge_later : (xs : List Re) (y : Re) (ys : List Re) → Before y xs → merge xs (y ∷ ys) ≡ y ∷ merge xs ys
unfolding merge
merge_later [] y ys b = refl
merge_later (x ∷ xs) y ys b = merge_more x y xs ys (order_turned y x ∙ ap turned b)

-- an induction along the merge, and what holds of it where it holds of both lists
module _ (P : List Re → List Re → List Re → Type 0) (none : (ys : List Re) → P [] ys ys) (all : (xs : List Re) → P xs [] xs)
    (less : (x y : Re) (xs ys zs : List Re) → P xs (y ∷ ys) zs → P (x ∷ xs) (y ∷ ys) (x ∷ zs))
    (same : (x y : Re) (xs ys zs : List Re) → P xs ys zs → P (x ∷ xs) (y ∷ ys) (y ∷ zs))
    (more : (x y : Re) (xs ys zs : List Re) → P (x ∷ xs) ys zs → P (x ∷ xs) (y ∷ ys) (y ∷ zs)) where
  by_merge : (xs ys : List Re) → P xs ys (merge xs ys)
  unfolding merge
  by_merge [] ys = none ys
  by_merge (x ∷ xs) [] = all (x ∷ xs)
  by_merge (x ∷ xs) (y ∷ ys) = go (order x y) refl (by_merge xs (y ∷ ys)) (by_merge xs ys) (by_merge (x ∷ xs) ys)
    where
      go : (o : Ordering) → order x y ≡ o → P xs (y ∷ ys) (merge xs (y ∷ ys)) → P xs ys (merge xs ys) → P (x ∷ xs) ys (merge (x ∷ xs) ys)
          → P (x ∷ xs) (y ∷ ys) (merge (x ∷ xs) (y ∷ ys))
      go Ordering.lt e f g h = rw (e, merge) (less x y xs ys _ f)
      go Ordering.eq e f g h = rw (e, merge) (same x y xs ys _ g)
      go Ordering.gt e f g h = rw (e, merge) (more x y xs ys _ h)

merge_before : (z : Re) (xs ys : List Re) → Before z xs → Before z ys → Before z (merge xs ys)
merge_before z =
    by_merge (λ xs ys zs. Before z xs → Before z ys → Before z zs) (λ ys b d. d) (λ xs b d. b)
    (λ x y xs ys zs _ b d. b) (λ x y xs ys zs _ b d. d) (λ x y xs ys zs _ b d. d)

merge_members : (j : Join) (xs ys : List Re) → All (Member j) xs → All (Member j) ys → All (Member j) (merge xs ys)
merge_members j =
    by_merge (λ xs ys zs. All (Member j) xs → All (Member j) ys → All (Member j) zs) (λ ys m n. n) (λ xs m n. m)
    (λ x y xs ys zs f m n. (m.0, f m.1 n)) (λ x y xs ys zs f m n. (n.0, f m.1 n.1)) (λ x y xs ys zs f m n. (n.0, f m n.1))

merge_full : (xs ys : List Re) → Full ys → Full (merge xs ys)
merge_full =
    by_merge (λ xs ys zs. Full ys → Full zs) (λ ys f. f) (λ xs f. absurd f)
    (λ x y xs ys zs _ f. tt) (λ x y xs ys zs _ f. tt) (λ x y xs ys zs _ f. tt)

merge_length : (xs ys : List Re) → length (merge xs ys) ≤ length xs + length ys
merge_length =
    by_merge (λ xs ys zs. length zs ≤ length xs + length ys) (λ ys. omega arith) (λ xs. omega arith)
    (λ x y xs ys zs h. omega arith) (λ x y xs ys zs h. omega arith) (λ x y xs ys zs h. omega arith)

-- sorting what already rises, and two such lists one after the other
placed_first : (x : Re) (ys : List Re) → Before x ys → placed x ys ≡ x ∷ ys
unfolding placed
placed_first x [] b = refl
placed_first x (y ∷ ys) b = rw (b, placed)

sorted_same : (xs : List Re) → Rising xs → sorted xs ≡ xs
unfolding sorted
sorted_same [] r = refl
sorted_same (x ∷ xs) r = rw (sorted_same xs r.1) (placed_first x xs r.0)

before_later : (y x : Re) (xs : List Re) → order y x ≡ Ordering.lt → Before x xs → Before y xs
before_later y x [] e b = tt
before_later y x (z ∷ zs) e b = order_trans y x z e b

placed_merge : (x : Re) (xs ys : List Re) → Before x xs → placed x (merge xs ys) ≡ merge (x ∷ xs) ys
unfolding merge placed
placed_merge x xs [] b = rw (merge_end xs) (placed_first x xs b)
placed_merge x xs (y ∷ ys) b = go (order x y) refl (placed_merge x xs ys b)
  where
    go : (o : Ordering) → order x y ≡ o → placed x (merge xs ys) ≡ merge (x ∷ xs) ys → placed x (merge xs (y ∷ ys)) ≡ merge (x ∷ xs) (y ∷ ys)
    go Ordering.lt e ih = placed_first x (merge xs (y ∷ ys)) (merge_before x xs (y ∷ ys) b e) ∙ sym (merge_less x y xs ys e)
    go Ordering.eq e ih = rw (merge_later xs y ys (subst (λ (z : Re). Before z xs) (order_equal x y e) b), merge_same x y xs ys e) (rw (e, placed))
    go Ordering.gt e ih =
        rw (merge_later xs y ys (before_later y x xs (order_turned x y ∙ ap turned e) b), merge_more x y xs ys e)
        (rw (e, placed) (ap {B = List Re} (λ r. y ∷ r) ih))

sorted_merge : (xs ys : List Re) → Rising xs → Rising ys → sorted (xs ++ ys) ≡ merge xs ys
unfolding sorted merge
sorted_merge [] ys r q = sorted_same ys q
sorted_merge (x ∷ xs) ys r q = rw (sorted_merge xs ys r.1 q) (placed_merge x xs ys r.0)

kept_append : (xs ys : List Re) → kept (xs ++ ys) ≡ kept xs ++ kept ys
unfolding kept
kept_append [] ys = refl
kept_append (x ∷ xs) ys =
    rw (kept_append xs ys)
    (by_cond (λ zs. zs ≡ cond (is_nothing x) (kept xs) (x ∷ kept xs) ++ kept ys) (is_nothing x) (λ e. rw e) (λ e. rw e))

kept_members : (j : Join) (xs : List Re) → All (Member j) xs → kept xs ≡ xs
unfolding kept
kept_members j [] m = refl
kept_members j (x ∷ xs) m = rw m.0.some (ap {B = List Re} (λ r. x ∷ r) (kept_members j xs m.1))

spoilt_append : (xs ys : List Re) → spoilt (xs ++ ys) ≡ (spoilt xs || spoilt ys)
unfolding spoilt
spoilt_append [] ys = refl
spoilt_append (x ∷ xs) ys = rw (spoilt_append xs ys) (go (is_nothing x))
  where
    go : (b : Bool) → (b || (spoilt xs || spoilt ys)) ≡ ((b || spoilt xs) || spoilt ys)
    go true = refl
    go false = refl

unspoilt : (j : Join) (xs : List Re) → All (Member j) xs → spoilt xs ≡ false
unfolding spoilt
unspoilt j [] m = refl
unspoilt j (x ∷ xs) m = rw m.0.some (unspoilt j xs m.1)

-- merging two terms in shape, neither of which is Nothing: sorting what is gathered from both; in shape again, and with no more members than both have
module _ (j : Join) (o : Sorts j) (a b : Re) (s : InShape a) (t : InShape b) where
  pub sorted_both : sorted (gathered j a ++ gathered j b) ≡ merge (gathered j a) (gathered j b)
  sorted_both = sorted_merge (gathered j a) (gathered j b) (gathered_rising j o a s) (gathered_rising j o b t)

  module _ (m : is_nothing a ≡ false) (n : is_nothing b ≡ false) where
    merged : All (Member j) (merge (gathered j a) (gathered j b))
    merged = merge_members j (gathered j a) (gathered j b) (gathered_members j o a s m) (gathered_members j o b t n)

    full : Full (merge (gathered j a) (gathered j b))
    full = merge_full (gathered j a) (gathered j b) (gathered_full j b)

    pub gathered_united : gathered j (united j a b) ≡ merge (gathered j a) (gathered j b)
    unfolding united
    gathered_united = gathered_nested j o (merge (gathered j a) (gathered j b)) full merged

    pub united_some : is_nothing (united j a b) ≡ false
    unfolding united
    united_some = nested_some j o (merge (gathered j a) (gathered j b)) full merged

    pub shape_united : InShape (united j a b)
    unfolding united
    shape_united =
        nested_shape j o (merge (gathered j a) (gathered j b)) merged (subst Rising sorted_both (sorted_rising (gathered j a ++ gathered j b)))

    pub united_members : length (gathered j (united j a b)) ≤ length (gathered j a) + length (gathered j b)
    united_members = rw gathered_united (merge_length (gathered j a) (gathered j b))

-- the ways of the merge; the first members are compared
module _ (j : Join) (o : Sorts j) where
  single : (x xs : Re) → InShape (joined j x xs) → joins j x ≡ false
  single x xs s = ((shape_joined j o x xs).0 s).2.single

  -- by the first members of both
  less : (a b x : Re) (xs : List Re) → gathered j a ≡ x ∷ xs → order x (head_of j b) ≡ Ordering.lt → united j a b ≡ nested j (x ∷ merge xs (gathered j b))
  unfolding united
  less a b x xs p e = rw (p, gathered_head j b, merge_less x (head_of j b) xs (tail (gathered j b)) e)

  same : (a b x y : Re) (xs ys : List Re) → gathered j a ≡ x ∷ xs → gathered j b ≡ y ∷ ys → order x y ≡ Ordering.eq
      → united j a b ≡ nested j (y ∷ merge xs ys)
  unfolding united
  same a b x y xs ys p q e = rw (p, q, merge_same x y xs ys e)

  more : (a b y : Re) (ys : List Re) → gathered j b ≡ y ∷ ys → order (head_of j a) y ≡ Ordering.gt → united j a b ≡ nested j (y ∷ merge (gathered j a) ys)
  unfolding united
  more a b y ys q e = rw (q, gathered_head j a, merge_more (head_of j a) y (tail (gathered j a)) ys e)

  -- before what is left of them
  onward : (x a b : Re) → nested j (x ∷ merge (gathered j a) (gathered j b)) ≡ joined j x (united j a b)
  unfolding united
  onward x a b = nested_more j x (merge (gathered j a) (gathered j b)) (merge_full (gathered j a) (gathered j b) (gathered_full j b))

  -- the first term's member is the lesser: it comes first, and what is left of that term is merged with the second
  pub united_less_one : (a b : Re) → InShape b → joins j a ≡ false → order (head_of j a) (head_of j b) ≡ Ordering.lt → united j a b ≡ joined j a b
  unfolding merge
  united_less_one a b t n e = less a b a [] (gathered_alone j a n) (rw (head_alone j a n) at e) ∙ nested_joined j o a b t

  pub united_less_more : (x xs b : Re) → InShape (joined j x xs) → order x (head_of j b) ≡ Ordering.lt
      → united j (joined j x xs) b ≡ joined j x (united j xs b)
  united_less_more x xs b s e = less (joined j x xs) b x (gathered j xs) (gathered_more j x xs (single x xs s)) e ∙ onward x xs b

  -- they are equal: one of them is kept, and what is left of both is merged
  pub united_same_one : (a b : Re) → InShape b → joins j a ≡ false → order (head_of j a) (head_of j b) ≡ Ordering.eq → united j a b ≡ b
  unfolding merge
  united_same_one a b t n e =
      same a b a (head_of j b) [] (tail (gathered j b)) (gathered_alone j a n) (gathered_head j b) (rw (head_alone j a n) at e)
      ∙ ap (nested j) (sym (gathered_head j b)) ∙ nested_gathered j o b t

  pub united_same_left : (x xs b : Re) → InShape (joined j x xs) → joins j b ≡ false → order x (head_of j b) ≡ Ordering.eq
      → united j (joined j x xs) b ≡ joined j x xs
  united_same_left x xs b s n e =
      let f : order x b ≡ Ordering.eq = rw (head_alone j b n) at e in
      same (joined j x xs) b x b (gathered j xs) [] (gathered_more j x xs (single x xs s)) (gathered_alone j b n) f
      ∙ rw (merge_end (gathered j xs), ← (order_equal x b f)) (nested_joined j o x xs ((shape_joined j o x xs).0 s).1)

  pub united_same_more : (x xs y ys : Re) → InShape (joined j x xs) → InShape (joined j y ys) → order x y ≡ Ordering.eq
      → united j (joined j x xs) (joined j y ys) ≡ joined j y (united j xs ys)
  united_same_more x xs y ys s t e =
      same (joined j x xs) (joined j y ys) x y (gathered j xs) (gathered j ys) (gathered_more j x xs (single x xs s)) (gathered_more j y ys (single y ys t)) e
      ∙ onward y xs ys

  -- the second term's member is the lesser
  pub united_greater_one : (a b : Re) → InShape a → joins j b ≡ false → order (head_of j a) (head_of j b) ≡ Ordering.gt → united j a b ≡ joined j b a
  united_greater_one a b s n e =
      more a b b [] (gathered_alone j b n) (rw (head_alone j b n) at e) ∙ rw (merge_end (gathered j a)) (nested_joined j o b a s)

  pub united_greater_more : (a y ys : Re) → InShape (joined j y ys) → order (head_of j a) y ≡ Ordering.gt
      → united j a (joined j y ys) ≡ joined j y (united j a ys)
  united_greater_more a y ys t e = more a (joined j y ys) y (gathered j ys) (gathered_more j y ys (single y ys t)) e ∙ onward y a ys

  -- a term alone, put through it all
  pub sorted_own : (r : Re) → InShape r → nested j (sorted (gathered j r)) ≡ r
  sorted_own r s = rw (sorted_same (gathered j r) (gathered_rising j o r s)) (nested_gathered j o r s)

  pub alone : (r : Re) → InShape r → nested j (sorted (kept (gathered j r))) ≡ r
  unfolding kept sorted nested
  alone r s = go (is_nothing r) refl
    where
      go : (n : Bool) → is_nothing r ≡ n → nested j (sorted (kept (gathered j r))) ≡ r
      go true e = rw (is_nothing_lem r e, gathered_alone j Nothing refl)
      go false e =
          rw (kept_members j (gathered j r) (gathered_members j o r s e)) (sorted_own r s)

-- a choice: Nothing on a side gives the other side, and merging is alt
alt_nothing_right : (a : Re) → InShape a → alt a Nothing ≡ a
unfolding alt gathered kept
alt_nothing_right a s = rw (kept_append (gathered Or a) (Nothing ∷ []), append-nil (kept (gathered Or a))) (alone Or tt a s)

alt_united : (a b : Re) → InShape a → InShape b → is_nothing a ≡ false → is_nothing b ≡ false → alt a b ≡ united Or a b
unfolding alt united
alt_united a b s t m n =
    rw (
      kept_append (gathered Or a) (gathered Or b),
      kept_members Or (gathered Or a) (gathered_members Or tt a s m),
      kept_members Or (gathered Or b) (gathered_members Or tt b t n),
      sorted_both Or tt a b s t,
    )

-- both at once: Nothing on a side gives Nothing, and merging is both
pub both_nothing_left : (b : Re) → both Nothing b ≡ Nothing
unfolding both gathered spoilt
both_nothing_left b = refl

pub both_nothing_right : (a : Re) → both a Nothing ≡ Nothing
unfolding both gathered spoilt
both_nothing_right a = rw (spoilt_append (gathered Both a) (Nothing ∷ []), or_of_true (spoilt (gathered Both a)) {b = true} refl)

both_united : (a b : Re) → InShape a → InShape b → is_nothing a ≡ false → is_nothing b ≡ false → both a b ≡ united Both a b
unfolding both united
both_united a b s t m n =
    rw (
      spoilt_append (gathered Both a) (gathered Both b),
      unspoilt Both (gathered Both a) (gathered_members Both tt a s m),
      unspoilt Both (gathered Both b) (gathered_members Both tt b t n),
      sorted_both Both tt a b s t,
    )

-- by the operator
pub formed_left : (j : Join) → Sorts j → (a b : Re) → InShape b → is_nothing a ≡ true → formed j a b ≡ beside j a b
unfolding alt gathered kept
formed_left Then o a b t e = absurd o
formed_left Or o a b t e = rw (is_nothing_lem a e) (alone Or tt b t)
formed_left Both o a b t e = rw (is_nothing_lem a e) (both_nothing_left b)

pub formed_right : (j : Join) → Sorts j → (a b : Re) → InShape a → is_nothing b ≡ true → formed j a b ≡ beside j b a
formed_right Then o a b s e = absurd o
formed_right Or o a b s e = rw (is_nothing_lem b e) (alt_nothing_right a s)
formed_right Both o a b s e = rw (is_nothing_lem b e) (both_nothing_right a)

pub formed_united : (j : Join) → Sorts j → (a b : Re) → InShape a → InShape b → is_nothing a ≡ false → is_nothing b ≡ false → formed j a b ≡ united j a b
formed_united Then o a b s t m n = absurd o
formed_united Or o a b s t m n = alt_united a b s t m n
formed_united Both o a b s t m n = both_united a b s t m n

-- one of two
pub beside_one : {A : Type 0} (P : A → Type 0) (j : Join) (x y : A) → P x → P y → P (beside j x y)
beside_one P Then x y p q = p
beside_one P Or x y p q = q
beside_one P Both x y p q = p

module _ (j : Join) (o : Sorts j) (a b : Re) (s : InShape a) (t : InShape b) where
  -- what holds of what Nothing on a side gives, and of the merge where neither is Nothing, holds of what is formed
  pub by_sides : (P : Re → Type 0) → (is_nothing a ≡ true → P (beside j a b)) → (is_nothing b ≡ true → P (beside j b a))
      → (is_nothing a ≡ false → is_nothing b ≡ false → P (united j a b)) → P (formed j a b)
  by_sides P f g h = go (is_nothing a) (is_nothing b) refl refl
    where
      go : (m n : Bool) → is_nothing a ≡ m → is_nothing b ≡ n → P (formed j a b)
      go true n d e = rw (formed_left j o a b t d) (f d)
      go false true d e = rw (formed_right j o a b s e) (g e)
      go false false d e = rw (formed_united j o a b s t d e) (h d e)

  pub shape_formed : InShape (formed j a b)
  shape_formed = by_sides InShape (λ _. beside_one InShape j a b s t) (λ _. beside_one InShape j b a t s) (shape_united j o a b s t)

  pub formed_members : length (gathered j (formed j a b)) ≤ length (gathered j a) + length (gathered j b)
  formed_members =
      by_sides Few (λ _. beside_one Few j a b (omega arith) (omega arith)) (λ _. beside_one Few j b a (omega arith) (omega arith))
      (united_members j o a b s t)
    where
      Few : Re → Type 0
      Few r = length (gathered j r) ≤ length (gathered j a) + length (gathered j b)

-- a chain: what holds of every Cat holds of it, so it is neither Nothing nor Empty, and a choice of one
chain_is : (P : Re → Type 0) → ((x y : Re) → P (Cat x y)) → (a b : Re) → P (chain a b)
unfolding chain
chain_is P f a b = by_members Then (λ r. P (chain r b)) (λ r e. rw (chain_one r b e) (f r b)) (λ x y _ _. f x (chain y b)) a

pub chain_some : (a b : Re) → is_nothing (chain a b) ≡ false
chain_some = chain_is (λ r. is_nothing r ≡ false) (λ x y. refl)

pub chain_long : (a b : Re) → is_empty (chain a b) ≡ false
chain_long = chain_is (λ r. is_empty r ≡ false) (λ x y. refl)

pub cat_chain : (a b : Re) → is_nothing a ≡ false → is_empty a ≡ false → is_nothing b ≡ false → is_empty b ≡ false → cat a b ≡ chain a b
unfolding cat
cat_chain a b m p n q = rw (m, n, p, q)

pub cat_members : (a b : Re) → is_nothing a ≡ false → is_empty a ≡ false → is_nothing b ≡ false → is_empty b ≡ false
    → length (gathered Or (cat a b)) ≡ 1
unfolding gathered
cat_members a b m p n q = rw (cat_chain a b m p n q) (chain_is (λ r. length (gathered Or r) ≡ 1) (λ x y. refl) a b)

-- it is put together link by link
shape_chain : (a b : Re) → InShape a → InShape b → is_nothing a ≡ false → is_empty a ≡ false → is_nothing b ≡ false → is_empty b ≡ false
    → InShape (chain a b)
unfolding chain
shape_chain a b s t m p n q =
    by_members Then (λ r. InShape r → is_nothing r ≡ false → is_empty r ≡ false → InShape (chain r b))
    (λ r e u v w. rw (chain_one r b e) (u, t, record { no_chain = e; left_some = v; left_long = w; right_some = n; right_long = q }))
    (λ x y _ ih u v w. (
      u.0,
      ih u.1 u.2.right_some u.2.right_long,
      record {
        no_chain = u.2.no_chain;
        left_some = u.2.left_some;
        left_long = u.2.left_long;
        right_some = chain_some y b;
        right_long = chain_long y b;
      },
    ))
    a s m p

pub shape_cat : (a b : Re) → InShape a → InShape b → InShape (cat a b)
unfolding cat
shape_cat a b s t = go (is_nothing a) (is_nothing b) refl refl
  where
    go : (m n : Bool) → is_nothing a ≡ m → is_nothing b ≡ n → InShape (cat a b)
    go true n e f = rw e tt
    go false true e f = rw (e, f) tt
    go false false e f =
        rw (e, f)
        (by_cond InShape (is_empty a) (λ _. t) (λ p. by_cond InShape (is_empty b) (λ _. s) (λ q. shape_chain a b s t e p f q)))

-- Star
pub shape_star : (a : Re) → InShape a → InShape (star a)
unfolding star
shape_star Nothing s = tt
shape_star Empty s = tt
shape_star (Range lo hi) s = (s, record { some = refl; long = refl; no_star = refl })
shape_star (Cat a b) s = (s, record { some = refl; long = refl; no_star = refl })
shape_star (Alt a b) s = (s, record { some = refl; long = refl; no_star = refl })
shape_star (Star a) s = s
shape_star (And a b) s = (s, record { some = refl; long = refl; no_star = refl })
shape_star (Not a) s = (s, record { some = refl; long = refl; no_star = refl })

-- Not: of a Not the inner term, of anything else its Not
pub shape_negated : (a : Re) → InShape a → InShape (negated a)
unfolding negated
shape_negated Nothing s = (s, refl)
shape_negated Empty s = (s, refl)
shape_negated (Range lo hi) s = (s, refl)
shape_negated (Cat a b) s = (s, refl)
shape_negated (Alt a b) s = (s, refl)
shape_negated (Star a) s = (s, refl)
shape_negated (And a b) s = (s, refl)
shape_negated (Not a) s = s.0

-- the normal form, and a derivative
pub shape_normal : (r : Re) → InShape (normal r)
unfolding normal
shape_normal Nothing = tt
shape_normal Empty = tt
shape_normal (Range lo hi) = tt
shape_normal (Cat a b) = shape_cat (normal a) (normal b) (shape_normal a) (shape_normal b)
shape_normal (Alt a b) = shape_formed Or tt (normal a) (normal b) (shape_normal a) (shape_normal b)
shape_normal (Star a) = shape_star (normal a) (shape_normal a)
shape_normal (And a b) = shape_formed Both tt (normal a) (normal b) (shape_normal a) (shape_normal b)
shape_normal (Not a) = shape_negated (normal a) (shape_normal a)

pub shape_deriv : (c : ℕ) (r : Re) → InShape r → InShape (deriv c r)
unfolding deriv
shape_deriv c Nothing s = tt
shape_deriv c Empty s = tt
shape_deriv c (Range lo hi) s = by_cond InShape (leb lo c && leb c hi) (λ _. tt) (λ _. tt)
shape_deriv c (Cat a b) s = go (nullable a) refl (shape_cat (deriv c a) b (shape_deriv c a s.0) s.1) (shape_deriv c b s.1)
  where
    go : (n : Bool) → nullable a ≡ n → InShape (cat (deriv c a) b) → InShape (deriv c b) → InShape (deriv c (Cat a b))
    go true e p q = rw (e, deriv) (shape_formed Or tt (cat (deriv c a) b) (deriv c b) p q)
    go false e p q = rw (e, deriv) p
shape_deriv c (Alt a b) s = shape_formed Or tt (deriv c a) (deriv c b) (shape_deriv c a s.0) (shape_deriv c b s.1)
shape_deriv c (Star a) s = shape_cat (deriv c a) (Star a) (shape_deriv c a s.0) s
shape_deriv c (And a b) s = shape_formed Both tt (deriv c a) (deriv c b) (shape_deriv c a s.0) (shape_deriv c b s.1)
shape_deriv c (Not a) s = shape_negated (deriv c a) (shape_deriv c a s.0)
