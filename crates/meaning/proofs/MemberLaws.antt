-- What alt and both give, told without lists: the one term in shape whose members are those of both sides.
-- Two lists that rise and hold the same are one list; gathering, dropping, sorting and nesting keep what is held.
use Prim.Native.Nat.{ℕ, Ordering}
use Rattle.std.specs.Prelude.{◌≡◌, refl, Bool, true, false, List, [], ◌∷◌, ◌++◌, ◌↔◌, ◌⊎◌}
use Rattle.std.proofs.Common.{sym, ap, subst, ◌∙◌, inl, inr, arith}
use Rattle.meaning.specs.Re.{Re, is_nothing}
use Rattle.meaning.specs.Re.Re.{Nothing}
use Rattle.meaning.specs.PartLaws.{All}
use Rattle.meaning.specs.Order.{order}
use Rattle.meaning.specs.OrderLaws.{order_self, order_equal, order_trans}
use Rattle.meaning.specs.declared.Join.{Join}
use Rattle.meaning.specs.declared.Join.TheVariants.{Or}
use Rattle.meaning.specs.Normal.{joined, gathered, placed, sorted, nested, alt, formed, Before}
use Rattle.meaning.specs.JoinLaws.{by_members, joined_some, gathered_alone, gathered_joined}
use Rattle.meaning.proofs.NormalShape.{Rising}
use Rattle.meaning.specs.Shape.{Sorts, InShape, MemberOf, head_of, united}
use Rattle.meaning.specs.Shape.MemberOf.{itself, from_left, from_right}
use Rattle.meaning.proofs.ShapeLaws.{Member, gathered_head, gathered_members, gathered_rising, nested_gathered, sorted_both, gathered_united, united_some, shape_united, by_sides, formed_united, shape_formed}
use Rattle.meaning.specs.Tests.{clash, is_nothing_lem}

-- x stands in a list
abbrev In : Re → List Re → Type 0
In x [] = ⊥
In x (y ∷ ys) = (x ≡ y) ⊎ In x ys

-- lists that rise and hold the same are the same
below_self : (x : Re) → order x x ≡ Ordering.lt → ⊥
below_self x e = let d = order_self x in let z : ◌≡◌ {A = ℕ} 0 1 = cc in omega arith

below_all : (x : Re) (ys : List Re) → Before x ys → Rising ys → (z : Re) → In z ys → order x z ≡ Ordering.lt
below_all x [] b r z m = absurd m
below_all x (y ∷ ys) b r z (inl e) = rw e b
below_all x (y ∷ ys) b r z (inr m) = order_trans x y z b (below_all y ys r.0 r.1 z m)

-- a head that is held by the other list is its head, where the same holds the other way round
heads_same : (x y : Re) (xs ys : List Re) → Rising (x ∷ xs) → Rising (y ∷ ys) → In x (y ∷ ys) → In y (x ∷ xs) → x ≡ y
heads_same x y xs ys r q (inl e) m = e
heads_same x y xs ys r q (inr n) (inl e) = sym e
heads_same x y xs ys r q (inr n) (inr m) =
    absurd (below_self x (order_trans x y x (below_all x xs r.0 r.1 y m) (below_all y ys q.0 q.1 x n)))

-- without the head
tail_held : (x y : Re) (xs ys : List Re) → x ≡ y → Rising (x ∷ xs) → ((z : Re) → In z (x ∷ xs) → In z (y ∷ ys)) → (z : Re) → In z xs → In z ys
tail_held x y xs ys e r f z m =
    elim (f z (inr m)) [
      | inl d ↦ absurd (below_self x (subst (λ (v : Re). order x v ≡ Ordering.lt) (d ∙ sym e) (below_all x xs r.0 r.1 z m)))
      | inr n ↦ n
    ]

rising_same : (xs ys : List Re) → Rising xs → Rising ys → ((z : Re) → In z xs → In z ys) → ((z : Re) → In z ys → In z xs) → xs ≡ ys
rising_same [] [] r q f g = refl
rising_same [] (y ∷ ys) r q f g = absurd (g y (inl refl))
rising_same (x ∷ xs) [] r q f g = absurd (f x (inl refl))
rising_same (x ∷ xs) (y ∷ ys) r q f g =
    let e = heads_same x y xs ys r q (f x (inl refl)) (g y (inl refl)) in
    let d = rising_same xs ys r.1 q.1 (tail_held x y xs ys e r f) (tail_held y x ys xs (sym e) q g) in
    cc

-- what each step keeps
in_append : (z : Re) (xs ys : List Re) → In z (xs ++ ys) ↔ (In z xs ⊎ In z ys)
in_append z [] ys = (inr, elim [ inl m ↦ absurd m | inr m ↦ m ])
in_append z (x ∷ xs) ys =
    let ih = in_append z xs ys in (
      elim [ inl e ↦ inl (inl e) | inr m ↦ elim (ih.0 m) [ inl n ↦ inl (inr n) | inr n ↦ inr n ] ],
      elim [ inl m ↦ elim m [ inl e ↦ inl e | inr n ↦ inr (ih.1 (inl n)) ] | inr n ↦ inr (ih.1 (inr n)) ],
    )

in_placed : (z x : Re) (ys : List Re) → In z (placed x ys) ↔ In z (x ∷ ys)
unfolding placed
in_placed z x [] = (λ m. m, λ m. m)
in_placed z x (y ∷ ys) = go (order x y) refl (in_placed z x ys)
  where
    further : (In z (placed x ys) ↔ In z (x ∷ ys)) → In z (y ∷ placed x ys) → In z (x ∷ y ∷ ys)
    further ih (inl e) = inr (inl e)
    further ih (inr m) = elim (ih.0 m) [ inl e ↦ inl e | inr n ↦ inr (inr n) ]

    nearer : (In z (placed x ys) ↔ In z (x ∷ ys)) → In z (x ∷ y ∷ ys) → In z (y ∷ placed x ys)
    nearer ih (inl e) = inr (ih.1 (inl e))
    nearer ih (inr (inl e)) = inl e
    nearer ih (inr (inr m)) = inr (ih.1 (inr m))

    go : (o : Ordering) → order x y ≡ o → (In z (placed x ys) ↔ In z (x ∷ ys)) → In z (placed x (y ∷ ys)) ↔ In z (x ∷ y ∷ ys)
    go Ordering.lt e ih = rw (e, placed) (λ m. m, λ m. m)
    go Ordering.eq e ih = rw (e, placed) (inr, elim [ inl d ↦ inl (d ∙ order_equal x y e) | inr m ↦ m ])
    go Ordering.gt e ih = rw (e, placed) (further ih, nearer ih)

in_sorted : (z : Re) (xs : List Re) → In z (sorted xs) ↔ In z xs
unfolding sorted
in_sorted z [] = (λ m. m, λ m. m)
in_sorted z (x ∷ xs) =
    let ih = in_sorted z xs in
    let p = in_placed z x (sorted xs) in (
      λ m. elim (p.0 m) [ inl e ↦ inl e | inr n ↦ inr (ih.0 n) ],
      elim [ inl e ↦ p.1 (inl e) | inr n ↦ p.1 (inr (ih.1 n)) ],
    )

all_in : (P : Re → Type 0) (xs : List Re) → All P xs → (x : Re) → In x xs → P x
all_in P [] p x m = absurd m
all_in P (y ∷ ys) p x (inl e) = rw e p.0
all_in P (y ∷ ys) p x (inr m) = all_in P ys p.1 x m

-- members are what is gathered, without Nothing
module _ {j : Join} {x : Re} where
  member_some : {r : Re} → MemberOf j x r → is_nothing x ≡ false
  member_some (itself p q) = q
  member_some (from_left b m) = member_some m
  member_some (from_right a m) = member_some m

  member_in : {r : Re} → MemberOf j x r → In x (gathered j r)
  member_in (itself p q) = rw (gathered_alone j x p) (inl refl)
  member_in (from_left {a} b m) = rw (gathered_joined j a b) ((in_append x (gathered j a) (gathered j b)).1 (inl (member_in m)))
  member_in (from_right a {b} m) = rw (gathered_joined j a b) ((in_append x (gathered j a) (gathered j b)).1 (inr (member_in m)))

  no_member : (r : Re) → is_nothing r ≡ true → MemberOf j x r → ⊥
  no_member r e m =
      elim (rw (is_nothing_lem r e, gathered_alone j Nothing refl) at (member_in m)) [
        | inl d ↦ clash (ap is_nothing d) (member_some m)
        | inr n ↦ n
      ]

  in_member : is_nothing x ≡ false → (r : Re) → In x (gathered j r) → MemberOf j x r
  in_member q =
      by_members j (λ r. In x (gathered j r) → MemberOf j x r) (λ r e m. elim (rw (gathered_alone j r e) at m) [
        | inl d ↦ subst (MemberOf j x) d (itself (rw d e) q)
        | inr n ↦ absurd n
      ])
      (λ a b f g m. elim ((in_append x (gathered j a) (gathered j b)).0 (rw (gathered_joined j a b) at m)) [
        | inl n ↦ from_left b (f n)
        | inr n ↦ from_right a (g n)
      ])

module _ (j : Join) (o : Sorts j) where
  held : (r : Re) → InShape r → is_nothing r ≡ false → (x : Re) → MemberOf j x r ↔ In x (gathered j r)
  held r s n x = (member_in, λ m. in_member (all_in (Member j) (gathered j r) (gathered_members j o r s n) x m).some r m)

  -- a term in shape is fixed by its members
  pub one_term : (r s : Re) → InShape r → InShape s → ((x : Re) → MemberOf j x r ↔ MemberOf j x s) → r ≡ s
  one_term r s p q f = go (is_nothing r) (is_nothing s) refl refl
    where
      a_member : (t : Re) → InShape t → is_nothing t ≡ false → MemberOf j (head_of j t) t
      a_member t u n = (held t u n (head_of j t)).1 (subst (In (head_of j t)) (sym (gathered_head j t)) (inl refl))

      go : (m n : Bool) → is_nothing r ≡ m → is_nothing s ≡ n → r ≡ s
      go true true d e = is_nothing_lem r d ∙ sym (is_nothing_lem s e)
      go true false d e = absurd (no_member r d ((f (head_of j s)).1 (a_member s q e)))
      go false true d e = absurd (no_member s e ((f (head_of j r)).0 (a_member r p d)))
      go false false d e =
          sym (nested_gathered j o r p)
          ∙ ap (nested j) (rising_same (gathered j r) (gathered j s) (gathered_rising j o r p) (gathered_rising j o s q)
          (λ z m. (held s q e z).0 ((f z).0 ((held r p d z).1 m)))
          (λ z m. (held r p d z).0 ((f z).1 ((held s q e z).1 m))))
          ∙ nested_gathered j o s q

  -- what is merged has the members of both sides
  united_held : (a b : Re) → InShape a → InShape b → is_nothing a ≡ false → is_nothing b ≡ false → (x : Re)
      → MemberOf j x (united j a b) ↔ (MemberOf j x a ⊎ MemberOf j x b)
  united_held a b s t m n x =
      let all = gathered j a ++ gathered j b in
      let e : gathered j (united j a b) ≡ sorted all = gathered_united j o a b s t m n ∙ sym (sorted_both j o a b s t) in
      let h = held (united j a b) (shape_united j o a b s t m n) (united_some j o a b s t m n) x in (
        λ k. elim ((in_append x (gathered j a) (gathered j b)).0 ((in_sorted x all).0 (rw e at (h.0 k)))) [
          | inl i ↦ inl ((held a s m x).1 i)
          | inr i ↦ inr ((held b t n x).1 i)
        ],
        λ k. h.1 (rw e ((in_sorted x all).1 ((in_append x (gathered j a) (gathered j b)).1 (elim k [
          | inl i ↦ inl (member_in i)
          | inr i ↦ inr (member_in i)
        ])))),
      )

-- so where neither side is Nothing, what is formed is the one term in shape that has the members of both sides
module _ (j : Join) (o : Sorts j) (a b : Re) (s : InShape a) (t : InShape b) where
  abbrev Holds : Re → Type 0
  Holds r = (x : Re) → MemberOf j x r ↔ (MemberOf j x a ⊎ MemberOf j x b)

  only : (r : Re) → Holds (formed j a b) → (InShape r × Holds r) ↔ (r ≡ formed j a b)
  only r h =
      let f = shape_formed j o a b s t in (
        λ p. one_term j o r (formed j a b) p.0 f (λ x. (λ m. (h x).1 ((p.1 x).0 m), λ m. (p.1 x).1 ((h x).0 m))),
        λ e. rw e (f, h),
      )

  pub formed_is : is_nothing a ≡ false → is_nothing b ≡ false → (r : Re) → (InShape r × Holds r) ↔ (r ≡ formed j a b)
  formed_is m n r = only r (rw (formed_united j o a b s t m n) (united_held j o a b s t m n))

-- and a choice is also where a side is Nothing
pub alt_is : (a b r : Re) → InShape a → InShape b
    → (InShape r × ((x : Re) → MemberOf Or x r ↔ (MemberOf Or x a ⊎ MemberOf Or x b))) ↔ (r ≡ alt a b)
alt_is a b r s t =
    only Or tt a b s t r
    (λ x. by_sides Or tt a b s t (λ v. MemberOf Or x v ↔ (MemberOf Or x a ⊎ MemberOf Or x b))
    (λ e. (inr, elim [ inl m ↦ absurd (no_member a e m) | inr m ↦ m ]))
    (λ e. (inl, elim [ inl m ↦ m | inr m ↦ absurd (no_member b e m) ]))
    (λ m n. united_held Or tt a b s t m n x))

-- the members of what is joined, wherever they stand: none is Nothing, and each is below the next
module _ (j : Join) (o : Sorts j) (a b : Re) (s : InShape (joined j a b)) where
  pub member_some_at : (front back : List Re) (x : Re) → gathered j (joined j a b) ≡ front ++ (x ∷ back) → is_nothing x ≡ false
  member_some_at front back x e = at front (rw e at (gathered_members j o (joined j a b) s (joined_some j a b)))
    where
      at : (xs : List Re) → All (Member j) (xs ++ (x ∷ back)) → is_nothing x ≡ false
      at [] m = m.0.some
      at (y ∷ ys) m = at ys m.1

  pub members_below : (front back : List Re) (x y : Re) → gathered j (joined j a b) ≡ front ++ (x ∷ (y ∷ back)) → order x y ≡ Ordering.lt
  members_below front back x y e = at front (rw e at (gathered_rising j o (joined j a b) s))
    where
      at : (xs : List Re) → Rising (xs ++ (x ∷ (y ∷ back))) → order x y ≡ Ordering.lt
      at [] r = r.0
      at (z ∷ zs) r = at zs r.1
