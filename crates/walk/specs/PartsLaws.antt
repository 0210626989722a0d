-- The pool holds exactly the parts of what was put into it, each once; what it holds already adds nothing.
-- PartOf and Once of Parts say what that means; building and comparing cite these laws for the terms of their held vectors.
use Rattle.std.specs.Prelude.{ℕ, zero, suc, ◌+◌, ◌<◌, ◌≡◌, refl, Bool, true, false, List, [], ◌∷◌, ◌++◌, map, ◌⊎◌, ◌↔◌, length, get_or}
use Rattle.std.proofs.Common.{sym, ap, ◌∙◌, inl, inr, arith, length-append}
use Rattle.std.proofs.Math.Decide.{dec_lt}
use Rattle.std.proofs.Math.ListN.{get_or-append}
use Rattle.std.proofs.lemmas.List.{get_or_at}
use Rattle.meaning.specs.Re.{Re, parts, upward}
use Rattle.meaning.specs.Re.Re.{Nothing}
use Rattle.meaning.specs.PartLaws.{All, all, by_parts, upward_parts}
use Rattle.meaning.specs.Tests.{clash, or_true, true_or, or_of_true}
use Rattle.walk.specs.Vectors.{same_term}
use Rattle.walk.specs.VectorLaws.{term_same, term_self}
use Rattle.walk.specs.Parts.{holds, with_term, behind, with_parts, with_vector, PartOf, InPool, Once, Closed}
use Rattle.walk.specs.Parts.PartOf.{here, inside, later}

-- ---- what a list holds

pub held_front : (p q : List Re) (x : Re) → InPool p x → InPool (p ++ q) x
unfolding holds
held_front [] q x h = absurd (clash h refl)
held_front (y ∷ p) q x h = elim (or_true (same_term y x) (holds p x) h) [
  | inl e ↦ true_or (holds (p ++ q) x) e
  | inr e ↦ or_of_true (same_term y x) (held_front p q x e)
]

pub held_last : (p : List Re) (x : Re) → InPool (p ++ (x ∷ [])) x
unfolding holds
held_last [] x = true_or false (term_self x)
held_last (y ∷ p) x = or_of_true (same_term y x) (held_last p x)

pub held_snoc : (p : List Re) (y x : Re) → InPool (p ++ (y ∷ [])) x → InPool p x ⊎ (y ≡ x)
unfolding holds
held_snoc [] y x h = elim (or_true (same_term y x) false h) [ inl e ↦ inr (term_same y x e) | inr e ↦ inl e ]
held_snoc (z ∷ p) y x h = elim (or_true (same_term z x) (holds (p ++ (y ∷ [])) x) h) [
  | inl e ↦ inl (true_or (holds p x) e)
  | inr e ↦ elim (held_snoc p y x e) [ inl f ↦ inl (or_of_true (same_term z x) f) | inr f ↦ inr f ]
]

-- what stands at a place is held
pub held_at : (p : List Re) (i : ℕ) → i < length p → InPool p (get_or p i Nothing)
unfolding holds
held_at [] i h = absurd (omega arith)
held_at (y ∷ p) zero h = true_or (holds p y) (term_self y)
held_at (y ∷ p) (suc i) h = or_of_true (same_term y (get_or p i Nothing)) (held_at p i (omega arith))

-- ---- one term

pub term_held : (p : List Re) (x : Re) → InPool p x → with_term p x ≡ p
unfolding with_term
term_held p x h = rw h

pub term_new : (p : List Re) (x : Re) → holds p x ≡ false → with_term p x ≡ p ++ (x ∷ [])
unfolding with_term
term_new p x h = rw h

-- the two ways: held already, or put at the end
data Joined (p : List Re) (x : Re) : List Re → Type 0 where
  old : InPool p x → Joined p x p
  new : holds p x ≡ false → Joined p x (p ++ (x ∷ []))

put_term : (p : List Re) (x : Re) → Joined p x (with_term p x)
put_term p x = go (holds p x) refl
  where
    go : (b : Bool) → holds p x ≡ b → Joined p x (with_term p x)
    go true e = rw (term_held p x e) (old e)
    go false e = rw (term_new p x e) (new e)

put_holds : {p q : List Re} {y : Re} (x : Re) → Joined p y q → InPool q x → InPool p x ⊎ (y ≡ x)
put_holds x (old h) k = inl k
put_holds {p} {q} {y} x (new h) k = held_snoc p y x k

put_keeps : {p q : List Re} {y : Re} (x : Re) → Joined p y q → InPool p x → InPool q x
put_keeps x (old h) k = k
put_keeps {p} {q} {y} x (new h) k = held_front p (y ∷ []) x k

put_held : {p q : List Re} {y : Re} → Joined p y q → InPool q y
put_held (old h) = h
put_held {p} {q} {y} (new h) = held_last p y

last_held : {p q : List Re} {y : Re} (x : Re) → Joined p y q → x ≡ y → InPool q x
last_held x j e = rw e (put_held j)

put_once : {p q : List Re} {y : Re} → Joined p y q → Once p → Once q
put_once (old h) o = o
put_once {p} {q} {y} (new h) o = record { apart = go }
  where
    n : length (p ++ (y ∷ [])) ≡ length p + 1
    n = length-append p (y ∷ [])

    before : (i : ℕ) → i < length p → get_or (p ++ (y ∷ [])) i Nothing ≡ get_or p i Nothing
    before i l = get_or-append p (y ∷ []) Nothing i l

    go : (i j : ℕ) → i < j → j < length (p ++ (y ∷ [])) → get_or (p ++ (y ∷ [])) i Nothing ≡ get_or (p ++ (y ∷ [])) j Nothing → ⊥
    go i j l m e = elim (dec_lt j (length p)) [
      | yes k ↦ o.apart i j l k (sym (before i (omega arith)) ∙ e ∙ before j k)
      | no k ↦
          let d : length p ≡ j = omega (arith, n) in
          let f : get_or p i Nothing ≡ y = sym (before i (omega arith)) ∙ e ∙ get_or_at p y [] Nothing j d in
          clash (rw f at (held_at p i (omega arith))) h
    ]

-- ---- a term with its parts

pub with_parts_lem : (p : List Re) (r : Re) → with_parts p r ≡ with_term (with_vector p (parts r)) r
unfolding with_parts with_vector
with_parts_lem p r = ap (λ (f : List Re → List Re). f p) (upward_parts behind r) ∙ go (parts r) p
  where
    go : (rs p : List Re) → behind r (map (upward behind) rs) p ≡ with_term (with_vector p rs) r
    go [] p = refl
    go (x ∷ rs) p = go rs (with_parts p x)

-- the pool q is p with these terms and all their parts: it holds them and nothing else, no term twice
pub record Takes (p rs q : List Re) : Type 0 where
  pub only : (x : Re) → InPool q x → InPool p x ⊎ PartOf x rs
  pub keeps : (x : Re) → InPool p x → InPool q x
  pub takes : (x : Re) → PartOf x rs → InPool q x
  pub once : Once p → Once q

takes_none : (p : List Re) → Takes p [] p
takes_none p = record { only = λ x h. inl h; keeps = λ x h. h; takes = λ x. elim [ ]; once = λ o. o }

-- the parts of the first, then it, then the others
takes_first : {p q q' q'' : List Re} {r : Re} {rs : List Re} → Takes p (parts r) q → Joined q r q' → Takes q' rs q'' → Takes p (r ∷ rs) q''
takes_first {p} {q} {q'} {q''} {r} {rs} t j u = record {
  only = λ x h. elim (u.only x h) [
    | inl k ↦ elim (put_holds x j k) [
      | inl l ↦ elim (t.only x l) [ inl m ↦ inl m | inr m ↦ inr (inside m) ]
      | inr e ↦ inr (here (sym e))
    ]
    | inr k ↦ inr (later k)
  ];
  keeps = λ x h. u.keeps x (put_keeps x j (t.keeps x h));
  takes = go;
  once = λ o. u.once (put_once j (t.once o));
}
  where
    go : (x : Re) → PartOf x (r ∷ rs) → InPool q'' x
    go x (here e) = u.keeps x (last_held x j e)
    go x (inside h) = u.keeps x (put_keeps x j (t.takes x h))
    go x (later h) = u.takes x h

abbrev Taken : List Re → Type 0
Taken rs = (p : List Re) → Takes p rs (with_vector p rs)

takes_row : (rs : List Re) → All (λ r. Taken (parts r)) rs → Taken rs
unfolding with_vector
takes_row [] h p = takes_none p
takes_row (r ∷ rs) h p = takes_first (h.0 p) (rw (with_parts_lem p r) (put_term (with_vector p (parts r)) r)) (takes_row rs h.1 (with_parts p r))

takes_vector : (v : List Re) → Taken v
takes_vector v = takes_row v (all (λ r. Taken (parts r)) (by_parts (λ r. Taken (parts r)) (λ r. takes_row (parts r))) v)

pub takes_parts : (p : List Re) (r : Re) → Takes p (r ∷ []) (with_parts p r)
unfolding with_vector
takes_parts p r = takes_vector (r ∷ []) p

inner_of : {x y : Re} {rs : List Re} → PartOf x (parts y) → PartOf y rs → PartOf x rs
inner_of h (here e) = inside (rw e at h)
inner_of h (inside k) = inside (inner_of h k)
inner_of h (later k) = later (inner_of h k)

pub parts_closed : (p : List Re) (r : Re) → Closed p → Closed (with_parts p r)
parts_closed p r c =
    let t = takes_parts p r in
    record { inner = λ x y h k. elim (t.only y h) [ inl l ↦ t.keeps x (c.inner x y l k) | inr l ↦ t.takes x (inner_of k l) ] }

-- what is held adds nothing
row_held : (p rs : List Re) → All (λ r. InPool p r → with_parts p r ≡ p) rs → ((x : Re) → PartOf x rs → InPool p x) → with_vector p rs ≡ p
unfolding with_vector
row_held p [] f h = refl
row_held p (r ∷ rs) f h = rw (f.0 (h r (here refl))) (row_held p rs f.1 (λ x k. h x (later k)))

pub parts_held : (p : List Re) (r : Re) → Closed p → InPool p r → with_parts p r ≡ p
parts_held p r c =
    by_parts (λ r. InPool p r → with_parts p r ≡ p)
    (λ r f h. with_parts_lem p r ∙ rw (row_held p (parts r) f (λ x. c.inner x r h)) (term_held p r h)) r

-- ---- a vector

pub vector_hold : (p v : List Re) (x : Re) → InPool (with_vector p v) x ↔ (InPool p x ⊎ PartOf x v)
vector_hold p v x = ((takes_vector v p).only x, elim [ inl h ↦ (takes_vector v p).keeps x h | inr h ↦ (takes_vector v p).takes x h ])

pub vector_once : (p v : List Re) → Once p → Once (with_vector p v)
vector_once p v = (takes_vector v p).once

-- a vector whose components are held adds nothing
pub vector_held : (p v : List Re) → Closed p → ((k : ℕ) → k < length v → InPool p (get_or v k Nothing)) → with_vector p v ≡ p
unfolding with_vector
vector_held p [] c h = refl
vector_held p (r ∷ v) c h = rw (parts_held p r c (h 0 (omega arith))) (vector_held p v c (λ k l. h (suc k) (omega arith)))
