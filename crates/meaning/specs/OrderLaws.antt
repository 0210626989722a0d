-- The order of terms is a total order, and its "equal" is equality.
-- Kinds, bounds and parts fix a term, and two lists in turn are ordered as their items are, so each law holds of a term where it holds of its parts.
use Prim.Native.Nat.compare
use Prim.Native.Nat.{ℕ, zero, suc, ◌<◌, compare, Ordering}
use Rattle.std.specs.Prelude.{◌≡◌, refl, cond, List, [], ◌∷◌, map, eqb, get_or}
use Rattle.std.proofs.Common.{sym, ap, subst, ◌∙◌, arith}
use Rattle.meaning.specs.Re.{Re, bounds, parts}
use Rattle.meaning.specs.Re.Re.{Nothing, Empty, Range, Cat, Alt, Star, And, Not}
use Rattle.meaning.specs.PartLaws.{All, all, by_parts, upward_parts}
use Rattle.meaning.specs.Order.{rank, also, in_turn, decided, order, turned}

-- ---- numbers

-- what a comparison of numbers says
pub data Compared (m n : ℕ) : Ordering → Type 0 where
  less : m < n → Compared m n Ordering.lt
  equal : m ≡ n → Compared m n Ordering.eq
  more : n < m → Compared m n Ordering.gt

compared_suc : {m n : ℕ} {o : Ordering} → Compared m n o → Compared (suc m) (suc n) o
compared_suc (less h) = less (omega arith)
compared_suc (equal h) = equal (omega arith)
compared_suc (more h) = more (omega arith)

pub compared : (m n : ℕ) → Compared m n (compare m n)
compared zero zero = subst (Compared zero zero) (sym compare.zero-zero) (equal refl)
compared zero (suc n) = subst (Compared zero (suc n)) (sym (compare.zero-suc n)) (less (omega arith))
compared (suc m) zero = subst (Compared (suc m) zero) (sym (compare.suc-zero m)) (more (omega arith))
compared (suc m) (suc n) = subst (Compared (suc m) (suc n)) (sym (compare.suc-suc m n)) (compared_suc (compared m n))

-- the comparison's answer is fixed by what it says
pub compare_is : {m n : ℕ} {o p : Ordering} → Compared m n o → Compared m n p → o ≡ p
compare_is (less h) (less k) = refl
compare_is (less h) (equal k) = absurd (omega arith)
compare_is (less h) (more k) = absurd (omega arith)
compare_is (equal h) (less k) = absurd (omega arith)
compare_is (equal h) (equal k) = refl
compare_is (equal h) (more k) = absurd (omega arith)
compare_is (more h) (less k) = absurd (omega arith)
compare_is (more h) (equal k) = absurd (omega arith)
compare_is (more h) (more k) = refl

pub compare_lt : {m n : ℕ} {o : Ordering} → Compared m n o → o ≡ Ordering.lt → m < n
compare_lt (less h) e = h
compare_lt (equal h) e = absurd (let z : ◌≡◌ {A = ℕ} 0 1 = cc in omega arith)
compare_lt (more h) e = absurd (let z : ◌≡◌ {A = ℕ} 0 1 = cc in omega arith)

pub compare_eq : {m n : ℕ} {o : Ordering} → Compared m n o → o ≡ Ordering.eq → m ≡ n
compare_eq (less h) e = absurd (let z : ◌≡◌ {A = ℕ} 0 1 = cc in omega arith)
compare_eq (equal h) e = h
compare_eq (more h) e = absurd (let z : ◌≡◌ {A = ℕ} 0 1 = cc in omega arith)

compared_turned : {m n : ℕ} {o : Ordering} → Compared m n o → Compared n m (turned o)
compared_turned (less h) = more h
compared_turned (equal h) = equal (omega arith)
compared_turned (more h) = less h

-- ---- the laws of a total order, of one item against all, and that numbers have them

module _ {A : Type 0} (f : A → A → Ordering) where
  abbrev Self : A → Type 0
  Self x = f x x ≡ Ordering.eq

  abbrev Equal : A → Type 0
  Equal x = (y : A) → f x y ≡ Ordering.eq → x ≡ y

  abbrev Turns : A → Type 0
  Turns x = (y : A) → f y x ≡ turned (f x y)

  abbrev Passes : A → Type 0
  Passes x = (y z : A) → f x y ≡ Ordering.lt → f y z ≡ Ordering.lt → f x z ≡ Ordering.lt

number_self : (n : ℕ) → Self compare n
number_self n = compare_is (compared n n) (equal refl)

number_equal : (m : ℕ) → Equal compare m
number_equal m n = compare_eq (compared m n)

number_turns : (m : ℕ) → Turns compare m
number_turns m n = compare_is (compared n m) (compared_turned (compared m n))

number_passes : (l : ℕ) → Passes compare l
number_passes l m n d e = compare_is (compared l n) (less (omega (arith, compare_lt (compared l m) d, compare_lt (compared m n) e)))

-- ---- one comparison, then another

also_turned : (o p : Ordering) → also (turned o) (turned p) ≡ turned (also o p)
also_turned Ordering.lt p = refl
also_turned Ordering.eq p = refl
also_turned Ordering.gt p = refl

pub also_assoc : (o p q : Ordering) → also (also o p) q ≡ also o (also p q)
also_assoc Ordering.lt p q = refl
also_assoc Ordering.eq p q = refl
also_assoc Ordering.gt p q = refl

pub also_eq : (o : Ordering) → also o Ordering.eq ≡ o
also_eq Ordering.lt = refl
also_eq Ordering.eq = refl
also_eq Ordering.gt = refl

also_both : (o p : Ordering) → also o p ≡ Ordering.eq → (o ≡ Ordering.eq) × (p ≡ Ordering.eq)
also_both Ordering.lt p e = absurd (let z : ◌≡◌ {A = ℕ} 0 1 = cc in omega arith)
also_both Ordering.eq p e = (refl, e)
also_both Ordering.gt p e = absurd (let z : ◌≡◌ {A = ℕ} 0 1 = cc in omega arith)

-- below, then below, is below
module _ {A : Type 0} (f : A → A → Ordering) (equal : (x : A) → Equal f x) where
  also_passes : (x y z : A) (o p q : Ordering) → Passes f x → (o ≡ Ordering.lt → p ≡ Ordering.lt → q ≡ Ordering.lt)
      → also (f x y) o ≡ Ordering.lt → also (f y z) p ≡ Ordering.lt → also (f x z) q ≡ Ordering.lt
  also_passes x y z o p q h k = go (f x y) refl (f y z) refl
    where
      go : (m : Ordering) → f x y ≡ m → (n : Ordering) → f y z ≡ n → also m o ≡ Ordering.lt → also n p ≡ Ordering.lt → also (f x z) q ≡ Ordering.lt
      go Ordering.lt c Ordering.lt b d e = rw (h y z c b)
      go Ordering.lt c Ordering.eq b d e = rw (← equal y z b, c)
      go Ordering.lt c Ordering.gt b d e = absurd (let z : ◌≡◌ {A = ℕ} 0 1 = cc in omega arith)
      go Ordering.eq c Ordering.lt b d e = rw (equal x y c, b)
      go Ordering.eq c Ordering.eq b d e = rw (equal x y c, b) (k d e)
      go Ordering.eq c Ordering.gt b d e = absurd (let z : ◌≡◌ {A = ℕ} 0 1 = cc in omega arith)
      go Ordering.gt c n b d e = absurd (let z : ◌≡◌ {A = ℕ} 0 1 = cc in omega arith)

-- ---- two lists in turn are ordered as their items are

module _ {A : Type 0} (f : A → A → Ordering) where
  abbrev rows : List A → List A → Ordering
  rows xs ys = in_turn (map f xs) ys

  rows_self : (xs : List A) → All (Self f) xs → Self rows xs
  rows_self [] h = refl
  rows_self (x ∷ xs) h = rw h.0 (rows_self xs h.1)

  rows_equal : (xs : List A) → All (Equal f) xs → Equal rows xs
  rows_equal [] h [] e = refl
  rows_equal [] h (y ∷ ys) e = absurd (let z : ◌≡◌ {A = ℕ} 0 1 = cc in omega arith)
  rows_equal (x ∷ xs) h [] e = absurd (let z : ◌≡◌ {A = ℕ} 0 1 = cc in omega arith)
  rows_equal (x ∷ xs) h (y ∷ ys) e =
      let b = also_both (f x y) (rows xs ys) e in
      let p = h.0 y b.0 in
      let q = rows_equal xs h.1 ys b.1 in
      cc

  rows_turns : (xs : List A) → All (Turns f) xs → Turns rows xs
  rows_turns [] h [] = refl
  rows_turns [] h (y ∷ ys) = refl
  rows_turns (x ∷ xs) h [] = refl
  rows_turns (x ∷ xs) h (y ∷ ys) = rw (h.0 y, rows_turns xs h.1 ys) (also_turned (f x y) (rows xs ys))

  module _ (equal : (x : A) → Equal f x) where
    rows_passes : (xs : List A) → All (Passes f) xs → Passes rows xs
    rows_passes [] h [] zs d e = absurd (let z : ◌≡◌ {A = ℕ} 0 1 = cc in omega arith)
    rows_passes [] h (y ∷ ys) [] d e = absurd (let z : ◌≡◌ {A = ℕ} 0 1 = cc in omega arith)
    rows_passes [] h (y ∷ ys) (z ∷ zs) d e = refl
    rows_passes (x ∷ xs) h [] zs d e = absurd (let z : ◌≡◌ {A = ℕ} 0 1 = cc in omega arith)
    rows_passes (x ∷ xs) h (y ∷ ys) [] d e = absurd (let z : ◌≡◌ {A = ℕ} 0 1 = cc in omega arith)
    rows_passes (x ∷ xs) h (y ∷ ys) (z ∷ zs) d e =
        also_passes f equal x y z (rows xs ys) (rows ys zs) (rows xs zs) h.0 (rows_passes xs h.1 ys zs) d e

-- ---- terms

-- kind, bounds and parts fix a term
rebuilt : ℕ → List ℕ → List Re → Re
rebuilt k ns rs =
    cond (eqb k 0) Nothing
    (cond (eqb k 1) Empty
    (cond (eqb k 2) (Range (get_or ns 0 0) (get_or ns 1 0))
    (cond (eqb k 3) (Cat (get_or rs 0 Nothing) (get_or rs 1 Nothing))
    (cond (eqb k 4) (Alt (get_or rs 0 Nothing) (get_or rs 1 Nothing))
    (cond (eqb k 5) (Star (get_or rs 0 Nothing))
    (cond (eqb k 6) (And (get_or rs 0 Nothing) (get_or rs 1 Nothing))
    (Not (get_or rs 0 Nothing))))))))

rebuild : (x : Re) → x ≡ rebuilt (rank x) (bounds x) (parts x)
unfolding rebuilt
rebuild Nothing = refl
rebuild Empty = refl
rebuild (Range lo hi) = refl
rebuild (Cat a b) = refl
rebuild (Alt a b) = refl
rebuild (Star a) = refl
rebuild (And a b) = refl
rebuild (Not a) = refl

same_parts : (x y : Re) → rank x ≡ rank y → bounds x ≡ bounds y → parts x ≡ parts y → x ≡ y
same_parts x y k b p = rebuild x ∙ rw (k, b, p) (sym (rebuild y))

-- the order of two terms by their parts
pub order_parts : (x y : Re) → order x y ≡ decided x (map order (parts x)) y
unfolding order
order_parts x y = ap (λ (c : Re → Ordering). c y) (upward_parts decided x)

-- of one kind: leaves by their bounds, what has parts by its parts
pub order_no_parts : (x y : Re) → rank x ≡ rank y → parts x ≡ [] → parts y ≡ [] → order x y ≡ rows compare (bounds x) (bounds y)
order_no_parts x y k p q = order_parts x y ∙ rw (k, number_self (rank y), p, q) (also_eq (rows compare (bounds x) (bounds y)))

no_bounds : (x : Re) {r : Re} {rs : List Re} → parts x ≡ r ∷ rs → bounds x ≡ []
no_bounds Nothing e = refl
no_bounds Empty e = refl
no_bounds (Range lo hi) e = absurd (let z : ◌≡◌ {A = ℕ} 0 1 = cc in omega arith)
no_bounds (Cat a b) e = refl
no_bounds (Alt a b) e = refl
no_bounds (Star a) e = refl
no_bounds (And a b) e = refl
no_bounds (Not a) e = refl

order_inner : (x y : Re) {a b : Re} {rs ss : List Re} → rank x ≡ rank y → parts x ≡ a ∷ rs → parts y ≡ b ∷ ss
    → order x y ≡ also (order a b) (rows order rs ss)
order_inner x y k p q = order_parts x y ∙ rw (k, number_self (rank y), no_bounds x p, no_bounds y q, p, q)

pub order_one_part : (x y : Re) {a b : Re} → rank x ≡ rank y → parts x ≡ a ∷ [] → parts y ≡ b ∷ [] → order x y ≡ order a b
order_one_part x y {a} {b} k p q = order_inner x y k p q ∙ also_eq (order a b)

pub order_two_parts : (x y : Re) {a b c d : Re} → rank x ≡ rank y → parts x ≡ a ∷ b ∷ [] → parts y ≡ c ∷ d ∷ []
    → order x y ≡ also (order a c) (order b d)
order_two_parts x y {a} {b} {c} {d} k p q = order_inner x y k p q ∙ ap (also (order a c)) (also_eq (order b d))

pub order_self : (x : Re) → order x x ≡ Ordering.eq
order_self = by_parts (Self order) λ x h.
    order_parts x x
    ∙ rw (number_self (rank x), rows_self compare (bounds x) (all (Self compare) number_self (bounds x)), rows_self order (parts x) h)

pub order_equal : (x y : Re) → order x y ≡ Ordering.eq → x ≡ y
order_equal = by_parts (Equal order) λ x h y e.
    let b = also_both (compare (rank x) (rank y)) _ (sym (order_parts x y) ∙ e) in
    let c = also_both (rows compare (bounds x) (bounds y)) (rows order (parts x) (parts y)) b.1 in
    same_parts x y (number_equal (rank x) (rank y) b.0) (rows_equal compare (bounds x) (all (Equal compare) number_equal (bounds x)) (bounds y) c.0)
    (rows_equal order (parts x) h (parts y) c.1)

pub order_turned : (x y : Re) → order y x ≡ turned (order x y)
order_turned = by_parts (Turns order) λ x h y.
    let o = compare (rank x) (rank y) in
    let p = rows compare (bounds x) (bounds y) in
    let q = rows order (parts x) (parts y) in
    order_parts y x
    ∙ rw (number_turns (rank x) (rank y), rows_turns compare (bounds x) (all (Turns compare) number_turns (bounds x)) (bounds y), rows_turns order (parts x) h (parts y))
    (ap (also (turned o)) (also_turned p q) ∙ also_turned o (also p q)) ∙ ap turned (sym (order_parts x y))

pub order_trans : (x y z : Re) → order x y ≡ Ordering.lt → order y z ≡ Ordering.lt → order x z ≡ Ordering.lt
order_trans = by_parts (Passes order) λ x h y z d e.
    order_parts x z
    ∙ also_passes compare number_equal (rank x) (rank y) (rank z) _ _ _ (number_passes (rank x))
    (also_passes (rows compare) (λ ns. rows_equal compare ns (all (Equal compare) number_equal ns)) (bounds x) (bounds y) (bounds z) _ _ _
    (rows_passes compare number_equal (bounds x) (all (Passes compare) number_passes (bounds x)))
    (rows_passes order order_equal (parts x) h (parts y) (parts z))) (sym (order_parts x y) ∙ d) (sym (order_parts y z) ∙ e)
