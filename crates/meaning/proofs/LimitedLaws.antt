-- The limited forms answer the unlimited result or Long, and Long exactly when a result on the way passes the limit.
-- One equation says both: the result if all results on the way are short, else Long.
use Rattle.std.specs.Prelude.{ℕ, ◌≡◌, refl, Bool, true, false, cond, ◌&&◌, List, [], ◌∷◌, ◌++◌, ◌↔◌, leb}
use Rattle.std.proofs.Common.{sym, ap, ◌∙◌, append-nil, arith, leb-false}
use Rattle.std.proofs.lemmas.Bool.{lt-leb}
use Rattle.number.specs.Limits.{tree_nodes}
use Rattle.meaning.specs.Re.{Re, size}
use Rattle.meaning.specs.Re.Re.{Nothing, Empty, Range, Cat, Alt, Star, And, Not}
use Rattle.meaning.specs.PartLaws.{upward_parts}
use Rattle.meaning.specs.Normal.{cat, alt, star, both, negated, normal}
use Rattle.meaning.specs.Derive.{nullable, deriv}
use Rattle.meaning.specs.Limited.{Fit, ◌>>=◌, short, fit, deriv_fit, normal_fit, deriv_results, normal_results, all_short, Over}
use Rattle.meaning.specs.Limited.Fit.{Long, Fits}
use Rattle.meaning.specs.Limited.Over.{here, later}
use Rattle.meaning.specs.Tests.{clash, and_true}

-- a result, if a test allows it
abbrev pub allowed : Bool → Re → Fit
allowed b r = cond b (Fits r) Long

-- one step after another: both tests must allow it
step_allowed : {m : Fit} (b : Bool) (r : Re) (f : Re → Fit) (d : Bool) (s : Re) → m ≡ allowed b r → f r ≡ allowed d s
    → (m >>= f) ≡ allowed (b && d) s
step_allowed true r f d s p e = rw p e
step_allowed false r f d s p e = rw p

and_assoc : (a b c : Bool) → (a && (b && c)) ≡ ((a && b) && c)
and_assoc true b c = refl
and_assoc false b c = refl

all_append : (xs ys : List Re) → all_short (xs ++ ys) ≡ (all_short xs && all_short ys)
unfolding all_short
all_append [] ys = refl
all_append (x ∷ xs) ys = ap (λ (b : Bool). short x && b) (all_append xs ys) ∙ and_assoc (short x) (all_short xs) (all_short ys)

-- its own result is tested last
all_last : (xs : List Re) (r : Re) → all_short (r ∷ xs) ≡ (all_short xs && short r)
unfolding all_short
all_last xs r = go (short r) (all_short xs)
  where
    go : (a b : Bool) → (a && b) ≡ (b && a)
    go true true = refl
    go true false = refl
    go false true = refl
    go false false = refl

all_two : (xs ys : List Re) (r : Re) → all_short (r ∷ (xs ++ ys)) ≡ (all_short xs && (all_short ys && short r))
all_two xs ys r = all_last (xs ++ ys) r ∙ ap (λ (b : Bool). b && short r) (all_append xs ys) ∙ sym (and_assoc (all_short xs) (all_short ys) (short r))

-- one part, then its result; two parts, then theirs
part_one : {m : Fit} (xs : List Re) (x : Re) (g : Re → Re) → m ≡ allowed (all_short xs) x
    → (m >>= λ y. fit (g y)) ≡ allowed (all_short (g x ∷ xs)) (g x)
part_one xs x g p = rw (all_last xs (g x)) (step_allowed (all_short xs) x (λ y. fit (g y)) (short (g x)) (g x) p refl)

part_two : {m n : Fit} (xs ys : List Re) (x y : Re) (g : Re → Re → Re) → m ≡ allowed (all_short xs) x → n ≡ allowed (all_short ys) y
    → (m >>= λ v. n >>= λ w. fit (g v w)) ≡ allowed (all_short (g x y ∷ (xs ++ ys))) (g x y)
part_two {m} {n} xs ys x y g p q =
    rw (all_two xs ys (g x y))
    (step_allowed (all_short xs) x (λ v. n >>= λ w. fit (g v w)) (all_short ys && short (g x y)) (g x y) p
    (step_allowed (all_short ys) y (λ w. fit (g x w)) (short (g x y)) (g x y) q refl))

-- the derivative of a range is a leaf
range_short : (b : Bool) → Fits (cond b Empty Nothing) ≡ allowed (short (cond b Empty Nothing) && true) (cond b Empty Nothing)
unfolding size
range_short true = refl
range_short false = refl

-- a Cat whose first side matches the empty text: both sides, one after the other; and one whose first side does not
cat_null : {m n : Fit} (xs ys : List Re) (x b y : Re) → m ≡ allowed (all_short xs) x → n ≡ allowed (all_short ys) y
    → (m >>= λ da. fit (cat da b) >>= λ l. n >>= λ db. fit (alt l db))
    ≡ allowed (all_short (alt (cat x b) y ∷ (xs ++ (cat x b ∷ ys)))) (alt (cat x b) y)
unfolding all_short
cat_null {m} {n} xs ys x b y p q =
    let l = cat x b in
    let r = alt l y in
    rw (all_two xs (l ∷ ys) r, ← and_assoc (short l) (all_short ys) (short r))
    (step_allowed (all_short xs) x (λ da. fit (cat da b) >>= λ l. n >>= λ db. fit (alt l db)) (short l && (all_short ys && short r)) r p
    (step_allowed (short l) l (λ l. n >>= λ db. fit (alt l db)) (all_short ys && short r) r refl
    (step_allowed (all_short ys) y (λ db. fit (alt l db)) (short r) r q refl)))

cat_full : {m : Fit} (xs : List Re) (x b : Re) → m ≡ allowed (all_short xs) x
    → (m >>= λ da. fit (cat da b) >>= Fits) ≡ allowed (all_short (cat x b ∷ (xs ++ []))) (cat x b)
cat_full xs x b p =
    rw (append-nil xs, all_last xs (cat x b))
    (step_allowed (all_short xs) x (λ da. fit (cat da b) >>= Fits) (short (cat x b)) (cat x b) p (same (short (cat x b))))
  where
    same : (d : Bool) → (allowed d (cat x b) >>= Fits) ≡ allowed d (cat x b)
    same true = refl
    same false = refl

-- the limited derivative is the derivative, if all on the way is short
pub deriv_fits : (c : ℕ) (r : Re) → deriv_fit c r ≡ allowed (all_short (deriv_results c r)) (deriv c r)
unfolding deriv_fit deriv_results all_short deriv size
deriv_fits c Nothing = refl
deriv_fits c Empty = refl
deriv_fits c (Range lo hi) = range_short (leb lo c && leb c hi)
deriv_fits c (Cat a b) = go (nullable a) refl (deriv_fits c a) (deriv_fits c b)
  where
    go : (n : Bool) → nullable a ≡ n → deriv_fit c a ≡ allowed (all_short (deriv_results c a)) (deriv c a)
        → deriv_fit c b ≡ allowed (all_short (deriv_results c b)) (deriv c b)
        → deriv_fit c (Cat a b) ≡ allowed (all_short (deriv_results c (Cat a b))) (deriv c (Cat a b))
    go true e p q = rw (e, deriv_fit, deriv_results, deriv) (cat_null (deriv_results c a) (deriv_results c b) (deriv c a) b (deriv c b) p q)
    go false e p q = rw (e, deriv_fit, deriv_results, deriv) (cat_full (deriv_results c a) (deriv c a) b p)
deriv_fits c (Alt a b) = part_two (deriv_results c a) (deriv_results c b) (deriv c a) (deriv c b) alt (deriv_fits c a) (deriv_fits c b)
deriv_fits c (Star a) = part_one (deriv_results c a) (deriv c a) (λ x. cat x (Star a)) (deriv_fits c a)
deriv_fits c (And a b) = part_two (deriv_results c a) (deriv_results c b) (deriv c a) (deriv c b) both (deriv_fits c a) (deriv_fits c b)
deriv_fits c (Not a) = part_one (deriv_results c a) (deriv c a) negated (deriv_fits c a)

-- the limited normal form is the normal form, if all on the way is short
pub normal_fits : (r : Re) → normal_fit r ≡ allowed (all_short (normal_results r)) (normal r)
unfolding normal_fit normal_results all_short normal size
normal_fits Nothing = refl
normal_fits Empty = refl
normal_fits (Range lo hi) = refl
normal_fits (Cat a b) = rw (append-nil (normal_results b)) (part_two (normal_results a) (normal_results b) (normal a) (normal b) cat (normal_fits a) (normal_fits b))
normal_fits (Alt a b) = rw (append-nil (normal_results b)) (part_two (normal_results a) (normal_results b) (normal a) (normal b) alt (normal_fits a) (normal_fits b))
normal_fits (Star a) = rw (append-nil (normal_results a)) (part_one (normal_results a) (normal a) star (normal_fits a))
normal_fits (And a b) = rw (append-nil (normal_results b)) (part_two (normal_results a) (normal_results b) (normal a) (normal b) both (normal_fits a) (normal_fits b))
normal_fits (Not a) = rw (append-nil (normal_results a)) (part_one (normal_results a) (normal a) negated (normal_fits a))

over : (rs : List Re) → all_short rs ≡ false → Over rs
unfolding all_short
over [] e = absurd (clash refl e)
over (r ∷ rs) e = go (short r) refl (over rs) e
  where
    go : (b : Bool) → short r ≡ b → (all_short rs ≡ false → Over rs) → (b && all_short rs) ≡ false → Over (r ∷ rs)
    go true f ih d = later (ih d)
    go false f ih d = here (leb-false (size r) tree_nodes f)

not_over : {rs : List Re} → Over rs → all_short rs ≡ false
unfolding all_short
not_over (here {r} {rs} h) = ap (λ (b : Bool). b && all_short rs) (lt-leb (size r) tree_nodes h)
not_over (later {r} {rs} o) = go (short r) (not_over o)
  where
    go : (b : Bool) → all_short rs ≡ false → (b && all_short rs) ≡ false
    go true e = e
    go false e = refl

allowed_long : (b : Bool) (r : Re) → allowed b r ≡ Long → b ≡ false
allowed_long true r e = absurd (let z : ◌≡◌ {A = ℕ} 0 1 = cc in omega arith)
allowed_long false r e = refl

allowed_fits : (b : Bool) (r x : Re) → allowed b r ≡ Fits x → x ≡ r
allowed_fits true r x e = cc
allowed_fits false r x e = absurd (let z : ◌≡◌ {A = ℕ} 0 1 = cc in omega arith)

-- Long exactly when a result on the way passes the limit; any other answer is the unlimited one
pub deriv_long : (c : ℕ) (r : Re) → (deriv_fit c r ≡ Long) ↔ Over (deriv_results c r)
deriv_long c r = (
  λ e. over (deriv_results c r) (allowed_long _ (deriv c r) (sym (deriv_fits c r) ∙ e)),
  λ o. deriv_fits c r ∙ ap (λ (b : Bool). allowed b (deriv c r)) (not_over o),
)

pub deriv_short : (c : ℕ) (r x : Re) → deriv_fit c r ≡ Fits x → x ≡ deriv c r
deriv_short c r x e = allowed_fits (all_short (deriv_results c r)) (deriv c r) x (sym (deriv_fits c r) ∙ e)

pub normal_long : (r : Re) → (normal_fit r ≡ Long) ↔ Over (normal_results r)
normal_long r = (
  λ e. over (normal_results r) (allowed_long _ (normal r) (sym (normal_fits r) ∙ e)),
  λ o. normal_fits r ∙ ap (λ (b : Bool). allowed b (normal r)) (not_over o),
)

pub normal_short : (r x : Re) → normal_fit r ≡ Fits x → x ≡ normal r
normal_short r x e = allowed_fits (all_short (normal_results r)) (normal r) x (sym (normal_fits r) ∙ e)

-- what fits is short, since it is itself among the results on the way
first_short : (r : Re) (rs : List Re) → all_short (r ∷ rs) ≡ true → short r ≡ true
unfolding all_short
first_short r rs e = (and_true (short r) (all_short rs) e).0

deriv_own : (c : ℕ) (r : Re) → all_short (deriv_results c r) ≡ true → short (deriv c r) ≡ true
unfolding deriv_results
deriv_own c Nothing e = first_short _ _ e
deriv_own c Empty e = first_short _ _ e
deriv_own c (Range lo hi) e = first_short _ _ e
deriv_own c (Cat a b) e = first_short _ _ e
deriv_own c (Alt a b) e = first_short _ _ e
deriv_own c (Star a) e = first_short _ _ e
deriv_own c (And a b) e = first_short _ _ e
deriv_own c (Not a) e = first_short _ _ e

normal_own : (r : Re) → all_short (normal_results r) ≡ true → short (normal r) ≡ true
unfolding normal_results
normal_own r e = first_short (normal r) _ (rw (upward_parts _ r) at e)

allowed_short : (b : Bool) (r x : Re) → (b ≡ true → short r ≡ true) → allowed b r ≡ Fits x → short x ≡ true
allowed_short true r x f e = rw (allowed_fits true r x e) (f refl)
allowed_short false r x f e = absurd (let z : ◌≡◌ {A = ℕ} 0 1 = cc in omega arith)

pub deriv_fits_short : (c : ℕ) (r x : Re) → deriv_fit c r ≡ Fits x → short x ≡ true
deriv_fits_short c r x e = allowed_short _ (deriv c r) x (deriv_own c r) (sym (deriv_fits c r) ∙ e)

pub normal_fits_short : (r x : Re) → normal_fit r ≡ Fits x → short x ≡ true
normal_fits_short r x e = allowed_short _ (normal r) x (normal_own r) (sym (normal_fits r) ∙ e)
