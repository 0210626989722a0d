-- The shape is exact: a term is in shape exactly where it is its own normal form; and what the normal form of Cat and of a derivative is.
-- Meaning and shape alone would let a sequence or a derivative come out as another term that matches the same.
use Rattle.std.specs.Prelude.{ℕ, ◌≡◌, refl, Bool, true, false, cond, ◌&&◌, ◌||◌, List, ◌↔◌, leb}
use Rattle.std.proofs.Common.{sym, ap, subst, ◌∙◌, inl, inr}
use Rattle.number.specs.Branch.{by_cond}
use Rattle.meaning.specs.Re.{Re, is_nothing, is_empty}
use Rattle.meaning.specs.Re.Re.{Nothing, Empty, Range, Cat, Alt, Star, And, Not}
use Rattle.meaning.specs.Normal.{chain, cat, kept, sorted, nested, alt, star, both, negated, normal}
use Rattle.meaning.specs.Derive.{nullable, deriv, plain}
use Rattle.meaning.specs.Shape.{InShape, Repeated, is_not, united}
use Rattle.meaning.specs.declared.Join.TheVariants.{Then, Or, Both}
use Rattle.meaning.specs.JoinLaws.{gathered_joined, by_members, chain_one}
use Rattle.meaning.proofs.ShapeLaws.{sorted_both, sorted_own, alone, formed_united, cat_chain, chain_some, chain_long, shape_normal}
use Rattle.meaning.specs.Tests.{clash, or_true, or_of_true, is_nothing_lem, is_empty_lem}

-- a Star in shape
star_own : (a : Re) → Repeated a → star a ≡ Star a
unfolding star
star_own Nothing r = absurd (clash refl r.some)
star_own Empty r = absurd (clash refl r.long)
star_own (Range lo hi) r = refl
star_own (Cat a b) r = refl
star_own (Alt a b) r = refl
star_own (Star a) r = absurd (clash refl r.no_star)
star_own (And a b) r = refl
star_own (Not a) r = refl

-- a choice in shape
alt_own : (a b : Re) → InShape (Alt a b) → alt a b ≡ Alt a b
unfolding alt
alt_own a b s = ap (λ (xs : List Re). nested Or (sorted (kept xs))) (sym (gathered_joined Or a b)) ∙ alone Or tt (Alt a b) s

-- an And in shape
both_own : (a b : Re) → InShape (And a b) → both a b ≡ And a b
unfolding united
both_own a b s =
    formed_united Both tt a b s.0 s.1 s.2.left_some s.2.right_some
    ∙ rw (← sorted_both Both tt a b s.0 s.1, ← gathered_joined Both a b) (sorted_own Both tt (And a b) s)

-- a Not in shape
pub negated_not : (a : Re) → negated (Not a) ≡ a
unfolding negated
negated_not a = refl

pub negated_own : (a : Re) → is_not a ≡ false → negated a ≡ Not a
unfolding negated
negated_own Nothing e = refl
negated_own Empty e = refl
negated_own (Range lo hi) e = refl
negated_own (Cat a b) e = refl
negated_own (Alt a b) e = refl
negated_own (Star a) e = refl
negated_own (And a b) e = refl
negated_own (Not a) e = absurd (clash refl e)

-- a sequence in shape
cat_own : (a b : Re) → InShape (Cat a b) → cat a b ≡ Cat a b
cat_own a b s =
    cat_chain a b s.2.left_some s.2.left_long s.2.right_some s.2.right_long ∙ chain_one a b s.2.no_chain

-- what is in shape is its own normal form
pub normal_own : (r : Re) → InShape r → normal r ≡ r
unfolding normal
normal_own Nothing s = refl
normal_own Empty s = refl
normal_own (Range lo hi) s = refl
normal_own (Cat a b) s = rw (normal_own a s.0, normal_own b s.1) (cat_own a b s)
normal_own (Alt a b) s = rw (normal_own a s.0, normal_own b s.1) (alt_own a b s)
normal_own (Star a) s = rw (normal_own a s.0) (star_own a s.1)
normal_own (And a b) s = rw (normal_own a s.0, normal_own b s.1) (both_own a b s)
normal_own (Not a) s = rw (normal_own a s.0) (negated_own a s.1)

pub shape_exact : (r : Re) → InShape r ↔ (normal r ≡ r)
shape_exact r = (normal_own r, λ e. subst InShape e (shape_normal r))

-- Cat: its ends, and that it may be taken together in either way
pub cat_nothing_left : (b : Re) → cat Nothing b ≡ Nothing
unfolding cat
cat_nothing_left b = refl

pub cat_nothing_right : (a : Re) → cat a Nothing ≡ Nothing
unfolding cat
cat_nothing_right a = rw (or_of_true (is_nothing a) {b = true} refl)

pub cat_empty_left : (b : Re) → cat Empty b ≡ b
unfolding cat
cat_empty_left b = by_cond (λ r. r ≡ b) (is_nothing b) (λ e. sym (is_nothing_lem b e)) (λ _. refl)

pub cat_empty_right : (a : Re) → cat a Empty ≡ a
unfolding cat
cat_empty_right a =
    by_cond (λ r. r ≡ a) (is_nothing a || false) (λ e. elim (or_true (is_nothing a) false e) [ inl d ↦ sym (is_nothing_lem a d) | inr d ↦ absurd (clash d refl) ])
    (λ _. by_cond (λ r. r ≡ a) (is_empty a) (λ e. sym (is_empty_lem a e)) (λ _. refl))

chain_again : (x y z : Re) → chain (chain x y) z ≡ chain x (chain y z)
unfolding chain
chain_again x y z =
    by_members Then (λ r. chain (chain r y) z ≡ chain r (chain y z))
    (λ r e. rw (chain_one r y e, chain_one r (chain y z) e)) (λ a b _ ih. ap (Cat a) ih) x

pub cat_again : (x y z : Re) → cat (cat x y) z ≡ cat x (cat y z)
cat_again x y z = go (is_nothing x) (is_nothing y) (is_nothing z) (is_empty x) (is_empty y) (is_empty z) refl refl refl refl refl refl
  where
    go : (m n o p q r : Bool) → is_nothing x ≡ m → is_nothing y ≡ n → is_nothing z ≡ o → is_empty x ≡ p → is_empty y ≡ q → is_empty z ≡ r
        → cat (cat x y) z ≡ cat x (cat y z)
    go true n o p q r a b c d e f = rw (is_nothing_lem x a, cat_nothing_left y, cat_nothing_left z, cat_nothing_left (cat y z))
    go false true o p q r a b c d e f = rw (is_nothing_lem y b, cat_nothing_right x, cat_nothing_left z, cat_nothing_right x)
    go false false true p q r a b c d e f = rw (is_nothing_lem z c, cat_nothing_right (cat x y), cat_nothing_right y, cat_nothing_right x)
    go false false false true q r a b c d e f = rw (is_empty_lem x d, cat_empty_left y, cat_empty_left (cat y z))
    go false false false false true r a b c d e f = rw (is_empty_lem y e, cat_empty_right x, cat_empty_left z)
    go false false false false false true a b c d e f = rw (is_empty_lem z f, cat_empty_right (cat x y), cat_empty_right y)
    go false false false false false false a b c d e f =
        rw (
          cat_chain x y a d b e,
          cat_chain y z b e c f,
          cat_chain (chain x y) z (chain_some x y) (chain_long x y) c f,
          cat_chain x (chain y z) a d (chain_some y z) (chain_long y z),
        )
        (chain_again x y z)

-- a derivative is the normal form of the textbook's
pub deriv_normal : (c : ℕ) (r : Re) → InShape r → deriv c r ≡ normal (plain c r)
unfolding deriv plain normal
deriv_normal c Nothing s = refl
deriv_normal c Empty s = refl
deriv_normal c (Range lo hi) s = go (leb lo c && leb c hi)
  where
    go : (n : Bool) → cond n Empty Nothing ≡ normal (cond n Empty Nothing)
    go true = refl
    go false = refl
deriv_normal c (Cat a b) s = go (nullable a) refl (deriv_normal c a s.0) (deriv_normal c b s.1)
  where
    go : (n : Bool) → nullable a ≡ n → deriv c a ≡ normal (plain c a) → deriv c b ≡ normal (plain c b) → deriv c (Cat a b) ≡ normal (plain c (Cat a b))
    go true e p q = rw (e, deriv, plain) (rw (p, q, normal_own b s.1))
    go false e p q = rw (e, deriv, plain) (rw (p, normal_own b s.1))
deriv_normal c (Alt a b) s = rw (deriv_normal c a s.0, deriv_normal c b s.1)
deriv_normal c (Star a) s = rw (deriv_normal c a s.0, normal_own a s.0, star_own a s.1)
deriv_normal c (And a b) s = rw (deriv_normal c a s.0, deriv_normal c b s.1)
deriv_normal c (Not a) s = rw (deriv_normal c a s.0)
