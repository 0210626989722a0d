-- The derivative theorem: the derivative by c matches w exactly when the term matches c, then w.
-- The derivative in normal form matches what the textbook's does (PlainMeans), since normal form keeps meaning.
use Rattle.std.specs.Prelude.{ℕ, ◌≡◌, Bool, ◌∷◌, ◌↔◌}
use Rattle.std.proofs.Math.Path.{refl}
use Rattle.std.proofs.Math.Bool.{true, false}
use Rattle.meaning.specs.Re.{Re, Text}
use Rattle.meaning.specs.Re.Re.{Nothing, Empty, Range, Cat, Alt, Star, And, Not}
use Rattle.meaning.specs.Lang.{Same, Many}
use Rattle.meaning.specs.LangLaws.{same_refl, same_trans, then_same, either_same, both_same, not_same}
use Rattle.meaning.specs.Means.{Matches}
use Rattle.meaning.specs.Normal.{cat}
use Rattle.meaning.proofs.NormalMeans.{cat_means, alt_means, both_means, negated_means}
use Rattle.meaning.specs.Derive.{nullable, deriv, plain}
use Rattle.meaning.specs.PlainMeans.{plain_means}

-- the derivative in normal form matches what the textbook's does
module _ (c : ℕ) where
  deriv_plain : (r : Re) → Same (Matches (deriv c r)) (Matches (plain c r))
  unfolding deriv plain
  deriv_plain Nothing = same_refl _
  deriv_plain Empty = same_refl _
  deriv_plain (Range lo hi) = same_refl _
  deriv_plain (Cat a b) = go (nullable a) refl (deriv_plain a) (deriv_plain b)
    where
      go : (n : Bool) → nullable a ≡ n → Same (Matches (deriv c a)) (Matches (plain c a)) → Same (Matches (deriv c b)) (Matches (plain c b))
          → Same (Matches (deriv c (Cat a b))) (Matches (plain c (Cat a b)))
      go true e p q =
          rw (e, deriv, plain)
          (same_trans (alt_means (cat (deriv c a) b) (deriv c b)) (either_same (same_trans (cat_means (deriv c a) b) (then_same p (same_refl (Matches b)))) q))
      go false e p q = rw (e, deriv, plain) (same_trans (cat_means (deriv c a) b) (then_same p (same_refl (Matches b))))
  deriv_plain (Alt a b) = same_trans (alt_means (deriv c a) (deriv c b)) (either_same (deriv_plain a) (deriv_plain b))
  deriv_plain (Star a) = same_trans (cat_means (deriv c a) (Star a)) (then_same (deriv_plain a) (same_refl (Many (Matches a))))
  deriv_plain (And a b) = same_trans (both_means (deriv c a) (deriv c b)) (both_same (deriv_plain a) (deriv_plain b))
  deriv_plain (Not a) = same_trans (negated_means (deriv c a)) (not_same (deriv_plain a))

pub deriv_means : (c : ℕ) (r : Re) (w : Text) → Matches (deriv c r) w ↔ Matches r (c ∷ w)
deriv_means c r = same_trans (deriv_plain c r) (plain_means c r)
