-- The limited forms: a normal-form result of more than 255 tree nodes, also of a part on the way, is Long.
-- On the way stand the results of all parts that are worked out, each in normal form; LimitedLaws says exactly when Long comes.
use Rattle.std.specs.Prelude.{ℕ, ◌<◌, Bool, true, false, cond, ◌&&◌, leb}
use mathlib.Core.List.{List, [], ◌∷◌, ◌++◌, flat_map}
use Rattle.number.specs.Limits.{tree_nodes}
use Rattle.meaning.specs.Re.{Re, upward, size}
use Rattle.meaning.specs.Re.Re.{Nothing, Empty, Range, Cat, Alt, Star, And, Not}
use Rattle.meaning.specs.Normal.{cat, alt, star, both, negated, normal}
use Rattle.meaning.specs.Derive.{nullable, deriv}

-- a result, or that one was too long
pub data Fit : Type 0 where
  Long : Fit
  Fits : Re → Fit

infixl 20 ◌>>=◌
abbrev pub ◌>>=◌ : Fit → (Re → Fit) → Fit
Long >>= f = Long
Fits r >>= f = f r

-- whether a result has few enough nodes
abbrev pub short : Re → Bool
short r = leb (size r) tree_nodes

abbrev pub fit : Re → Fit
fit r = cond (short r) (Fits r) Long

unfoldable pub deriv_fit : ℕ → Re → Fit
deriv_fit c Nothing = Fits Nothing
deriv_fit c Empty = Fits Nothing
deriv_fit c (Range lo hi) = Fits (deriv c (Range lo hi))
deriv_fit c (Cat a b) = do
  da ← deriv_fit c a
  left ← fit (cat da b)
  elim (nullable a) [
    | true ↦ do
      db ← deriv_fit c b
      fit (alt left db)
    | false ↦ Fits left
  ]
deriv_fit c (Alt a b) = do
  da ← deriv_fit c a
  db ← deriv_fit c b
  fit (alt da db)
deriv_fit c (Star a) = do
  da ← deriv_fit c a
  fit (cat da (Star a))
deriv_fit c (And a b) = do
  da ← deriv_fit c a
  db ← deriv_fit c b
  fit (both da db)
deriv_fit c (Not a) = do
  da ← deriv_fit c a
  fit (negated da)

unfoldable pub normal_fit : Re → Fit
normal_fit Nothing = Fits Nothing
normal_fit Empty = Fits Empty
normal_fit (Range lo hi) = Fits (Range lo hi)
normal_fit (Cat a b) = do
  na ← normal_fit a
  nb ← normal_fit b
  fit (cat na nb)
normal_fit (Alt a b) = do
  na ← normal_fit a
  nb ← normal_fit b
  fit (alt na nb)
normal_fit (Star a) = do
  na ← normal_fit a
  fit (star na)
normal_fit (And a b) = do
  na ← normal_fit a
  nb ← normal_fit b
  fit (both na nb)
normal_fit (Not a) = do
  na ← normal_fit a
  fit (negated na)

-- the results on the way to a derivative: its own, and those of the parts that are worked out for it; of a Cat whose second side is worked
-- out, also the left side of the choice that comes of it
unfoldable pub deriv_results : ℕ → Re → List Re
deriv_results c Nothing = deriv c Nothing ∷ []
deriv_results c Empty = deriv c Empty ∷ []
deriv_results c (Range lo hi) = deriv c (Range lo hi) ∷ []
deriv_results c (Cat a b) = deriv c (Cat a b) ∷ (deriv_results c a ++ cond (nullable a) (cat (deriv c a) b ∷ deriv_results c b) [])
deriv_results c (Alt a b) = deriv c (Alt a b) ∷ (deriv_results c a ++ deriv_results c b)
deriv_results c (Star a) = deriv c (Star a) ∷ deriv_results c a
deriv_results c (And a b) = deriv c (And a b) ∷ (deriv_results c a ++ deriv_results c b)
deriv_results c (Not a) = deriv c (Not a) ∷ deriv_results c a

-- the results on the way to a normal form: its own, and those of its parts
unfoldable pub normal_results : Re → List Re
unfolding upward flat_map
normal_results = upward (λ r results. normal r ∷ flat_map (λ rs. rs) results)

-- each of them is short enough
unfoldable pub all_short : List Re → Bool
all_short [] = true
all_short (r ∷ rs) = short r && all_short rs

-- some result has more nodes than the limit
pub data Over : List Re → Type 0 where
  here : {r : Re} {rs : List Re} → tree_nodes < size r → Over (r ∷ rs)
  later : {r : Re} {rs : List Re} → Over rs → Over (r ∷ rs)
