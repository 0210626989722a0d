-- The pool: the distinct terms among the components of vectors and all their parts, in the order in which they come.
-- PartsLaws proves that it holds exactly these, each once; how many there are is what the limit is about.
use Rattle.std.specs.Prelude.{ℕ, ◌<◌, ◌≡◌, Bool, true, false, cond, ◌||◌, List, [], ◌∷◌, ◌++◌, length, get_or}
use Rattle.meaning.specs.Re.{Re, parts, upward}
use Rattle.meaning.specs.Re.Re.{Nothing}
use Rattle.walk.specs.Vectors.{same_term}

-- a term stands in a pool
unfoldable pub holds : List Re → Re → Bool
holds [] x = false
holds (y ∷ ys) x = same_term y x || holds ys x

-- a term put at the end, if it is new
unfoldable pub with_term : List Re → Re → List Re
with_term pool x = cond (holds pool x) pool (pool ++ (x ∷ []))

-- the parts are put into the pool in turn, then the term; of each part it is told what puts it
abbrev pub behind : Re → List (List Re → List Re) → List Re → List Re
behind r [] pool = with_term pool r
behind r (put ∷ puts) pool = behind r puts (put pool)

-- a term and all its parts, parts first
unfoldable pub with_parts : List Re → Re → List Re
unfolding upward
with_parts pool r = upward behind r pool

-- all components of a vector
unfoldable pub with_vector : List Re → List Re → List Re
with_vector pool [] = pool
with_vector pool (r ∷ rs) = with_vector (with_parts pool r) rs

-- ---- what the pool holds, in words of its own

-- x is one of these, or a part of one
pub data PartOf (x : Re) : List Re → Type 0 where
  here : {r : Re} {rs : List Re} → x ≡ r → PartOf x (r ∷ rs)
  inside : {r : Re} {rs : List Re} → PartOf x (parts r) → PartOf x (r ∷ rs)
  later : {r : Re} {rs : List Re} → PartOf x rs → PartOf x (r ∷ rs)

-- a term stands in a pool, as a fact
abbrev pub InPool : List Re → Re → Type 0
InPool p x = holds p x ≡ true

-- no term stands in it twice
pub record Once (p : List Re) : Type 0 where
  pub apart : (i j : ℕ) → i < j → j < length p → get_or p i Nothing ≡ get_or p j Nothing → ⊥

-- with a term it holds the term's parts
pub record Closed (p : List Re) : Type 0 where
  pub inner : (x r : Re) → InPool p r → PartOf x (parts r) → InPool p x
