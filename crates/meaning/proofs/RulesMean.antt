-- The label after a text, by derivatives, is the one that names it; and no other number names it.
-- A vector's label looks for the empty text; each byte read is taken off the text by the derivative theorem.
use Rattle.std.specs.Prelude.{ℕ, zero, suc, ◌+◌, ◌<◌, ◌≡◌, refl, Bool, true, false, cond, List, [], ◌∷◌, ◌↔◌, length}
use Rattle.std.proofs.Math.Path.{subst}
use Rattle.std.proofs.Common.{arith}
use Rattle.std.proofs.Math.Decide.{dec_lt}
use Rattle.std.proofs.lemmas.List.{length-map}
use Rattle.std.proofs.Math.ListN.{get_or-map}
use Rattle.meaning.specs.Re.{Re, Text}
use Rattle.meaning.specs.Re.Re.{Nothing}
use Rattle.meaning.specs.Means.{Matches}
use Rattle.meaning.specs.Normal.{normal}
use Rattle.meaning.proofs.NormalMeans.{normal_means}
use Rattle.meaning.specs.Derive.{nullable, deriv}
use Rattle.meaning.specs.PlainMeans.{nullable_means}
use Rattle.meaning.proofs.DeriveMeans.{deriv_means}
use Rattle.meaning.specs.Rules.{rule, Names, label_from, label, derive_all, derive_by, start, label_after}
use Rattle.meaning.specs.Tests.{clash}

-- what a label says of a row of which i rules have been passed
data Labels (rs : List Re) (i : ℕ) : ℕ → Type 0 where
  none : ((k : ℕ) → k < length rs → nullable (rule rs k) ≡ true → ⊥) → Labels rs i 0
  first : (k : ℕ) → k < length rs → nullable (rule rs k) ≡ true → ((j : ℕ) → j < k → nullable (rule rs j) ≡ true → ⊥) → Labels rs i (suc (i + k))

module _ (r : Re) (rs : List Re) (no : nullable r ≡ true → ⊥) where
  -- what holds of no rule of the tail holds of none of the row
  past : (n : ℕ) → ((k : ℕ) → k < n → nullable (rule rs k) ≡ true → ⊥) → (k : ℕ) → k < suc n → nullable (rule (r ∷ rs) k) ≡ true → ⊥
  past n f zero h e = no e
  past n f (suc k) h e = f k (omega arith) e

  labels_past : (i : ℕ) {l : ℕ} → Labels rs (suc i) l → Labels (r ∷ rs) i l
  unfolding past
  labels_past i (none f) = none (past (length rs) f)
  labels_past i (first k h e f) = subst (Labels (r ∷ rs) i) (omega arith) (first (suc k) (omega arith) e (past k f))

labels : (rs : List Re) (i : ℕ) → Labels rs i (label_from i rs)
unfolding label_from
labels [] i = none (λ k h e. omega arith)
labels (r ∷ rs) i = go (nullable r) refl (labels rs (suc i))
  where
    go : (b : Bool) → nullable r ≡ b → Labels rs (suc i) (label_from (suc i) rs) → Labels (r ∷ rs) i (cond b (suc i) (label_from (suc i) rs))
    go true e ih = subst (Labels (r ∷ rs) i) (omega arith) (first 0 (omega arith) e (λ j h d. omega arith))
    go false e ih = labels_past r rs (λ d. clash d e) i ih

-- the label of a vector names the empty text
names_empty : {rs : List Re} {l : ℕ} → Labels rs 0 l → Names rs [] l
names_empty {rs} (none f) = λ k h m. f k h ((nullable_means (rule rs k)).1 m)
names_empty {rs} (first k h e f) =
    let same : suc k ≡ suc (0 + k) = omega arith in
    subst (Names rs []) same (h, (nullable_means (rule rs k)).0 e, λ j g m. f j g ((nullable_means (rule rs j)).1 m))

pub label_names : (rs : List Re) → Names rs [] (label rs)
label_names rs = names_empty (labels rs 0)

-- rows that match alike are named alike
pub names_alike : (rs ss : List Re) (v w : Text) → length rs ≡ length ss → ((k : ℕ) → Matches (rule rs k) v ↔ Matches (rule ss k) w) → (l : ℕ) → Names rs v l → Names ss w l
names_alike rs ss v w e f zero n = λ k h m. n k (omega arith) ((f k).1 m)
names_alike rs ss v w e f (suc i) n = (omega (arith, n.0), (f i).0 n.1, λ k h m. n.2 k h ((f k).1 m))

derived_rule : (c : ℕ) (rs : List Re) (k : ℕ) → rule (derive_all c rs) k ≡ deriv c (rule rs k)
unfolding deriv
derived_rule c rs k = get_or-map (deriv c) rs k Nothing

start_rule : (rs : List Re) (k : ℕ) → rule (start rs) k ≡ normal (rule rs k)
unfolding normal
start_rule rs k = get_or-map normal rs k Nothing

-- a byte less to match, by the derivative theorem
derived_alike : (c : ℕ) (rs : List Re) (w : Text) (k : ℕ) → Matches (rule (derive_all c rs) k) w ↔ Matches (rule rs k) (c ∷ w)
derived_alike c rs w k = rw (derived_rule c rs k) (deriv_means c (rule rs k) w)

start_alike : (rs : List Re) (w : Text) (k : ℕ) → Matches (rule (start rs) k) w ↔ Matches (rule rs k) w
start_alike rs w k = rw (start_rule rs k) (normal_means (rule rs k) w)

pub derived_names : (rs : List Re) (w : Text) → Names rs w (label (derive_by rs w))
derived_names rs [] = label_names rs
derived_names rs (c ∷ w) =
    names_alike (derive_all c rs) rs w (c ∷ w) (length-map rs (deriv c)) (derived_alike c rs w) (label (derive_by (derive_all c rs) w)) (derived_names (derive_all c rs) w)

-- the theorem: by derivatives, from the rules in normal form
pub names_after : (rs : List Re) (w : Text) → Names rs w (label_after rs w)
names_after rs w = names_alike (start rs) rs w w (length-map rs normal) (start_alike rs w) (label_after rs w) (derived_names (start rs) w)

-- and only one number names a text
pub names_one : (rs : List Re) (w : Text) (l m : ℕ) → Names rs w l → Names rs w m → l ≡ m
names_one rs w zero zero p q = refl
names_one rs w zero (suc j) p q = absurd (p j q.0 q.1)
names_one rs w (suc i) zero p q = absurd (q i p.0 p.1)
names_one rs w (suc i) (suc j) p q =
    elim (dec_lt i j) [ yes h ↦ absurd (q.2 i h p.1) | no f ↦ elim (dec_lt j i) [ yes h ↦ absurd (p.2 j h q.1) | no g ↦ omega arith ] ]
