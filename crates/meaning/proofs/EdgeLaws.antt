-- Two bytes with no edge between them have one derivative, of a term and of a row; and an edge is always further on.
-- So a loop that goes from edge to edge passes every byte and ends at the number of bytes.
use Rattle.std.specs.Prelude.{ℕ, ◌+◌, ◌≤◌, ◌<◌, min, ◌≡◌, refl, Bool, true, false, cond, ◌&&◌, List, [], ◌∷◌, map, leb, ltb}
use Rattle.std.proofs.Common.{arith, ap, ltb-true, ltb-false, leb-true, leb-false, le-leb}
use Rattle.std.proofs.lemmas.Bool.{lt-leb}
use Rattle.number.specs.Branch.{by_cond}
use Rattle.number.specs.Limits.{bytes, last_byte}
use Rattle.meaning.specs.Re.{Re, parts}
use Rattle.meaning.specs.Re.Re.{Nothing, Empty, Range, Cat, Alt, Star, And, Not}
use Rattle.meaning.specs.PartLaws.{All, all, by_parts, upward_parts}
use Rattle.meaning.specs.Derive.{nullable, deriv}
use Rattle.meaning.specs.Limited.{deriv_fit}
use Rattle.meaning.specs.Limited.Fit.{Fits}
use Rattle.meaning.specs.Edges.{range_edge, own_edge, least, next_edge, next_edge_all}

-- by the parts of a term, and by the terms of a row
pub edge_parts : (c : ℕ) (r : Re) → next_edge c r ≡ min (own_edge c r) (next_edge_all c (parts r))
unfolding next_edge next_edge_all
edge_parts c r = upward_parts (λ r es. min (own_edge c r) (least es)) r

pub edge_none : (c : ℕ) → next_edge_all c [] ≡ bytes
unfolding next_edge_all least
edge_none c = refl

pub edge_more : (c : ℕ) (r : Re) (rs : List Re) → next_edge_all c (r ∷ rs) ≡ min (next_edge c r) (next_edge_all c rs)
unfolding next_edge_all least
edge_more c r rs = refl

-- an edge is further on
own_after : (c : ℕ) (r : Re) → c ≤ last_byte → c < own_edge c r
unfolding range_edge
own_after c Nothing h = omega arith
own_after c Empty h = omega arith
own_after c (Range lo hi) h =
    by_cond (λ (n : ℕ). c < n) (ltb c lo) (λ e. ltb-true c lo e)
    (λ _. by_cond (λ (n : ℕ). c < n) (leb c hi) (λ e. omega (arith, leb-true c hi e)) (λ _. omega arith))
own_after c (Cat a b) h = omega arith
own_after c (Alt a b) h = omega arith
own_after c (Star a) h = omega arith
own_after c (And a b) h = omega arith
own_after c (Not a) h = omega arith

all_after : (c : ℕ) (v : List Re) → c ≤ last_byte → All (λ r. c < next_edge c r) v → c < next_edge_all c v
all_after c [] h a = omega (arith, edge_none c)
all_after c (r ∷ rs) h a = omega (arith, edge_more c r rs, a.0, all_after c rs h a.1)

pub edge_after : (c : ℕ) (r : Re) → c ≤ last_byte → c < next_edge c r
edge_after c r h = by_parts (λ x. c < next_edge c x) (λ x a. omega (arith, edge_parts c x, own_after c x h, all_after c (parts x) h a)) r

pub edge_all_after : (c : ℕ) (v : List Re) → c ≤ last_byte → c < next_edge_all c v
edge_all_after c v h = all_after c v h (all (λ r. c < next_edge c r) (λ r. edge_after c r h) v)

-- and not past the last byte's end
pub edge_all_within : (c : ℕ) (v : List Re) → next_edge_all c v ≤ bytes
edge_all_within c [] = omega (arith, edge_none c)
edge_all_within c (r ∷ rs) = omega (arith, edge_more c r rs, edge_all_within c rs)

pub edge_within : (c : ℕ) (r : Re) → next_edge c r ≤ bytes
edge_within c r = omega (arith, edge_parts c r, edge_all_within c (parts r))

-- a range holds both bytes or neither
range_edge_lem : (c d lo hi : ℕ) → c ≤ d → d < range_edge c lo hi → (leb lo d && leb d hi) ≡ (leb lo c && leb c hi)
unfolding range_edge
range_edge_lem c d lo hi h = below (ltb c lo) refl
  where
    inside : (t : Bool) → leb c hi ≡ t → lo ≤ c → d < cond t (hi + 1) bytes → (leb lo d && leb d hi) ≡ (leb lo c && leb c hi)
    inside true e l k =
        let u = leb-true c hi e in
        rw (le-leb lo d (omega arith), le-leb d hi (omega arith), le-leb lo c l, e)
    inside false e l k =
        let u = leb-false c hi e in
        rw (le-leb lo d (omega arith), lt-leb d hi (omega arith), le-leb lo c l, e)

    below : (t : Bool) → ltb c lo ≡ t → d < cond t lo (cond (leb c hi) (hi + 1) bytes) → (leb lo d && leb d hi) ≡ (leb lo c && leb c hi)
    below true e k =
        let u = ltb-true c lo e in
        rw (lt-leb lo d k, lt-leb lo c u)
    below false e k = inside (leb c hi) refl (ltb-false c lo e) k

-- no edge between: one derivative
pub deriv_edge : (c d : ℕ) (r : Re) → c ≤ d → d < next_edge c r → deriv d r ≡ deriv c r
unfolding next_edge least deriv
deriv_edge c d Nothing h k = refl
deriv_edge c d Empty h k = refl
deriv_edge c d (Range lo hi) h k = rw (range_edge_lem c d lo hi h (omega arith))
deriv_edge c d (Cat a b) h k = go (nullable a) refl (deriv_edge c d a h (omega arith)) (deriv_edge c d b h (omega arith))
  where
    go : (n : Bool) → nullable a ≡ n → deriv d a ≡ deriv c a → deriv d b ≡ deriv c b → deriv d (Cat a b) ≡ deriv c (Cat a b)
    go true e p q = rw (e, deriv) (rw (p, q))
    go false e p q = rw (e, deriv) (rw p)
deriv_edge c d (Alt a b) h k = rw (deriv_edge c d a h (omega arith), deriv_edge c d b h (omega arith))
deriv_edge c d (Star a) h k = rw (deriv_edge c d a h (omega arith))
deriv_edge c d (And a b) h k = rw (deriv_edge c d a h (omega arith), deriv_edge c d b h (omega arith))
deriv_edge c d (Not a) h k = rw (deriv_edge c d a h (omega arith))

pub fit_edge : (c d : ℕ) (r : Re) → c ≤ d → d < next_edge c r → deriv_fit d r ≡ deriv_fit c r
unfolding next_edge least deriv_fit
fit_edge c d Nothing h k = refl
fit_edge c d Empty h k = refl
fit_edge c d (Range lo hi) h k = ap Fits (deriv_edge c d (Range lo hi) h k)
fit_edge c d (Cat a b) h k = go (nullable a) refl (fit_edge c d a h (omega arith)) (fit_edge c d b h (omega arith))
  where
    go : (n : Bool) → nullable a ≡ n → deriv_fit d a ≡ deriv_fit c a → deriv_fit d b ≡ deriv_fit c b → deriv_fit d (Cat a b) ≡ deriv_fit c (Cat a b)
    go true e p q = rw (e, deriv_fit) (rw (p, q))
    go false e p q = rw (e, deriv_fit) (rw p)
fit_edge c d (Alt a b) h k = rw (fit_edge c d a h (omega arith), fit_edge c d b h (omega arith))
fit_edge c d (Star a) h k = rw (fit_edge c d a h (omega arith))
fit_edge c d (And a b) h k = rw (fit_edge c d a h (omega arith), fit_edge c d b h (omega arith))
fit_edge c d (Not a) h k = rw (fit_edge c d a h (omega arith))

-- of a row
pub row_edge : (c d : ℕ) (v : List Re) → c ≤ d → d < next_edge_all c v → map (deriv d) v ≡ map (deriv c) v
unfolding next_edge_all least
row_edge c d [] h k = refl
row_edge c d (r ∷ rs) h k = rw (deriv_edge c d r h (omega arith), row_edge c d rs h (omega arith))

pub row_fit_edge : (c d : ℕ) (v : List Re) → c ≤ d → d < next_edge_all c v → map (deriv_fit d) v ≡ map (deriv_fit c) v
unfolding next_edge_all least
row_fit_edge c d [] h k = refl
row_fit_edge c d (r ∷ rs) h k = rw (fit_edge c d r h (omega arith), row_fit_edge c d rs h (omega arith))
