-- A step rests on its way only through the sheet state that it leads to, its two limits, the place told and the refusal there.
-- So a step that is given just these is a step of the whole walk.
use Rattle.std.specs.Prelude.{ℕ, ◌≡◌, refl}
use Rattle.number.specs.declared.Refusal.{Refusal}
use Rattle.number.specs.Limits.{pool}
use Rattle.walk.specs.Vectors.{Vector, derived}
use Rattle.walk.specs.Vectors.Vector.{TooLong, Terms}
use Rattle.walk.specs.Walk.{Item, Held, Way, come, after, come_by, step}
use Rattle.walk.specs.StepLaws.{item}
use Rattle.steps.specs.Step.{way_of}

come_alike : (way : Way) (place sheet : ℕ) (h : Held) (x : Item) → way.terms ≡ pool → come (way_of sheet way.limit place (way.full place)) place h x ≡ come way place h x
unfolding come
come_alike way place sheet h x e = rw e

step_alike : (way : Way) (i : ℕ) (h : Held) (c : ℕ) → way.terms ≡ pool
    → step (way_of (way.go (item h i).sheet c) way.limit (way.told h.items i) (way.full (way.told h.items i))) i h c ≡ step way i h c
unfolding step
step_alike way i h c e = go (derived c (item h i).vector)
  where
    one : Way
    one = way_of (way.go (item h i).sheet c) way.limit (way.told h.items i) (way.full (way.told h.items i))

    go : (v : Vector) → come_by one i h c v ≡ come_by way i h c v
    go TooLong = refl
    go (Terms v) = come_alike way (way.told h.items i) (way.go (item h i).sheet c) h (after way (item h i) c v) e

pub step_way : (way : Way) (i sheet limit place : ℕ) (full : Refusal) (h : Held) (c : ℕ) → sheet ≡ way.go (item h i).sheet c → limit ≡ way.limit
    → place ≡ way.told h.items i → full ≡ way.full place → way.terms ≡ pool → step (way_of sheet limit place full) i h c ≡ step way i h c
step_way way i sheet limit place full h c o p z q e = rw (o, p, q, z) (step_alike way i h c e)
