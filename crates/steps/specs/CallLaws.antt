-- What a caller of the step takes from its answer: where the walk goes on, for the caller's own way.
-- Items that are held can be labelled and asked for their next edge.
use Rattle.std.specs.Prelude.{ℕ, ◌<◌, ◌≡◌, List, Result, Ok, Err}
use Rattle.std.proofs.Common.{subst}
use Rattle.number.specs.declared.Refusal.{Refusal}
use Rattle.number.specs.Limits.{pool}
use Rattle.walk.specs.Walk.{Held, Step, Way, step}
use Rattle.walk.specs.Walk.Step.{stopped}
use Rattle.walk.specs.StepLaws.{item}
use Rattle.pool.specs.Index.{Indexed}
use Rattle.vector.specs.Memory.{numbers_at, Kept}
use Rattle.vector.specs.Promises.{Reads, ReadsShort}
use Rattle.vector.specs.MemoryLaws.{reads}
use Rattle.steps.specs.declared.Reached.{Reached}
use Rattle.steps.specs.Step.{way_of, Went, Comes, Steps, Follows}
use Rattle.steps.specs.WayLaws.{step_way}

-- the answer told apart
pub went : {s : List ℕ} {n before limit : ℕ} {s' : List ℕ} {w : Step} {r : Result Reached Refusal} {y : Reached} → Steps s n before limit s' w r
    → r ≡ Ok y → Went s' n before limit y.held.top y.held.count y.number w
went {s} {n} {before} {limit} {s'} {w} x e = subst (Comes s' n before limit w) e x.comes

pub halts : {s : List ℕ} {n before limit : ℕ} {s' : List ℕ} {w : Step} {r : Result Reached Refusal} {q : Refusal} → Steps s n before limit s' w r
    → r ≡ Err q → w ≡ stopped q
halts {s} {n} {before} {limit} {s'} {w} x e = subst (Comes s' n before limit w) e x.comes

-- the index at the top that was reached
pub followed : {x s : List ℕ} {r : Result Reached Refusal} {y : Reached} → Follows x s r → r ≡ Ok y → Indexed x s y.held.top
followed {x} {s} f e = subst (Follows x s) e f

-- the step is one of the caller's walk
pub steps_way : {s : List ℕ} {n before : ℕ} {s' : List ℕ} {r : Result Reached Refusal} (way : Way) (i sheet limit place : ℕ) (full : Refusal) (h : Held) (c : ℕ)
    → Steps s n before limit s' (step (way_of sheet limit place full) i h c) r → sheet ≡ way.go (item h i).sheet c → limit ≡ way.limit
    → place ≡ way.told h.items i → full ≡ way.full place → way.terms ≡ pool → Steps s n before limit s' (step way i h c) r
steps_way {s} {n} {before} {s'} {r} way i sheet limit place full h c x o p z q t =
    subst (λ (w : Step). Steps s n before limit s' w r) (step_way way i sheet limit place full h c o p z q t) x

-- held items can be read
pub kept_reads : {s : List ℕ} {n top count : ℕ} (k : ℕ) → Kept s n top count → k < count → Reads s n (numbers_at s k)
kept_reads k x l = reads x.pooled.sound x.few_rules (x.numbers k l)

pub kept_short : {s : List ℕ} {n top count : ℕ} (k : ℕ) → Kept s n top count → k < count → ReadsShort s n (numbers_at s k)
kept_short k x l = record { reads = kept_reads k x l; is_short = λ i h. (x.shaped _ ((x.numbers k l).inside i h)).1 }
