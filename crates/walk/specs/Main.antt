-- The theorems on the walk that are bought, together: building and comparing rest on them. Each is proved in BoughtLaws or PassingLaws, or computed in Sample.
-- To believe them, read the definitions: Vectors, Parts, Walk, Texts, Bought, Passing and Sample here, and those that they stand on.
use Rattle.std.specs.Prelude.{ℕ, ◌<◌, ◌≡◌, List, [], ◌↔◌, get_or}
use Rattle.number.specs.declared.Refusal.{Refusal}
use Rattle.number.specs.Refused.{Row}
use Rattle.meaning.specs.Re.{Re, Text}
use Rattle.meaning.specs.Limited.{deriv_fit, normal_fit}
use Rattle.meaning.specs.Rules.{derive_all, start}
use Rattle.walk.specs.Vectors.{derived, normalised}
use Rattle.walk.specs.Parts.{with_vector}
use Rattle.walk.specs.Walk.{none, Held, nothing_held, Step, Way, step, begin_by, walk_from}
use Rattle.walk.specs.Walk.Walked.{halted, walked}
use Rattle.walk.specs.Bought.{Ordered, Vectors, Pools, on_by, Goes, Begins, OwnRefusal, Stops, Finished, Halts}
use Rattle.walk.specs.BoughtLaws.{ordered, derived_vectors, normalised_vectors, pools, step_goes, begin_goes, step_stops, begin_stops, walk_finished, walk_halts}
use Rattle.walk.specs.Passing.{Firsts, NumberOf, Holding, Limits}
use Rattle.walk.specs.PassingLaws.{number_one, firsts_one, limits_one}
use Rattle.walk.specs.Sample.{pooled, stated, worked_pools}

-- of two different texts one comes sooner: the shorter, or of one length the one with the lower byte where they first differ
pub the_order : Ordered
the_order = ordered

-- a vector is too long exactly where one of its terms is, and else it is the row of all derivatives; the same of the rules' normal forms
pub the_derived : (c : ℕ) (v : List Re) → Vectors (deriv_fit c) v (derived c v) (derive_all c v)
the_derived = derived_vectors

pub the_normalised : (rs : List Re) → Vectors normal_fit rs (normalised rs) (start rs)
the_normalised = normalised_vectors

-- the pool with a vector more: what stood there and all parts of the vector's terms, nothing else, and nothing twice
pub the_pool : (p v : List Re) → Pools p v (with_vector p v)
the_pool = pools

-- a step comes to exactly one end. Too long a derivative is Long; a pair that is held is that item, and nothing changes; a new one is refused where the
-- limit of items is held, else by Pool where it would bring too many terms, else it gets the next number. The place is that of the item being left
pub the_step : (way : Way) (i : ℕ) (h : Held) (c : ℕ) (s : Step) → (step way i h c ≡ s) ↔ Goes way i h c s
the_step = step_goes

-- vector 0 is such a step, from place 0
pub the_beginning : (way : Way) (rs : List Re) (s : Step) → (begin_by way (normalised rs) ≡ s) ↔ Begins way rs s
the_beginning = begin_goes

-- so each refusal comes exactly where it is due, on a way whose own refusal is neither Long nor Pool
pub the_stops : (way : Way) → OwnRefusal way → (i : ℕ) (h : Held) (c : ℕ)
    → Stops way (way.told h.items i) h (deriv_fit c) (get_or h.items i none).vector (on_by way c (get_or h.items i none)) (step way i h c)
the_stops = step_stops

pub the_first_stops : (way : Way) → OwnRefusal way → (rs : List Re)
    → Stops way 0 nothing_held normal_fit rs (record { sheet = 0; vector = start rs; text = [] }) (begin_by way (normalised rs))
the_first_stops = begin_stops

-- what a finished walk has found: every pair that a text leads to, once, in the order of their first texts; the number that each byte leads to from
-- each item; and in the pool exactly the parts of the vectors, each once
pub the_walk : (way : Way) (rs : List Re) (h : Held) (js : List ℕ) → walk_from way rs ≡ walked h js → Finished way rs h js
the_walk = walk_finished

-- a walk that is refused is so by the first step that is, with that step's refusal
pub the_halt : (way : Way) (rs : List Re) → 0 < way.limit → (r : Refusal) → walk_from way rs ≡ halted r → Halts way rs r
the_halt = walk_halts

-- ---- limits, told of texts alone: building and comparing say so of their answers

-- what a text leads to has no two numbers
pub the_number : {A : Type 0} (goal : Text → A) (w : Text) (m n : ℕ) → NumberOf goal w m → NumberOf goal w n → m ≡ n
the_number = number_one

-- and the first texts of what texts lead to are fixed
pub the_first_texts : {A : Type 0} (goal : Text → A) (t u : ℕ → Text) (n : ℕ) → Firsts goal t n → Firsts goal u n → (k : ℕ) → k < n → t k ≡ u k
the_first_texts = firsts_one

-- texts alone fix whether there is a refusal, by which row and at which place: no two answers have the limits that they tell
pub the_one_row : {A : Type 0} (x : Holding A) (a b : Row) → Limits x a → Limits x b → a ≡ b
the_one_row = limits_one

-- computed by the checker: the pools of W's vector 0, and of terms that share parts
pub the_worked_pools : pooled ≡ stated
the_worked_pools = worked_pools
