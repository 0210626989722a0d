-- One step of the walk over vectors in the work area: what the code asks, and what its answer means beside walk's own step.
-- A step is told where it leads the sheet and what it may hold; WayLaws proves that it rests on nothing else of its way.
use Rattle.std.specs.Prelude.{ℕ, ◌<◌, ◌≤◌, ◌≡◌, List, [], length, Result, Ok, Err}
use Rattle.number.specs.declared.Refusal.{Refusal}
use Rattle.number.specs.Limits.{bytes, pool}
use Rattle.meaning.specs.Re.{Re}
use Rattle.pool.specs.Index.{Indexed}
use Rattle.walk.specs.Walk.{Item, nothing_held, Step, Way, come}
use Rattle.walk.specs.Walk.Step.{stopped, reached}
use Rattle.vector.specs.Layout.{items}
use Rattle.vector.specs.Vectors.{vector_of}
use Rattle.vector.specs.Memory.{held_of, Kept}
use Rattle.steps.specs.declared.Extent.{Extent}
use Rattle.steps.specs.declared.Reached.{Reached}

-- the way of one step: the sheet state that it leads to, how many items may be held, the place to tell, and the refusal of one more; terms as many as the pool takes
abbrev pub way_of : ℕ → ℕ → ℕ → Refusal → Way
way_of sheet limit place full = record { go = λ q c. sheet; limit = limit; terms = pool; full = λ i. full; told = λ xs i. place }

-- a step can be made from item i by a byte
pub record Ready (s : List ℕ) (n top count limit i byte : ℕ) : Type 0 where
  pub kept : Kept s n top count
  pub low : top ≤ pool
  pub inside : i < count
  pub few : count ≤ limit
  pub most : limit ≤ items
  pub small : byte < bytes

-- walk's step reaches number j, and what it holds then is what the work area holds up to this top and this count
pub record Went (s : List ℕ) (n before limit top count j : ℕ) (w : Step) : Type 0 where
  pub goes : w ≡ reached (held_of s n top count) j
  pub kept : Kept s n top count
  pub low : top ≤ pool
  pub few : count ≤ limit
  pub up : before ≤ count
  pub inside : j < count

-- the answer is walk's
abbrev pub Comes : List ℕ → ℕ → ℕ → ℕ → Step → Result Reached Refusal → Type 0
Comes s n before limit w (Ok x) = Went s n before limit x.held.top x.held.count x.number w
Comes s n before limit w (Err r) = w ≡ stopped r

-- what a step leaves: memory of the same length, and walk's answer, from so many items before
pub record Steps (s : List ℕ) (n before limit : ℕ) (s' : List ℕ) (w : Step) (r : Result Reached Refusal) : Type 0 where
  pub same_length : length s' ≡ length s
  pub comes : Comes s' n before limit w r

-- x is the index of the pool up to the top that was reached
abbrev pub Follows : List ℕ → List ℕ → Result Reached Refusal → Type 0
Follows x s (Ok y) = Indexed x s y.held.top
Follows x s (Err r) = Unit

-- the same after a row or more, of which only what is held is told
abbrev pub Indexes : List ℕ → List ℕ → Result Extent Refusal → Type 0
Indexes x s (Ok held) = Indexed x s held.top
Indexes x s (Err r) = Unit

abbrev pub first_item : List Re → Item
first_item v = record { sheet = 0; vector = v; text = [] }

-- the walk begins at vector 0, whatever its way, if that allows an item at all and as many terms as the pool takes
pub record Begins (s : List ℕ) (n : ℕ) (v : List ℕ) (s' : List ℕ) (r : Result Reached Refusal) : Type 0 where
  pub begins : (way : Way) → 1 ≤ way.limit → way.terms ≡ pool → Steps s n 0 way.limit s' (come way 0 nothing_held (first_item (vector_of s n v))) r

-- an index of the pool is still one
pub record Keeps (s : List ℕ) (top : ℕ) (s' : List ℕ) (r : Result Reached Refusal) : Type 0 where
  pub keeps : (x : List ℕ) → Indexed x s top → Follows x s' r
