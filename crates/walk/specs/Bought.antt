-- What the theorems of Main say of steps and of walks, in other words than the tests that a step makes.
-- Only definitions.
use Rattle.std.specs.Prelude.{ℕ, ◌+◌, ◌*◌, ◌<◌, ◌≤◌, ◌≡◌, List, [], ◌∷◌, ◌++◌, ◌⊎◌, ◌↔◌, length, get_or}
use Rattle.number.specs.declared.Refusal.{Refusal}
use Rattle.number.specs.declared.Refusal.TheVariants.{Long, Pool}
use Rattle.number.specs.Limits.{bytes}
use Rattle.number.specs.Numbers.{Bytes}
use Rattle.meaning.specs.Re.{Re, Text}
use Rattle.meaning.specs.Re.Re.{Nothing}
use Rattle.meaning.specs.Limited.{Fit, deriv_fit, normal_fit}
use Rattle.meaning.specs.Limited.Fit.{Long as Fit·long}
use Rattle.meaning.specs.Rules.{derive_all, derive_by, start}
use Rattle.meaning.specs.Words.{reach}
use Rattle.walk.specs.Vectors.{Vector, normalised}
use Rattle.walk.specs.Vectors.Vector.{TooLong, Terms}
use Rattle.walk.specs.Parts.{with_vector, PartOf, Once}
use Rattle.walk.specs.Walk.{Item, none, Held, nothing_held, Step, Way, step, begin_by}
use Rattle.walk.specs.Walk.Step.{stopped, reached}
use Rattle.walk.specs.Texts.{Sooner, NotLater}

-- ---- texts

-- the order of texts: one of two different texts comes sooner, and it is the shorter one, or the one with the lower byte where they first differ
pub record Ordered : Type 0 where
  pub irreflexive : (w : Text) → Sooner w w → ⊥
  pub asymmetric : (v w : Text) → Sooner v w → Sooner w v → ⊥
  pub transitive : (u v w : Text) → Sooner u v → Sooner v w → Sooner u w
  pub total : (v w : Text) → Sooner v w ⊎ ((v ≡ w) ⊎ Sooner w v)
  pub by_length : (v w : Text) → length v < length w → Sooner v w
  pub by_byte : (u v w : Text) (c d : ℕ) → c < d → length v ≡ length w → Sooner (u ++ (c ∷ v)) (u ++ (d ∷ w))
  pub not_later : (v w : Text) → NotLater v w ↔ ((v ≡ w) ⊎ Sooner v w)

-- ---- vectors

-- one of the components comes out too long
abbrev pub SomeLong : (Re → Fit) → List Re → Type 0
SomeLong f v = (k : ℕ) × (k < length v) × (f (get_or v k Nothing) ≡ Fit·long)

-- a vector is too long exactly where a component is, and else it is this row of terms
pub record Vectors (f : Re → Fit) (v : List Re) (x : Vector) (terms : List Re) : Type 0 where
  pub too_long : (x ≡ TooLong) ↔ SomeLong f v
  pub fits : (x ≡ Terms terms) ↔ (SomeLong f v → ⊥)

-- ---- pools

-- a term stands somewhere in a pool
abbrev pub StandsIn : List Re → Re → Type 0
StandsIn p x = (i : ℕ) × (i < length p) × (get_or p i Nothing ≡ x)

-- a vector put into a pool: what stood there and all parts of its components stand there then, nothing else, and nothing twice
pub record Pools (p v q : List Re) : Type 0 where
  pub holds_all : (x : Re) → StandsIn q x ↔ (StandsIn p x ⊎ PartOf x v)
  pub holds_once : Once p → Once q

-- ---- one step

-- item k is for a pair; none is
pub record IsFor (h : Held) (k : ℕ) (y : Item) : Type 0 where
  pub inside : k < length h.items
  pub sheet_is : (get_or h.items k none).sheet ≡ y.sheet
  pub vector_is : (get_or h.items k none).vector ≡ y.vector

abbrev pub New : Held → Item → Type 0
New h y = (k : ℕ) → IsFor h k y → ⊥

-- the terms that are pooled with one pair more
abbrev pub terms_with : Held → Item → ℕ
terms_with h y = length (with_vector h.pool y.vector)

-- where a step comes to a pair y with this place to tell: to the first item that is for it; or it is new. Then, if the limit of items is held, it is refused so;
-- if more terms would be pooled than may be, by Pool; else it gets the next number
pub data Comes (way : Way) (place : ℕ) (h : Held) (y : Item) : Step → Type 0 where
  again : (j : ℕ) → IsFor h j y → ((k : ℕ) → k < j → IsFor h k y → ⊥) → Comes way place h y (reached h j)
  full : New h y → way.limit ≤ length h.items → Comes way place h y (stopped (way.full place))
  over : New h y → length h.items < way.limit → way.terms < terms_with h y → Comes way place h y (stopped (Pool place))
  next : New h y → length h.items < way.limit → terms_with h y ≤ way.terms
      → Comes way place h y (reached (record { items = h.items ++ (y ∷ []); pool = with_vector h.pool y.vector }) (length h.items))

-- Long comes before all this
pub data Tries (way : Way) (place : ℕ) (h : Held) (f : Re → Fit) (v : List Re) (y : Item) : Step → Type 0 where
  long : SomeLong f v → Tries way place h f v y (stopped (Long place))
  comes : {s : Step} → (SomeLong f v → ⊥) → Comes way place h y s → Tries way place h f v y s

-- the pair that byte c leads to from an item
abbrev pub on_by : Way → ℕ → Item → Item
on_by way c x = record { sheet = way.go x.sheet c; vector = derive_all c x.vector; text = x.text ++ (c ∷ []) }

-- what one step comes to, from item i by byte c; and vector 0, from place 0
abbrev pub Goes : Way → ℕ → Held → ℕ → Step → Type 0
Goes way i h c s =
    Tries way (way.told h.items i) h (deriv_fit c) (get_or h.items i none).vector (on_by way c (get_or h.items i none)) s

abbrev pub Begins : Way → List Re → Step → Type 0
Begins way rs s = Tries way 0 nothing_held normal_fit rs (record { sheet = 0; vector = start rs; text = [] }) s

-- a way's refusal of one item more is its own
pub record OwnRefusal (way : Way) : Type 0 where
  pub not_long : (p q : ℕ) → way.full p ≡ Long q → ⊥
  pub not_pool : (p q : ℕ) → way.full p ≡ Pool q → ⊥

-- when a step s is refused, each refusal exactly: with this place, these components, this pair
pub record Stops (way : Way) (place : ℕ) (h : Held) (f : Re → Fit) (v : List Re) (y : Item) (s : Step) : Type 0 where
  pub is_long_lem : (s ≡ stopped (Long place)) ↔ SomeLong f v
  pub is_full : (s ≡ stopped (way.full place)) ↔ ((SomeLong f v → ⊥) × New h y × (way.limit ≤ length h.items))
  pub is_pool : (s ≡ stopped (Pool place)) ↔ ((SomeLong f v → ⊥) × New h y × (length h.items < way.limit) × (way.terms < terms_with h y))

-- ---- the whole walk

-- what is held: item 0 is the start; each item is what its text leads to; no two are for one pair; they stand in the order of their texts;
-- and the pool holds the parts of their vectors and nothing else, each once
pub record Items (way : Way) (rs : List Re) (h : Held) : Type 0 where
  pub some : 0 < length h.items
  pub few : length h.items ≤ way.limit
  pub first : (get_or h.items 0 none).text ≡ []
  pub is_text : (k : ℕ) → k < length h.items → Bytes (get_or h.items k none).text
  pub sheet_is : (k : ℕ) → k < length h.items → (get_or h.items k none).sheet ≡ reach way.go 0 (get_or h.items k none).text
  pub vector_is : (k : ℕ) → k < length h.items → (get_or h.items k none).vector ≡ derive_by (start rs) (get_or h.items k none).text
  pub apart : (j k : ℕ) → j < k → k < length h.items → IsFor h j (get_or h.items k none) → ⊥
  pub rising : (j k : ℕ) → j < k → k < length h.items → Sooner (get_or h.items j none).text (get_or h.items k none).text
  pub pool_few : length h.pool ≤ way.terms
  pub pool_once : Once h.pool
  pub pool_holds : (x : Re) → StandsIn h.pool x ↔ ((k : ℕ) × (k < length h.items) × PartOf x (get_or h.items k none).vector)

-- a text leads to item j, which was found by no later text
pub record LeadsTo (way : Way) (rs : List Re) (h : Held) (w : Text) (j : ℕ) : Type 0 where
  pub arrives : IsFor h j (record { sheet = reach way.go 0 w; vector = derive_by (start rs) w; text = w })
  pub no_later : NotLater (get_or h.items j none).text w

-- what a finished walk has found: for every item and byte the number of the item that the byte leads to, items in their order and bytes rising
pub record Finished (way : Way) (rs : List Re) (h : Held) (js : List ℕ) : Type 0 where
  pub items : Items way rs h
  pub many : length js ≡ length h.items * bytes
  pub on : (i c : ℕ) → i < length h.items → c < bytes → IsFor h (get_or js (i * bytes + c) 0) (on_by way c (get_or h.items i none))
  -- so every text of bytes leads to an item through these numbers
  pub every : (w : Text) → Bytes w → LeadsTo way rs h w (reach (λ i c. get_or js (i * bytes + c) 0) 0 w)

-- where a walk that is refused stopped: with vector 0; or by a step, with all texts that are sooner than that step's tried, and no other
pub data Halts (way : Way) (rs : List Re) (r : Refusal) : Type 0 where
  at_once : begin_by way (normalised rs) ≡ stopped r → Halts way rs r
  later : (h : Held) (i c : ℕ) → i < length h.items → c < bytes → Items way rs h
      → ((k : ℕ) → k < length h.items → Sooner (get_or h.items k none).text ((get_or h.items i none).text ++ (c ∷ [])))
      → ((w : Text) → Bytes w → Sooner w ((get_or h.items i none).text ++ (c ∷ [])) → (j : ℕ) × LeadsTo way rs h w j)
      → step way i h c ≡ stopped r → Halts way rs r
