-- The walk over pairs of a sheet state and a vector, items in the order found, bytes rising: building walks beside a sheet of one state.
-- One step, in its order: Long; for a new item the limit of items, with its refusal; then Pool. A place is the number told for the item being left.
use Rattle.std.specs.Prelude.{ℕ, zero, suc, Bool, cond, ◌&&◌, List, [], ◌∷◌, ◌++◌, ltb, leb, eqb, length, get_or}
use Rattle.number.specs.declared.Refusal.{Refusal}
use Rattle.number.specs.declared.Refusal.TheVariants.{Long, Pool}
use Rattle.number.specs.Limits.{bytes}
use Rattle.meaning.specs.Re.{Re, Text}
use Rattle.walk.specs.Vectors.{Vector, derived, normalised, same_vector}
use Rattle.walk.specs.Vectors.Vector.{TooLong, Terms}
use Rattle.walk.specs.Parts.{with_vector}

-- an item: where the sheet stands, as its way numbers that, a vector, and the text that led to them first
pub record Item : Type 0 where
  pub sheet : ℕ
  pub vector : List Re
  pub text : Text

abbrev pub none : Item
none = record { sheet = 0; vector = []; text = [] }

-- what is held: the items in the order found, and the pool of their vectors
pub record Held : Type 0 where
  pub items : List Item
  pub pool : List Re

abbrev pub nothing_held : Held
nothing_held = record { items = []; pool = [] }

-- two items for one pair; texts do not matter
abbrev pub same_pair : Item → Item → Bool
same_pair x y = eqb x.sheet y.sheet && same_vector x.vector y.vector

-- the number of the item for a pair: its place among the items, or their count, which is the next number
unfoldable pub number_in : List Item → Item → ℕ
number_in [] x = 0
number_in (y ∷ ys) x = cond (same_pair y x) 0 (suc (number_in ys x))

-- what a step comes to: a refusal, or what is held now and the number that was reached
pub data Step : Type 0 where
  stopped : Refusal → Step
  reached : Held → ℕ → Step

-- where a walk goes: how the sheet moves, how many items may be held and how many terms, the refusal of an item more at a place, and the number
-- that is told for an item
pub record Way : Type 0 where
  pub go : ℕ → ℕ → ℕ
  pub limit : ℕ
  pub terms : ℕ
  pub full : ℕ → Refusal
  pub told : List Item → ℕ → ℕ

abbrev pub added : Held → Item → Held
added h x = record { items = h.items ++ (x ∷ []); pool = with_vector h.pool x.vector }

-- a pair that was come to, with the place to tell: held already, or new
unfoldable pub come : Way → ℕ → Held → Item → Step
come way place h x =
    cond (ltb (number_in h.items x) (length h.items)) (reached h (number_in h.items x))
    (cond (leb way.limit (length h.items)) (stopped (way.full place))
    (cond (ltb way.terms (length (added h x).pool)) (stopped (Pool place))
    (reached (added h x) (length h.items))))

-- the pair after byte c, from an item
abbrev pub after : Way → Item → ℕ → List Re → Item
after way x c v = record { sheet = way.go x.sheet c; vector = v; text = x.text ++ (c ∷ []) }

abbrev pub come_by : Way → ℕ → Held → ℕ → Vector → Step
come_by way i h c TooLong = stopped (Long (way.told h.items i))
come_by way i h c (Terms v) = come way (way.told h.items i) h (after way (get_or h.items i none) c v)

-- one step: from item i by byte c
unfoldable pub step : Way → ℕ → Held → ℕ → Step
step way i h c = come_by way i h c (derived c (get_or h.items i none).vector)

-- what a row, or several, comes to: a refusal, or what is held now and the numbers reached
pub data Walked : Type 0 where
  halted : Refusal → Walked
  walked : Held → List ℕ → Walked

-- numbers in front
abbrev pub prepend : List ℕ → Walked → Walked
prepend js (halted r) = halted r
prepend js (walked h ks) = walked h (js ++ ks)

-- the row of item i: k bytes more, from byte c on
unfoldable pub row : Way → ℕ → ℕ → ℕ → Held → Walked
row way i zero c h = walked h []
row way i (suc k) c h =
    elim (step way i h c) [ stopped r ↦ halted r | reached h' j ↦ prepend (j ∷ []) (row way i k (suc c) h') ]

-- the rows of all items from item i on, those found on the way too; at most k rows more
unfoldable pub rows : Way → ℕ → ℕ → Held → Walked
rows way zero i h = walked h []
rows way (suc k) i h =
    cond (ltb i (length h.items))
    (elim (row way i bytes 0 h) [ halted r ↦ halted r | walked h' js ↦ prepend js (rows way k (suc i) h') ])
    (walked h [])

-- vector 0 is a step too, from place 0
abbrev pub begin_by : Way → Vector → Step
begin_by way TooLong = stopped (Long 0)
begin_by way (Terms v) = come way 0 nothing_held (record { sheet = 0; vector = v; text = [] })

abbrev pub on_from : Way → Step → Walked
on_from way (stopped r) = halted r
on_from way (reached h j) = rows way way.limit 0 h

-- the whole walk, for a row of rules
unfoldable pub walk_from : Way → List Re → Walked
walk_from way rs = on_from way (begin_by way (normalised rs))
