-- What the code on vectors asks and tells: one record a contract, fields by name.
-- Done is also how far a derivative of a vector has come after its first places.
use Rattle.std.specs.Prelude.{ℕ, ◌+◌, ◌*◌, ◌<◌, ◌≤◌, ◌≡◌, Bool, true, Option, IfSome, IfNone, unwrap_or, List, length, get_or, set}
use Rattle.std.proofs.Math.Seq.{paste}
use Rattle.number.specs.Limits.{rules, tree_nodes, pool}
use Rattle.meaning.specs.Limited.{short}
use Rattle.term.specs.Cells.{term, Sound}
use Rattle.pool.specs.Pooled.{terms_of, Pool, Pooled}
use Rattle.pool.specs.Index.{Indexed}
use Rattle.walk.specs.Vectors.{derived}
use Rattle.walk.specs.Vectors.Vector.{TooLong, Terms}
use Rattle.walk.specs.Parts.{with_vector}
use Rattle.vector.specs.declared.Derived.{Derived}
use Rattle.vector.specs.Layout.{items, nothing_cell, vectors_at, sheets_at, parents_at, bytes_at, work_length}
use Rattle.vector.specs.Vectors.{vector_of, Numbers}
use Rattle.vector.specs.Memory.{numbers_at, Shaped}

-- item k of the work area
pub record Within (s : List ℕ) (k : ℕ) : Type 0 where
  pub long : work_length ≤ length s
  pub few : k < items

-- the first n terms of a vector can be read
pub record Reads (s : List ℕ) (n : ℕ) (v : List ℕ) : Type 0 where
  pub few_rules : n ≤ rules
  pub whole : length v ≡ rules
  pub sound : (i : ℕ) → i < n → Sound s (get_or v i 0 + 1)

-- and are short
pub record ReadsShort (s : List ℕ) (n : ℕ) (v : List ℕ) : Type 0 where
  pub reads : Reads s n v
  pub is_short : (i : ℕ) → i < n → short (term s (get_or v i 0)) ≡ true

-- a vector of pool terms to derive, with the pool's index
pub record Derivable (x s : List ℕ) (top n : ℕ) (v : List ℕ) : Type 0 where
  pub indexed : Indexed x s top
  pub long : work_length ≤ length s
  pub few_rules : n ≤ rules
  pub pooled : Pooled s top
  pub low : top ≤ pool
  pub shaped : Shaped s top
  pub numbers : Numbers n top v

-- the first n terms were derived: w has their numbers, in a pool that holds them with all their parts
pub record Done (s : List ℕ) (top n : ℕ) (v : List ℕ) (byte : ℕ) (s' : List ℕ) (top' : ℕ) (w : List ℕ) : Type 0 where
  pub terms : derived byte (vector_of s n v) ≡ Terms (vector_of s' n w)
  pub pooled : Pool s' top' (with_vector (terms_of s top) (vector_of s' n w))
  pub shaped : Shaped s' top'
  pub numbers : Numbers n top' w
  pub up : top ≤ top'
  pub few : top' ≤ top + n * tree_nodes

-- the old pool's cells, and the cells from Nothing's on, are as they were
pub record Spared (s : List ℕ) (top : ℕ) (s' : List ℕ) : Type 0 where
  pub same_length : length s' ≡ length s
  pub kept_below : (i : ℕ) → i < top → get_or s' i 0 ≡ get_or s i 0
  pub kept_above : (i : ℕ) → nothing_cell ≤ i → get_or s' i 0 ≡ get_or s i 0

pub record Derives (s : List ℕ) (top n : ℕ) (v : List ℕ) (byte : ℕ) (x' s' : List ℕ) (r : Option Derived) : Type 0 where
  pub spared : Spared s top s'
  pub too_long : IfNone r (derived byte (vector_of s n v) ≡ TooLong)
  pub done : IfSome r (λ d. Done s top n v byte s' d.top d.vector.at)
  pub indexed : IfSome r (λ d. Indexed x' s' d.top)

-- item k has this sheet state and these numbers
pub record IsPair (s : List ℕ) (k sheet : ℕ) (v : List ℕ) : Type 0 where
  pub same_sheet : get_or s (sheets_at + k) 0 ≡ sheet
  pub same_numbers : numbers_at s k ≡ v

pub record PairTold (s : List ℕ) (k sheet : ℕ) (v : List ℕ) (r : Bool) : Type 0 where
  pub equal : r ≡ true → IsPair s k sheet v
  pub told : IsPair s k sheet v → r ≡ true

-- r is the first of so many items with this sheet state and these numbers; where there is none, no item below their count has them
pub record Finds (s : List ℕ) (count sheet : ℕ) (v : List ℕ) (r : Option ℕ) : Type 0 where
  pub within : IfSome r (λ k. k < count)
  pub there : IfSome r (λ k. IsPair s k sheet v)
  pub before : (k : ℕ) → k < unwrap_or r count → IsPair s k sheet v → ⊥

-- the memory once a vector, and once an item, has been stored
abbrev pub vector_stored : List ℕ → ℕ → List ℕ → List ℕ
vector_stored s k v = paste s (vectors_at + k * rules) v rules

abbrev pub sheet_stored : List ℕ → ℕ → List ℕ → ℕ → List ℕ
sheet_stored s k v sheet = set (vector_stored s k v) (sheets_at + k) sheet

abbrev pub parent_stored : List ℕ → ℕ → List ℕ → ℕ → ℕ → List ℕ
parent_stored s k v sheet parent = set (sheet_stored s k v sheet) (parents_at + k) parent

unfoldable pub item_stored : List ℕ → ℕ → List ℕ → ℕ → ℕ → ℕ → List ℕ
item_stored s k v sheet parent byte = set (parent_stored s k v sheet parent) (bytes_at + k) byte
