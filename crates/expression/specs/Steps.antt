-- What the helpers of the three readers answer: the leaves, the marks after an atom, the parenthesis after a choice.
-- The last two say what becomes of a reading, whatever it began with.
use Rattle.std.specs.Prelude.{ℕ, suc, ◌≡◌, List, [], ◌∷◌, length}
use Rattle.typed.specs.Reader.{Frame, State}
use Rattle.typed.specs.Reader.Mode.{plain, escape, naming}
use Rattle.typed.specs.Reader.State.{at}
use Rattle.names.specs.Bytes.{byte_at}
use Rattle.expression.specs.Reads.{Read, At, Reads, Within, Due, Item, Chosen, Any, NoMark, Ends, AtomRead}

-- after the backslash
pub record EscapeRead (text cells : List ℕ) (p top : ℕ) (r : Read) (cells' : List ℕ) : Type 0 where
  pub same : length cells' ≡ length cells
  pub within : Within p (length text) r
  pub reads : (f : Frame) (fs : List Frame) (n : ℕ) → Reads text cells p top (at escape f fs n) (Item f fs n) Any r cells'

-- after the opening bracket
pub record NameRead (text cells : List ℕ) (p top : ℕ) (r : Read) (cells' : List ℕ) : Type 0 where
  pub same : length cells' ≡ length cells
  pub within : Within p (length text) r
  pub reads : (f : Frame) (fs : List Frame) (n : ℕ) → Reads text cells p top (at (naming []) f fs n) (Item f fs n) Any r cells'

-- an atom that does not open a parenthesis
pub record LeafRead (text cells : List ℕ) (p top : ℕ) (r : Read) (cells' : List ℕ) : Type 0 where
  pub same : length cells' ≡ length cells
  pub within : Within p (length text) r
  pub reads : (f : Frame) (fs : List Frame) (n : ℕ) → (byte_at text p ≡ 40 → ⊥) → Due (byte_at text p) f fs
      → Reads text cells p top (at plain f fs n) (Item f fs n) Any r cells'

-- an atom's reading with the marks after it
pub record MarksRead (text : List ℕ) (from : ℕ) (cells : List ℕ) (start count : ℕ) (r : ℕ × ℕ) (cells' : List ℕ) : Type 0 where
  pub same : length cells' ≡ length cells
  pub reads : (c₀ : List ℕ) (p n : ℕ) → AtomRead Any text c₀ p n start (At from count) cells → AtomRead NoMark text c₀ p n start (At r.0 r.1) cells'

-- a choice's reading with the parenthesis after it
pub record ShutRead (text : List ℕ) (inner r : Read) : Type 0 where
  pub within : (p : ℕ) → Within p (length text) inner → Within p (length text) r
  pub reads : (cells cells' : List ℕ) (p top n : ℕ) (s : State) (f : Frame) (fs : List Frame)
      → Reads text cells p top s (Chosen (f ∷ fs) n) Ends inner cells' → Reads text cells p top s (Item f fs (suc n)) Any r cells'
