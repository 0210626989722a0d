-- What a reader of a part answers: from a place and a state of the byte-by-byte reader, the state after what it read, and the nodes it laid;
-- or the wrong byte, which that reader does not take in the state it has reached. For every state in which the part may be due.
use Rattle.std.specs.Prelude.{ℕ, ◌<◌, ◌≤◌, ◌≡◌, true, false, List, [], length, Result, Ok, Err}
use Rattle.std.proofs.Math.Option.{Option}
use Rattle.std.proofs.Math.Option.Option.{none, some}
use Rattle.std.proofs.Math.Seq.{slice}
use Rattle.typed.specs.Exp.{Exp, postfix}
use Rattle.typed.specs.Reader.{Frame, State, cat_on, made, put, step, runs, ended}
use Rattle.typed.specs.Reader.Frame.{bared, held}
use Rattle.typed.specs.Reader.Mode.{plain}
use Rattle.typed.specs.Reader.State.{at}
use Rattle.typed.specs.Reader.Step.{wrong, go}
use Rattle.laid.specs.Laid.{Adds}
use Rattle.names.specs.Bytes.{byte_at, starting, marking}
use Rattle.expression.specs.declared.Wrong.{Wrong}

-- the place after what was read and the count of nodes there, or the wrong byte
abbrev pub Read : Type 0
Read = Result (ℕ × ℕ) Wrong

abbrev pub At : ℕ → ℕ → Read
At q top = Ok (q, top)

abbrev pub wrong_at : ℕ → Read
wrong_at q = Err (record { at = q })

-- the bytes from p to q lead from one state to another
pub record Goes (text : List ℕ) (p q : ℕ) (s u : State) : Type 0 where
  pub started : p ≤ q
  pub inside : q ≤ length text
  pub over : runs (go s) (slice p q text) ≡ go u

-- the byte at q, if there is one, is not taken in that state, and does not end a line there
pub record Halts (text : List ℕ) (q : ℕ) (u : State) : Type 0 where
  pub no_step : q < length text → step u (byte_at text q) ≡ wrong
  pub no_end : q < length text → byte_at text q ≡ 10 → ended (go u) ≡ none

-- an expression was read: the state after it is as `Then` says, the byte after it as `Next` says, and its nodes are laid; or a byte is wrong
pub data Reads (text cells : List ℕ) (p top : ℕ) (s : State) (Then : Exp → State → Type 0) (Next : ℕ → Type 0) : Read → List ℕ → Type 0 where
  reads : {q top' : ℕ} {cells' : List ℕ} (e : Exp) (u : State) → Goes text p q s u → Then e u → Next (byte_at text q)
      → Adds cells top (postfix e) cells' top' → Reads text cells p top s Then Next (At q top') cells'
  stops : {q : ℕ} {cells' : List ℕ} (u : State) → Goes text p q s u → Halts text q u → Reads text cells p top s Then Next (wrong_at q) cells'

-- places go forward and stay within the text
pub data Within (p len : ℕ) : Read → Type 0 where
  ahead : (q : ℕ) {top : ℕ} → p < q → q ≤ len → Within p len (At q top)
  not_back : (q : ℕ) → p ≤ q → q ≤ len → Within p len (wrong_at q)

-- where a part is due, in this frame and with these open: a byte c that could close an empty pair of parentheses is not there
pub data Due (c : ℕ) : Frame → List Frame → Type 0 where
  outermost : {b : Option Exp} → Due c (bared b) []
  after_bar : {a : Exp} {fs : List Frame} → Due c (bared (some a)) fs
  not_shut : {b : Option Exp} {fs : List Frame} → (c ≡ 41 → ⊥) → Due c (bared b) fs
  goes_on : {f : Frame} {fs : List Frame} → starting c ≡ true → Due c f fs

-- the state after an atom or an item, after a sequence, after a choice
pub data Item (f : Frame) (fs : List Frame) (n : ℕ) : Exp → State → Type 0 where
  placed : {e : Exp} → Item f fs n e (at plain (put e f) fs n)

pub data Row (b : Option Exp) (fs : List Frame) (n : ℕ) : Exp → State → Type 0 where
  in_row : {r : Option Exp} {l : Exp} → Row b fs n (cat_on r l) (at plain (held b r l) fs n)

pub data Chosen (fs : List Frame) (n : ℕ) : Exp → State → Type 0 where
  chosen : {b r : Option Exp} {l : Exp} → Chosen fs n (made b r l) (at plain (held b r l) fs n)

-- the byte after an atom, an item, a sequence, a choice
abbrev pub Any : ℕ → Type 0
Any c = Unit

abbrev pub NoMark : ℕ → Type 0
NoMark c = marking c ≡ false

abbrev pub Breaks : ℕ → Type 0
Breaks c = (marking c ≡ false) × (starting c ≡ false)

abbrev pub Ends : ℕ → Type 0
Ends c = (marking c ≡ false) × (starting c ≡ false) × (c ≡ 124 → ⊥)

pub record AtomRead (Next : ℕ → Type 0) (text cells : List ℕ) (p n top : ℕ) (r : Read) (cells' : List ℕ) : Type 0 where
  pub same : length cells' ≡ length cells
  pub within : Within p (length text) r
  pub reads : (f : Frame) (fs : List Frame) → Due (byte_at text p) f fs
      → Reads text cells p top (at plain f fs n) (Item f fs n) Next r cells'

pub record SequenceRead (Next : ℕ → Type 0) (text cells : List ℕ) (p n top : ℕ) (r : Read) (cells' : List ℕ) : Type 0 where
  pub same : length cells' ≡ length cells
  pub within : Within p (length text) r
  pub reads : (b : Option Exp) (fs : List Frame) → Due (byte_at text p) (bared b) fs
      → Reads text cells p top (at plain (bared b) fs n) (Row b fs n) Next r cells'

pub record ChoiceRead (Next : ℕ → Type 0) (text cells : List ℕ) (p n top : ℕ) (r : Read) (cells' : List ℕ) : Type 0 where
  pub same : length cells' ≡ length cells
  pub within : Within p (length text) r
  pub reads : (fs : List Frame) → Due (byte_at text p) (bared none) fs
      → Reads text cells p top (at plain (bared none) fs n) (Chosen fs n) Next r cells'
