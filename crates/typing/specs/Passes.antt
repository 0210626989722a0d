-- What the readers of a kind and of a line answer: the byte-by-byte reader of the whole text passes over what they read, with any lines before it;
-- or it has reached a byte that it does not take.
use Rattle.std.specs.Prelude.{ℕ, ◌+◌, ◌*◌, ◌<◌, ◌≤◌, ◌≡◌, List, [], ◌∷◌, ◌++◌, length, Result, Ok, Err}
use Rattle.std.proofs.Math.Option.Option.{none, some}
use Rattle.std.proofs.Math.Seq.{slice}
use Rattle.number.specs.Limits.{kinds, nodes}
use Rattle.typed.specs.Exp.{Exp, postfix}
use Rattle.typed.specs.Lines.{Line}
use Rattle.typed.specs.Lines.Line.{rule}
use Rattle.typed.specs.Reader.{begin}
use Rattle.typed.specs.Scan.{after}
use Rattle.typed.specs.LineReader.{Whole, turn, accept, colon}
use Rattle.typed.specs.LineReader.Place.{starting, reading}
use Rattle.typed.specs.LineReader.Whole.{whole}
use Rattle.laid.specs.Laid.{Capped, Lays}
use Rattle.names.specs.Bytes.{byte_at}
use Rattle.expression.specs.declared.Wrong.{Wrong}
use Rattle.typing.specs.declared.LineRead.{LineRead}

-- a kind and the place after its colon, or the wrong byte
abbrev pub KindAnswer : Type 0
KindAnswer = Result (ℕ × ℕ) Wrong

-- a line, or the wrong byte
abbrev pub LineAnswer : Type 0
LineAnswer = Result LineRead Wrong

-- the bytes from p to q lead from one state to another
pub record Passes (text : List ℕ) (p q : ℕ) (x y : Whole) : Type 0 where
  pub started : p ≤ q
  pub inside : q ≤ length text
  pub over : after turn (some x) (slice p q text) ≡ some y

-- the byte at q is not taken in that state, or there is none and the text may not end there
pub record Stuck (text : List ℕ) (q : ℕ) (x : Whole) : Type 0 where
  pub no_turn : q < length text → turn x (byte_at text q) ≡ none
  pub no_end : q ≡ length text → accept x ≡ none

-- from p the state leads to a wrong byte at q
pub record Fails (text : List ℕ) (p q : ℕ) (x : Whole) : Type 0 where
  pub last : Whole
  pub passes : Passes text p q x last
  pub stuck : Stuck text q last

pub data KindReads (text : List ℕ) (p : ℕ) : KindAnswer → Type 0 where
  kind_read : {kind q : ℕ} (k : ℕ) → Capped kinds kind k → p < q → q ≤ length text
      → ((ls : List Line) → Passes text p q (whole ls starting) (whole ls (reading k begin))) → KindReads text p (Ok (kind, q))
  kind_wrong : {q : ℕ} → p ≤ q → q ≤ length text → ((ls : List Line) → Fails text p q (whole ls starting)) → KindReads text p (Err (record { at = q }))

-- after a kind: a state that takes the colon and nothing else that is no digit
pub record Awaits (text : List ℕ) (p k : ℕ) (x : Whole) (ls : List Line) : Type 0 where
  pub colon_next : p < length text → turn x (byte_at text p) ≡ colon ls k (byte_at text p)
  pub not_end : accept x ≡ none

pub record ColonReads (text : List ℕ) (p kind : ℕ) (r : KindAnswer) : Type 0 where
  pub reads : (from k : ℕ) → Capped kinds kind k → from < p
      → ((ls : List Line) → (x : Whole) × Passes text from p (whole ls starting) x × Awaits text p k x ls) → KindReads text from r

pub record Longer (kind d r : ℕ) : Type 0 where
  pub small : r ≤ kinds + 1
  pub is : (k : ℕ) → Capped kinds kind k → Capped kinds r (k * 10 + d)

pub data LineReads (text : List ℕ) (p : ℕ) (cells : List ℕ) : LineAnswer → List ℕ → Type 0 where
  line_read : {kind count q : ℕ} {cells' : List ℕ} (k : ℕ) (e : Exp) → length cells' ≡ length cells → count ≤ nodes + 1 → Capped kinds kind k
      → Lays cells' count (postfix e) → p < q → q ≤ length text
      → ((ls : List Line) → Passes text p q (whole ls starting) (whole (ls ++ (rule k e ∷ [])) starting))
      → LineReads text p cells (Ok (record { kind = kind; count = count; next = q })) cells'
  line_wrong : {q : ℕ} {cells' : List ℕ} → length cells' ≡ length cells → p ≤ q → q ≤ length text
      → ((ls : List Line) → Fails text p q (whole ls starting)) → LineReads text p cells (Err (record { at = q })) cells'
