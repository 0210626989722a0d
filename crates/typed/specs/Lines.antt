-- The grammar of a whole text: lines, each a kind in decimal without leading zeros, a colon, an expression and a newline.
-- Neither the number of lines, nor a kind, nor the nodes have a limit here: a text may be rightly typed and out of range.
use Rattle.std.specs.Prelude.{ℕ, suc, ◌+◌, ◌*◌, ◌-◌, ◌≤◌, ◌<◌, ◌≡◌, cond, List, [], ◌∷◌, ◌++◌, length, take}
use Rattle.std.proofs.Math.Option.{Option}
use Rattle.std.proofs.Math.Option.Option.{none, some}
use Rattle.number.specs.Limits.{deep}
use Rattle.meaning.specs.Re.{Text}
use Rattle.typed.specs.Exp.{Exp}
use Rattle.typed.specs.Spells.{between, Spells}
use Rattle.typed.specs.Spells.Part.{choice}

pub data Line : Type 0 where
  rule : ℕ → Exp → Line

-- the value of a decimal digit
unfoldable pub digit : ℕ → Option ℕ
digit c = cond (between 48 57 c) (some (c - 48)) none

-- a number that does not begin with 0
pub data Counts : Text → ℕ → Type 0 where
  leads : {x : ℕ} (c : ℕ) → digit c ≡ some (suc x) → Counts (c ∷ []) (suc x)
  goes_on : {w : Text} {k x : ℕ} (c : ℕ) → Counts w k → digit c ≡ some x → Counts (w ++ (c ∷ [])) (k * 10 + x)

pub data Kinds : Text → ℕ → Type 0 where
  nought : Kinds (48 ∷ []) 0
  counts : {w : Text} {k : ℕ} → Counts w k → Kinds w k

pub data SpellsLine : Text → Line → Type 0 where
  line : {v w : Text} {k : ℕ} {e : Exp} → Kinds v k → Spells choice deep w e → SpellsLine (v ++ (58 ∷ (w ++ (10 ∷ [])))) (rule k e)

pub data SpellsAll : Text → List Line → Type 0 where
  no_line : SpellsAll [] []
  one_more : {v w : Text} {ls : List Line} {l : Line} → SpellsAll v ls → SpellsLine w l → SpellsAll (v ++ w) (ls ++ (l ∷ []))

-- a text that is rightly typed
pub record RightlyTyped (text : Text) : Type 0 where
  pub lines : List Line
  pub spells : SpellsAll text lines

-- the first byte that no rightly typed text could have there, that is after the same bytes before it; or the end of a text that stops too early:
-- what stands before can be completed, by `rest`; what stands up to and with that byte cannot; and at the end, the text itself is not rightly typed
pub record WrongAt (text : Text) (p : ℕ) : Type 0 where
  pub inside : p ≤ length text
  pub rest : Text
  pub goes_on : RightlyTyped (take p text ++ rest)
  pub no_other : p < length text → (rest : Text) → RightlyTyped (take (suc p) text ++ rest) → ⊥
  pub not_the_end : p ≡ length text → RightlyTyped text → ⊥
