-- The reader of a whole text, byte by byte: what it has read, and where in a line it stands.
-- proofs/Main.antt proves that it answers exactly what the grammar of Lines spells.
use Rattle.std.specs.Prelude.{ℕ, zero, suc, ◌+◌, ◌*◌, cond, List, [], ◌∷◌, ◌++◌, eqb}
use Rattle.std.proofs.Math.Option.{Option}
use Rattle.std.proofs.Math.Option.Option.{none, some}
use Rattle.meaning.specs.Re.{Text}
use Rattle.typed.specs.Exp.{Exp}
use Rattle.typed.specs.Lines.{Line, digit}
use Rattle.typed.specs.Lines.Line.{rule}
use Rattle.typed.specs.Reader.{State, Step, step, ended, begin}
use Rattle.typed.specs.Reader.Step.{wrong, go}
use Rattle.typed.specs.Scan.{Reading, scan}

-- at a line's start, after the kind 0, after the digits of another kind, in an expression
pub data Place : Type 0 where
  starting : Place
  zeroed : Place
  counted : ℕ → Place
  reading : ℕ → State → Place

-- the lines before, and the place
pub data Whole : Type 0 where
  whole : List Line → Place → Whole

unfoldable pub begins : List Line → Option ℕ → Option Whole
begins ls none = none
begins ls (some zero) = some (whole ls zeroed)
begins ls (some (suc x)) = some (whole ls (counted (suc x)))

unfoldable pub colon : List Line → ℕ → ℕ → Option Whole
colon ls k c = cond (eqb c 58) (some (whole ls (reading k begin))) none

unfoldable pub on_digit : List Line → ℕ → ℕ → Option ℕ → Option Whole
on_digit ls k c none = colon ls k c
on_digit ls k c (some x) = some (whole ls (counted (k * 10 + x)))

unfoldable pub ends : List Line → ℕ → Option Exp → Option Whole
ends ls k none = none
ends ls k (some e) = some (whole (ls ++ (rule k e ∷ [])) starting)

-- a byte that no expression takes may be the newline after a whole one
unfoldable pub stepped : List Line → ℕ → State → ℕ → Step → Option Whole
stepped ls k s c wrong = cond (eqb c 10) (ends ls k (ended (go s))) none
stepped ls k s c (go u) = some (whole ls (reading k u))

unfoldable pub turn : Whole → ℕ → Option Whole
turn (whole ls starting) c = begins ls (digit c)
turn (whole ls zeroed) c = colon ls 0 c
turn (whole ls (counted k)) c = on_digit ls k c (digit c)
turn (whole ls (reading k s)) c = stepped ls k s c (step s c)

-- only at a line's start may a text end
unfoldable pub accept : Whole → Option (List Line)
accept (whole ls starting) = some ls
accept (whole ls zeroed) = none
accept (whole ls (counted k)) = none
accept (whole ls (reading k s)) = none

abbrev pub at_first : Whole
at_first = whole [] starting

-- the lines that are typed, or the place of the wrong byte
unfoldable pub read_lines : Text → Reading (List Line)
read_lines text = scan turn accept 0 at_first text
