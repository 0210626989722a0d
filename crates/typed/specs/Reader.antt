-- The reader of an expression, byte by byte: what it holds of the expression so far, and what each byte does to it.
-- It is the grammar of Spells once more, as what is computed; proofs/Main.antt has the theorem between the two.
use Rattle.std.specs.Prelude.{ℕ, zero, suc, ◌+◌, ◌*◌, Bool, true, false, cond, ◌&&◌, List, [], ◌∷◌, ◌++◌, eqb}
use Rattle.std.proofs.Math.Option.{Option}
use Rattle.std.proofs.Math.Option.Option.{none, some}
use Rattle.number.specs.Limits.{deep}
use Rattle.meaning.specs.Re.{Text}
use Rattle.typed.specs.Sets.{Set, named, sets}
use Rattle.typed.specs.Exp.{Exp}
use Rattle.typed.specs.Exp.Exp.{byte, dot, set, empty, cat, alt, star, plus, maybe}
use Rattle.typed.specs.Spells.{bare, hex}

-- what a byte is to an expression, outside escapes and names
pub data Mark : Type 0 where
  many : Mark
  more : Mark
  perhaps : Mark

pub data Key : Type 0 where
  self : Key
  any : Key
  slash : Key
  less : Key
  opens : Key
  shuts : Key
  bar : Key
  mark : Mark → Key
  other : Key

unfoldable pub key : ℕ → Key
key c =
    cond (bare c) self
    (cond (eqb c 46) any
    (cond (eqb c 92) slash
    (cond (eqb c 60) less
    (cond (eqb c 40) opens
    (cond (eqb c 41) shuts
    (cond (eqb c 124) bar
    (cond (eqb c 42) (mark many)
    (cond (eqb c 43) (mark more)
    (cond (eqb c 63) (mark perhaps) other)))))))))

abbrev pub marked : Mark → Exp → Exp
marked many e = star e
marked more e = plus e
marked perhaps e = maybe e

-- a name that was begun: none begins so, some do, or it is whole
pub data Known : Type 0 where
  unknown : Known
  begun : Known
  whole : Set → Known

unfoldable pub starts : Text → Text → Bool
starts [] w = true
starts (x ∷ xs) [] = false
starts (x ∷ xs) (y ∷ ys) = eqb x y && starts xs ys

unfoldable pub known : Text → List Set → Known
known w [] = unknown
known w (s ∷ ss) = cond (starts w (named s)) (cond (starts (named s) w) (whole s) begun) (known w ss)

-- an expression in the making: the choice before the last bar, the sequence before the last item, the last item
pub data Frame : Type 0 where
  bared : Option Exp → Frame
  held : Option Exp → Option Exp → Exp → Frame

abbrev pub cat_on : Option Exp → Exp → Exp
cat_on none e = e
cat_on (some a) e = cat a e

abbrev pub alt_on : Option Exp → Exp → Exp
alt_on none e = e
alt_on (some a) e = alt a e

-- the expression when it ends here
abbrev pub made : Option Exp → Option Exp → Exp → Exp
made b r e = alt_on b (cat_on r e)

-- one item more
abbrev pub put : Exp → Frame → Frame
put e (bared b) = held b none e
put e (held b r l) = held b (some (cat_on r l)) e

pub data Mode : Type 0 where
  plain : Mode
  escape : Mode
  half : ℕ → Mode
  naming : Text → Mode

-- in which mode, the expression here, those outside of the parentheses that are open, and how many more may open
pub data State : Type 0 where
  at : Mode → Frame → List Frame → ℕ → State

pub data Step : Type 0 where
  wrong : Step
  go : State → Step

unfoldable pub opened : Frame → List Frame → ℕ → Step
opened f fs zero = wrong
opened f fs (suc n) = go (at plain (bared none) (f ∷ fs) n)

unfoldable pub shut_in : Frame → Frame → List Frame → ℕ → Step
shut_in (bared none) g gs n = go (at plain (put empty g) gs (suc n))
shut_in (bared (some a)) g gs n = wrong
shut_in (held b r e) g gs n = go (at plain (put (made b r e) g) gs (suc n))

unfoldable pub shut : Frame → List Frame → ℕ → Step
shut f [] n = wrong
shut f (g ∷ gs) n = shut_in f g gs n

unfoldable pub barred : Frame → List Frame → ℕ → Step
barred (bared b) fs n = wrong
barred (held b r e) fs n = go (at plain (bared (some (made b r e))) fs n)

unfoldable pub marks : Mark → Frame → List Frame → ℕ → Step
marks m (bared b) fs n = wrong
marks m (held b r e) fs n = go (at plain (held b r (marked m e)) fs n)

unfoldable pub by_key : Key → ℕ → Frame → List Frame → ℕ → Step
by_key self c f fs n = go (at plain (put (byte c) f) fs n)
by_key any c f fs n = go (at plain (put dot f) fs n)
by_key slash c f fs n = go (at escape f fs n)
by_key less c f fs n = go (at (naming []) f fs n)
by_key opens c f fs n = opened f fs n
by_key shuts c f fs n = shut f fs n
by_key bar c f fs n = barred f fs n
by_key (mark m) c f fs n = marks m f fs n
by_key other c f fs n = wrong

unfoldable pub first_digit : Option ℕ → Frame → List Frame → ℕ → Step
first_digit none f fs n = wrong
first_digit (some x) f fs n = go (at (half x) f fs n)

unfoldable pub last_digit : ℕ → Option ℕ → Frame → List Frame → ℕ → Step
last_digit x none f fs n = wrong
last_digit x (some y) f fs n = go (at plain (put (byte (x * 16 + y)) f) fs n)

unfoldable pub by_name : Known → Text → Frame → List Frame → ℕ → Step
by_name unknown w f fs n = wrong
by_name begun w f fs n = go (at (naming w) f fs n)
by_name (whole s) w f fs n = go (at plain (put (set s) f) fs n)

unfoldable pub step : State → ℕ → Step
step (at plain f fs n) c = by_key (key c) c f fs n
step (at escape f fs n) c = first_digit (hex c) f fs n
step (at (half x) f fs n) c = last_digit x (hex c) f fs n
step (at (naming w) f fs n) c = by_name (known (w ++ (c ∷ [])) sets) (w ++ (c ∷ [])) f fs n

-- the state after a text, or nothing if a byte was wrong
unfoldable pub onward : Step → ℕ → Step
onward wrong c = wrong
onward (go s) c = step s c

unfoldable pub runs : Step → Text → Step
runs x [] = x
runs x (c ∷ t) = runs (onward x c) t

-- the expression that is whole here
unfoldable pub ended : Step → Option Exp
ended wrong = none
ended (go (at plain (held b r e) [] n)) = some (made b r e)
ended (go (at plain (held b r e) (f ∷ fs) n)) = none
ended (go (at plain (bared b) fs n)) = none
ended (go (at escape f fs n)) = none
ended (go (at (half x) f fs n)) = none
ended (go (at (naming w) f fs n)) = none

abbrev pub begin : State
begin = at plain (bared none) [] deep

unfoldable pub reads : Text → Option Exp
reads t = ended (runs (go begin) t)
