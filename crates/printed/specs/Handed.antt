-- What is handed to standard output of all that there is to print, and how it is counted: all of it, or less, where a write failed.
-- Which bytes the system wrote only the system knows; it was handed these, in this order.
use Rattle.std.specs.Prelude.{ℕ, ◌+◌, ◌<◌, ◌≡◌, Result, Ok, Err, List, [], ◌∷◌, ◌++◌, length, take, drop}
use Rattle.printed.specs.declared.Failed.{Failed}

-- the bytes that are due where n bytes of the whole were handed over: those that stand there behind them
abbrev pub Due : List ℕ → ℕ → List ℕ → Type 0
Due whole n part = take (length part) (drop n whole) ≡ part

-- so many bytes more are counted where the write was whole, and none where it failed
abbrev pub Next : ℕ → ℕ → Result ℕ Failed → Type 0
Next before more (Ok n) = n ≡ before + more
Next before more (Err failed) = failed.printed ≡ before

-- an answer for all tells the whole's length, and one for less a smaller number
abbrev pub Counts : List ℕ → Result ℕ Failed → Type 0
Counts whole (Ok n) = n ≡ length whole
Counts whole (Err failed) = failed.printed < length whole

-- on the way: these n bytes of the whole were handed over, and this is the rest
pub record Over (whole : List ℕ) (n : ℕ) (rest : List ℕ) : Type 0 where
  pub done : List ℕ
  pub count : length done ≡ n
  pub makes : whole ≡ done ++ rest

-- parts that were handed over one after the other, each of them due behind those before it
unfoldable pub joined : List (List ℕ) → List ℕ
joined [] = []
joined (part ∷ parts) = part ++ joined parts

abbrev pub EachDue : List ℕ → ℕ → List (List ℕ) → Type 0
EachDue whole n [] = Unit {0}
EachDue whole n (part ∷ parts) = Due whole n part × EachDue whole (n + length part) parts
