-- What the functions inside promise of what they find and write: a run of bytes, a table of flags, and what one try of a byte tells.
-- A caller outside needs none of it; tested_line of advised is what the whole comes to.
use Rattle.std.specs.Prelude.{ℕ, ◌+◌, ◌-◌, ◌≤◌, ◌<◌, ◌≡◌, Bool, true, false, not, List, [], ◌∷◌, length, get_or, Option, Some, None}
use Rattle.number.specs.Limits.{bytes}
use Rattle.typed.specs.Calls.{book_bytes}
use Rattle.advised.specs.Advice.{space, wrong_at, could_stand, kept, Run, runs, run_name}

-- put_run: a space, and the run as people read it
abbrev pub run_words : ℕ → ℕ → List ℕ
run_words lo hi = space ∷ run_name (record { first = lo; last = hi })

-- ---- a table of flags, one for each byte

unfoldable pub flagged : List Bool → ℕ → Bool
flagged found c = get_or found c false

-- the bytes from c on for which a test holds, and their runs
abbrev pub kept_from : (ℕ → Bool) → ℕ → List ℕ
kept_from test c = kept test (bytes - c) c

abbrev pub runs_from : (ℕ → Bool) → ℕ → List Run
runs_from test c = runs (kept_from test c)

-- next_up: the first flag from c on that is up, if one is
pub data NextUp (found : List Bool) (c : ℕ) : Option ℕ → Type 0 where
  up_at : {r : ℕ} → c ≤ r → r < bytes → kept_from (flagged found) c ≡ kept_from (flagged found) r → flagged found r ≡ true → NextUp found c (Some r)
  none_up : kept_from (flagged found) c ≡ [] → NextUp found c None

-- run_end: the last byte of the run that starts at lo
pub record RunOf (found : List Bool) (lo hi : ℕ) : Type 0 where
  pub from : lo ≤ hi
  pub inside : hi < bytes
  pub whole : runs_from (flagged found) lo ≡ record { first = lo; last = hi } ∷ runs_from (flagged found) (hi + 1)

-- ---- tries

-- could_end: some rightly typed text begins with these bytes
unfoldable pub could_end : List ℕ → Bool
could_end tried = not (wrong_at (length tried - 1) (book_bytes tried))

-- try_bytes: every flag below c tells whether its byte could stand behind what is before it
pub record TriedTo (c : ℕ) (before : List ℕ) (found : List Bool) : Type 0 where
  pub tells : (i : ℕ) → i < c → flagged found i ≡ could_stand before i

abbrev pub Tried : List ℕ → List Bool → Type 0
Tried before found = TriedTo bytes before found
