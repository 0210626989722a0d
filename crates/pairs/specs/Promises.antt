-- What the code that walks pairs asks and tells: one record a contract, fields by name.
-- The walk is given a table's targets, cut to the table's states.
use Rattle.std.specs.Prelude.{ℕ, ◌+◌, ◌*◌, ◌<◌, ◌≤◌, ◌≡◌, List, [], length, get_or, Result, Ok, Err}
use Rattle.number.specs.declared.Refusal.{Refusal}
use Rattle.number.specs.Limits.{bytes, pool}
use Rattle.walk.specs.Walk.{Way, Walked}
use Rattle.walk.specs.Walk.Walked.{halted, walked}
use Rattle.vector.specs.Layout.{items, sheets_at}
use Rattle.vector.specs.Memory.{held_of, Kept}
use Rattle.steps.specs.declared.Extent.{Extent}
use Rattle.verdict.specs.Compare.{state_of, beside}

-- beside these targets: `beside` looks at nothing else of a table
abbrev pub by_targets : List ℕ → Way
by_targets targets = beside (record { count = 0; labels = []; targets = targets })

-- a state has its row among the targets, and each target has its row
abbrev pub HasRow : List ℕ → ℕ → Type 0
HasRow targets q = q * bytes + bytes ≤ length targets

abbrev pub Closed : List ℕ → Type 0
Closed targets = (i : ℕ) → i < length targets → HasRow targets (get_or targets i 0)

-- the work area holds a walk beside the targets, with a pool up to top and so many items
pub record Beside (s : List ℕ) (n top count : ℕ) (targets : List ℕ) : Type 0 where
  pub kept : Kept s n top count
  pub low : top ≤ pool
  pub few : count ≤ items
  pub sheets : (k : ℕ) → k < count → HasRow targets (state_of (get_or s (sheets_at + k) 0))

-- walk came to w, and what it holds then is what the work area holds
pub record Walks (n : ℕ) (targets s : List ℕ) (top count : ℕ) (w : Walked) : Type 0 where
  pub numbers : List ℕ
  pub goes : w ≡ walked (held_of s n top count) numbers
  pub beside : Beside s n top count targets

-- the answer is walk's, for a row or for more
abbrev pub Ends : ℕ → List ℕ → List ℕ → Walked → Result Extent Refusal → Type 0
Ends n targets s w (Ok held) = Walks n targets s held.top held.count w
Ends n targets s w (Err r) = w ≡ halted r
