-- What a table must be for a sheet to hold it, and what runs must be to be a row's: a sheet is read exactly if its table is formed.
-- The Boolean well_formed tests the same of lent memory; these are the statements that theorems are about.
use Rattle.std.specs.Prelude.{ℕ, ◌+◌, ◌*◌, ◌≤◌, ◌<◌, ◌≡◌, List, [], ◌∷◌, ◌++◌, length, get_or, replicate}
use Rattle.number.specs.Limits.{rules, states, bytes}
use Rattle.table.specs.Table.{Table}
use Rattle.table.specs.Sheet.{Run, write_sheet}

-- 1 to 255 states, a label each of at most 32, 256 targets each that are states
pub record Formed (t : Table) : Type 0 where
  pub some : 1 ≤ t.count
  pub most : t.count ≤ states
  pub labelled : length t.labels ≡ t.count
  pub filled : length t.targets ≡ t.count * bytes
  pub label : (i : ℕ) → i < length t.labels → get_or t.labels i 0 ≤ rules
  pub target : (i : ℕ) → i < length t.targets → get_or t.targets i 0 < t.count

-- the row that runs stand for, and the bytes that they cover
unfoldable pub expanded : List Run → List ℕ
expanded [] = []
expanded (r ∷ rs) = replicate r.len r.target ++ expanded rs

unfoldable pub covered : List Run → ℕ
covered [] = 0
covered (r ∷ rs) = r.len + covered rs

-- no run comes first, or one that leads elsewhere than to t
abbrev pub TurnsFrom : ℕ → List Run → Type 0
TurnsFrom t [] = Unit {0}
TurnsFrom t (r ∷ rs) = r.target ≡ t → ⊥

-- each run covers a byte or more and is as long as it can be: the next one has another target
abbrev pub Proper : List Run → Type 0
Proper [] = Unit {0}
Proper (r ∷ rs) = (1 ≤ r.len) × TurnsFrom r.target rs × Proper rs

-- each run leads to one of s states
abbrev pub Below : ℕ → List Run → Type 0
Below s [] = Unit {0}
Below s (r ∷ rs) = (r.target < s) × Below s rs

-- what comes next in a row is not the target t: the row ends, or another target stands there
abbrev pub Ends : ℕ → List ℕ → Type 0
Ends t row = 0 < length row → get_or row 0 0 ≡ t → ⊥

-- the most bytes of a state, 771, and of a sheet, 196,608: just so many has a sheet of 255 states in which no row has two equal neighbours and each target takes two bytes
abbrev pub longest_state : ℕ
longest_state = 1 + (2 + 3 * bytes)

abbrev pub longest_sheet : ℕ
longest_sheet = 1 + (2 + states * longest_state)

-- a formed table whose sheet has so many bytes
pub record Takes (n : ℕ) : Type 0 where
  pub table : Table
  pub formed : Formed table
  pub long : length (write_sheet table) ≡ n
