-- What the end of a run tells of the runs of a row, and what the first run of a row is, which the loops go by; the functions of this crate promise what their contracts say at once.
-- The definitions are table's, of its Sheet.
use Rattle.std.specs.Prelude.{ℕ, ◌-◌, ◌≤◌, ◌<◌, ◌≡◌, List, ◌∷◌, get_or}
use Rattle.std.proofs.Math.Seq.{slice}
use Rattle.table.specs.Sheet.{runs_of}

-- the first run of the part of a row from `from` to `end`: it ends at `stop`, where the others begin
pub record RunAt (targets : List ℕ) (from end stop : ℕ) : Type 0 where
  pub onward : from < stop
  pub within : stop ≤ end
  pub runs :
      runs_of (slice from end targets)
      ≡ record { len = stop - from; target = get_or targets from 0 } ∷ runs_of (slice stop end targets)

-- the first run of a row: so many bytes with one target, and `rest` is what is left behind it
pub record FirstRun (row : List ℕ) (len target : ℕ) (rest : List ℕ) : Type 0 where
  pub runs : runs_of row ≡ record { len = len; target = target } ∷ runs_of rest
