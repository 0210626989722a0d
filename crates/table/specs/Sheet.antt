-- A sheet: how a table is read from bytes and written to them, as document 01 has it.
-- Reading refuses what is wrong at its place; writing gives each row its runs, each as long as it can be.
use Rattle.std.specs.Prelude.{ℕ, zero, suc, ◌+◌, ◌-◌, cond, List, [], ◌∷◌, ◌++◌, ltb, eqb, length, take, drop, replicate}
use Rattle.number.specs.declared.Refusal.TheVariants.{Runs}
use Rattle.number.specs.Limits.{sheet_version, rules, states, bytes}
use Rattle.number.specs.Refused.{Answer}
use Rattle.number.specs.Numbers.{read_number, field, write_number}
use Rattle.number.specs.Reading.{Reader, ◌>>=◌, ◌>>◌, answer, here, refuse_if, end}
use Rattle.table.specs.Table.{Table}

-- the states that are still to come: their labels and their targets
pub record Rows : Type 0 where
  pub labels : List ℕ
  pub targets : List ℕ

module _ (file : List ℕ) where
  -- k runs more of a state, in a sheet of s states: `sum` bytes are covered, `last` is the target of the run before, or s, which is none
  unfoldable pub more_runs : ℕ → ℕ → ℕ → ℕ → Reader (List ℕ)
  more_runs s zero sum last = do
    after ← here
    refuse_if (ltb sum bytes) (Runs after)
    answer []
  more_runs s (suc k) sum last = do
    at_length ← here
    len ← field file 1 bytes
    refuse_if (ltb bytes (sum + len)) (Runs at_length)
    at_target ← here
    target ← field file 0 (s - 1)
    refuse_if (eqb target last) (Runs at_target)
    rest ← more_runs s k (sum + len) target
    answer (replicate len target ++ rest)

  -- the m runs of a state: no byte is covered before the first, and no run stands before it
  abbrev pub read_runs : ℕ → ℕ → Reader (List ℕ)
  read_runs s m = more_runs s m 0 s

  -- k states more of a sheet of s states
  unfoldable pub more_states : ℕ → ℕ → Reader Rows
  more_states s zero = answer (record { labels = []; targets = [] })
  more_states s (suc k) = do
    label ← field file 0 rules
    m ← field file 1 bytes
    row ← read_runs s m
    rest ← more_states s k
    answer (record { labels = label ∷ rest.labels; targets = row ++ rest.targets })

  -- all states of a sheet of s states
  abbrev pub read_states : ℕ → Reader Rows
  read_states s = more_states s s

  -- version, state count, the states; nothing follows. How many states there may be is the reader's limit: a sheet does not tell it
  unfoldable pub sheet : ℕ → Reader Table
  sheet most = do
    field file sheet_version sheet_version
    s ← field file 1 most
    rows ← read_states s
    end file
    answer (record { count = s; labels = rows.labels; targets = rows.targets })

  -- a whole file, by a reader that takes so many states; ours takes as many as a table may have
  abbrev pub read_sheet_to : ℕ → Answer Table
  read_sheet_to most = sheet most 0

  abbrev pub read_sheet : Answer Table
  read_sheet = read_sheet_to states

  -- the state count that a file tells: the number behind its version, whatever it is
  abbrev pub count_told : Answer ℕ
  count_told = (field file sheet_version sheet_version >> read_number file) 0

-- a run: so many bytes with one target
pub record Run : Type 0 where
  pub len : ℕ
  pub target : ℕ

-- one byte more in front: it joins the run behind it where the target is the same
unfoldable pub joined : ℕ → List Run → List Run
joined t [] = record { len = 1; target = t } ∷ []
joined t (r ∷ rs) = cond (eqb t r.target) (record { len = suc r.len; target = t } ∷ rs) (record { len = 1; target = t } ∷ r ∷ rs)

-- the runs of a row
unfoldable pub runs_of : List ℕ → List Run
runs_of [] = []
runs_of (t ∷ ts) = joined t (runs_of ts)

unfoldable pub write_runs : List Run → List ℕ
write_runs [] = []
write_runs (r ∷ rs) = write_number r.len ++ (write_number r.target ++ write_runs rs)

unfoldable pub write_row : List ℕ → List ℕ
write_row row = write_number (length (runs_of row)) ++ write_runs (runs_of row)

-- a state: its label, then its row
unfoldable pub write_states : List ℕ → List ℕ → List ℕ
write_states [] targets = []
write_states (l ∷ ls) targets = write_number l ++ (write_row (take bytes targets) ++ write_states ls (drop bytes targets))

unfoldable pub write_sheet : Table → List ℕ
write_sheet t = write_number sheet_version ++ (write_number t.count ++ write_states t.labels t.targets)
