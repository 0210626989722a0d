-- The longest sheet is reached: there is a table of so many states in which no row has two equal neighbours and each target takes two bytes.
-- So the bound on a sheet's bytes is no larger than it must be, and a buffer that is shorter would not hold every sheet.
use Rattle.std.specs.Prelude.{ℕ, zero, suc, ◌+◌, ◌*◌, ◌≤◌, ◌<◌, ◌≡◌, refl, List, [], ◌∷◌, ◌++◌, length, replicate}
use Rattle.std.proofs.Common.{arith, sym, ap, ◌∙◌, length-append, take_at, drop_at}
use Rattle.std.proofs.lemmas.List.{length-replicate}
use Rattle.number.specs.Limits.{group, two_groups, sheet_version, rules, states, bytes}
use Rattle.number.specs.Numbers.{write_number}
use Rattle.number.proofs.NumberLaws.{width_is}
use Rattle.number.proofs.NumberLaws.Written.{one, two}
use Rattle.table.specs.Table.{Table}
use Rattle.table.specs.Sheet.{Run, runs_of, write_runs, write_row, write_states, write_sheet}
use Rattle.table.specs.Formed.{Formed, Ends, Takes, longest_state, longest_sheet}
use Rattle.table.specs.SheetFormed.{Each, each_none, each_cons, each_append, each_replicate}
use Rattle.table.specs.SheetRuns.{runs_first}

-- two targets in turn, the first one first
unfoldable turns : ℕ → ℕ → ℕ → List ℕ
turns zero a b = []
turns (suc n) a b = a ∷ turns n b a

-- one row so many times
unfoldable repeated : ℕ → List ℕ → List ℕ
repeated zero row = []
repeated (suc k) row = row ++ repeated k row

turns_length : (n a b : ℕ) → length (turns n a b) ≡ n
unfolding turns
turns_length zero a b = refl
turns_length (suc n) a b = ap suc (turns_length n b a)

turns_each : (P : ℕ → Type 0) (n a b : ℕ) → P a → P b → Each P (turns n a b)
unfolding turns
turns_each P zero a b p q = each_none P
turns_each P (suc n) a b p q = each_cons P a (turns n b a) p (turns_each P n b a q p)

turns_end : (n a b : ℕ) → (b ≡ a → ⊥) → Ends a (turns n b a)
unfolding turns
turns_end zero a b other some e = absurd (omega arith)
turns_end (suc n) a b other some e = other e

repeated_length : (k : ℕ) (row : List ℕ) → length (repeated k row) ≡ k * length row
unfolding repeated
repeated_length zero row = omega arith
repeated_length (suc k) row = omega (arith, length-append row (repeated k row), repeated_length k row)

repeated_each : (P : ℕ → Type 0) (k : ℕ) (row : List ℕ) → Each P row → Each P (repeated k row)
unfolding repeated
repeated_each P zero row each = each_none P
repeated_each P (suc k) row each = each_append P row (repeated k row) each (repeated_each P k row each)

-- ---- how many bytes they take

-- a target that takes two bytes
abbrev Wide : ℕ → Type 0
Wide t = (group ≤ t) × (t < two_groups)

-- each run is one byte long: one byte for its length, two for its target
runs_of_turns : (n a b : ℕ) → (a ≡ b → ⊥) → Wide a → Wide b
    → (length (runs_of (turns n a b)) ≡ n) × (length (write_runs (runs_of (turns n a b))) ≡ n * 3)
unfolding turns runs_of write_runs
runs_of_turns zero a b other p q = (refl, refl)
runs_of_turns (suc n) a b other p q =
    let rest : List ℕ = turns n b a in
    let apart : b ≡ a → ⊥ = λ e. other (sym e) in
    let first : runs_of (a ∷ rest) ≡ record { len = 1; target = a } ∷ runs_of rest = runs_first 0 a rest (turns_end n a b apart) in
    let more = runs_of_turns n b a apart q p in (
      ap length first ∙ ap suc more.0,
      ap (λ (rs : List Run). length (write_runs rs)) first
          ∙ omega (
            arith,
            length-append (write_number 1) (write_number a ++ write_runs (runs_of rest)),
            length-append (write_number a) (write_runs (runs_of rest)),
            width_is 1 (one (omega arith)),
            width_is a (two p.0 p.1),
            more.1,
          ),
    )

row_of_turns : (a b : ℕ) → (a ≡ b → ⊥) → Wide a → Wide b → length (write_row (turns bytes a b)) ≡ 2 + 3 * bytes
unfolding write_row
row_of_turns a b other p q =
    let told = runs_of_turns bytes a b other p q in
    omega (
      arith,
      length-append (write_number (length (runs_of (turns bytes a b)))) (write_runs (runs_of (turns bytes a b))),
      ap (λ (n : ℕ). length (write_number n)) told.0,
      width_is bytes (two (omega arith) (omega arith)),
      told.1,
    )

states_of_row : (k : ℕ) (row : List ℕ) → length row ≡ bytes → length (write_row row) ≡ 2 + 3 * bytes
    → length (write_states (replicate k 0) (repeated k row)) ≡ k * longest_state
unfolding repeated write_states
states_of_row zero row full wide = refl
states_of_row (suc k) row full wide =
    let rest : List ℕ = repeated k row in
    rw (take_at row rest bytes full, drop_at row rest bytes full)
    (omega (
      arith,
      length-append (write_number 0) (write_row row ++ write_states (replicate k 0) rest),
      length-append (write_row row) (write_states (replicate k 0) rest),
      width_is 0 (one (omega arith)),
      wide,
      states_of_row k row full wide,
    ))

-- ---- the table

-- the two lowest targets that take two bytes, in turn
abbrev row : List ℕ
row = turns bytes group (group + 1)

abbrev widest : Table
widest = record { count = states; labels = replicate states 0; targets = repeated states row }

widest_formed : Formed widest
widest_formed =
    record {
      some = omega arith;
      most = omega arith;
      labelled = length-replicate {A = ℕ} states 0;
      filled = repeated_length states row ∙ ap (λ (n : ℕ). states * n) (turns_length bytes group (group + 1));
      label = each_replicate (λ l. l ≤ rules) states 0 (omega arith);
      target = repeated_each (λ t. t < states) states row (turns_each (λ t. t < states) bytes group (group + 1) (omega arith) (omega arith));
    }

pub longest_taken : Takes longest_sheet
unfolding write_sheet
longest_taken =
    let wide : Wide group = (omega arith, omega arith) in
    let wider : Wide (group + 1) = (omega arith, omega arith) in
    let rows : List ℕ = write_states (replicate states 0) (repeated states row) in
    record {
      table = widest;
      formed = widest_formed;
      long =
          omega (
            arith,
            length-append (write_number sheet_version) (write_number states ++ rows),
            length-append (write_number states) rows,
            width_is sheet_version (one (omega arith)),
            width_is states (two (omega arith) (omega arith)),
            states_of_row states row (turns_length bytes group (group + 1)) (row_of_turns group (group + 1) (λ e. omega arith) wide wider),
          );
    }
