-- The bytes of a sheet: each is a byte, and how many there can be.
-- A row of k runs takes at most 2 bytes for k, two for each target, and for lengths no more than the bytes that they cover.
use Rattle.std.specs.Prelude.{ℕ, ◌+◌, ◌*◌, ◌/◌, ◌%◌, ◌≤◌, ◌<◌, ◌≡◌, List, [], ◌∷◌, ◌++◌, length, take, drop}
use Rattle.std.proofs.Common.{arith, sym, ap, ◌∙◌, length-append, length-drop, length-take-le}
use Rattle.number.specs.Limits.{group, two_groups, three_groups, sheet_version, rules, states, bytes}
use Rattle.number.specs.Numbers.{Bytes, write_number}
use Rattle.number.proofs.NumberLaws.{Written, write_way, width_is}
use Rattle.number.proofs.NumberLaws.Written.{one, two, three}
use Rattle.table.specs.Table.{Table}
use Rattle.table.specs.Sheet.{Run, runs_of, write_runs, write_row, write_states, write_sheet}
use Rattle.table.specs.Formed.{Formed, covered, Proper, Below, longest_state, longest_sheet}
use Rattle.table.specs.SheetFormed.{Each, each_none, each_cons, each_tail, each_append, each_take, each_drop}
use Rattle.table.specs.SheetRuns.{runs_proper, runs_count, runs_covered, runs_below}

-- ---- each is a byte

abbrev byte : ℕ → Type 0
byte x = x < bytes

number_bytes : (n : ℕ) → n < three_groups → Bytes (write_number n)
number_bytes n small = go (write_way n)
  where
    go : {w : List ℕ} → Written n w → Bytes w
    go (one h) = each_cons byte n [] (omega arith) (each_none byte)
    go (two h k) =
        let b : ℕ = n / group in
        each_cons byte (group + n % group) (b ∷ []) (omega arith) (each_cons byte b [] (omega arith) (each_none byte))
    go (three h) =
        let b : ℕ = group + n / group % group in
        let c : ℕ = n / two_groups in
        each_cons byte (group + n % group) (b ∷ c ∷ []) (omega arith)
        (each_cons byte b (c ∷ []) (omega arith) (each_cons byte c [] (omega arith) (each_none byte)))

runs_bytes : (s : ℕ) (rs : List Run) → s ≤ states → Below s rs → covered rs ≤ bytes → Bytes (write_runs rs)
unfolding write_runs covered
runs_bytes s [] most below fits = each_none byte
runs_bytes s (r ∷ rs) most below fits =
    each_append byte (write_number r.len) (write_number r.target ++ write_runs rs) (number_bytes r.len (omega arith))
    (each_append byte (write_number r.target) (write_runs rs) (number_bytes r.target (omega (arith, below.0)))
    (runs_bytes s rs most below.1 (omega arith)))

row_bytes : (s : ℕ) (row : List ℕ) → s ≤ states → length row ≡ bytes → Each (λ t. t < s) row → Bytes (write_row row)
unfolding write_row
row_bytes s row most full target =
    each_append byte (write_number (length (runs_of row))) (write_runs (runs_of row))
    (number_bytes (length (runs_of row)) (omega (arith, runs_count row)))
    (runs_bytes s (runs_of row) most (runs_below s row target) (omega (arith, runs_covered row)))

states_bytes : (s : ℕ) (labels targets : List ℕ) → s ≤ states → length targets ≡ length labels * bytes
    → Each (λ l. l ≤ rules) labels → Each (λ t. t < s) targets → Bytes (write_states labels targets)
unfolding write_states
states_bytes s [] targets most full label target = each_none byte
states_bytes s (l ∷ ls) targets most full label target =
    each_append byte (write_number l) (write_row (take bytes targets) ++ write_states ls (drop bytes targets))
    (number_bytes l (omega (arith, label 0 (omega arith))))
    (each_append byte (write_row (take bytes targets)) (write_states ls (drop bytes targets))
    (row_bytes s (take bytes targets) most (length-take-le bytes targets (omega arith)) (each_take (λ t. t < s) bytes targets target))
    (states_bytes s ls (drop bytes targets) most (omega (arith, length-drop bytes targets))
    (each_tail (λ x. x ≤ rules) l ls label) (each_drop (λ t. t < s) bytes targets target)))

-- what is written of a formed table is what a file holds
pub sheet_bytes : (t : Table) → Formed t → Bytes (write_sheet t)
unfolding write_sheet
sheet_bytes t f =
    each_append byte (write_number sheet_version) (write_number t.count ++ write_states t.labels t.targets)
    (number_bytes sheet_version (omega arith))
    (each_append byte (write_number t.count) (write_states t.labels t.targets)
    (number_bytes t.count (omega (arith, f.most)))
    (states_bytes t.count t.labels t.targets f.most
    (f.filled ∙ ap (λ (n : ℕ). n * bytes) (sym f.labelled)) f.label f.target))

-- ---- how many there are

-- a number of one group takes a byte, one of two groups at most two, and none takes more bytes than it counts
width_one : (n : ℕ) → n < group → length (write_number n) ≡ 1
width_one n h = width_is n (one h)

width_two : (n : ℕ) → n < two_groups → length (write_number n) ≤ 2
width_two n small = go (write_way n)
  where
    go : {w : List ℕ} → Written n w → length w ≤ 2
    go (one h) = omega arith
    go (two h k) = omega arith
    go (three h) = absurd (omega arith)

width_itself : (n : ℕ) → 1 ≤ n → length (write_number n) ≤ n
width_itself n some = go (write_way n)
  where
    go : {w : List ℕ} → Written n w → length w ≤ n
    go (one h) = omega arith
    go (two h k) = omega arith
    go (three h) = omega arith

runs_length : (s : ℕ) (rs : List Run) → s ≤ states → Proper rs → Below s rs → length (write_runs rs) ≤ covered rs + 2 * length rs
unfolding write_runs covered
runs_length s [] most proper below = omega arith
runs_length s (r ∷ rs) most proper below =
    omega (
      arith,
      length-append (write_number r.len) (write_number r.target ++ write_runs rs),
      length-append (write_number r.target) (write_runs rs),
      width_itself r.len proper.0,
      width_two r.target (omega (arith, below.0)),
      runs_length s rs most proper.2 below.1,
    )

row_length : (s : ℕ) (row : List ℕ) → s ≤ states → length row ≡ bytes → Each (λ t. t < s) row → length (write_row row) ≤ 2 + 3 * bytes
unfolding write_row
row_length s row most full target =
    omega (
      arith,
      length-append (write_number (length (runs_of row))) (write_runs (runs_of row)),
      width_two (length (runs_of row)) (omega (arith, runs_count row)),
      runs_count row,
      runs_covered row,
      runs_length s (runs_of row) most (runs_proper row) (runs_below s row target),
    )

states_length : (s : ℕ) (labels targets : List ℕ) → s ≤ states → length targets ≡ length labels * bytes
    → Each (λ l. l ≤ rules) labels → Each (λ t. t < s) targets
    → length (write_states labels targets) ≤ length labels * longest_state
unfolding write_states
states_length s [] targets most full label target = omega arith
states_length s (l ∷ ls) targets most full label target =
    let row : List ℕ = take bytes targets in
    let more : List ℕ = drop bytes targets in
    omega (
      arith,
      length-append (write_number l) (write_row row ++ write_states ls more),
      length-append (write_row row) (write_states ls more),
      width_one l (omega (arith, label 0 (omega arith))),
      row_length s row most (length-take-le bytes targets (omega arith)) (each_take (λ t. t < s) bytes targets target),
      states_length s ls more most (omega (arith, length-drop bytes targets))
          (each_tail (λ x. x ≤ rules) l ls label) (each_drop (λ t. t < s) bytes targets target),
    )

pub sheet_length_lem : (t : Table) → Formed t → length (write_sheet t) ≤ longest_sheet
unfolding write_sheet
sheet_length_lem t f =
    let v : List ℕ = write_number t.count in
    let w : List ℕ = write_states t.labels t.targets in
    omega (
      arith,
      length-append (write_number sheet_version) (v ++ w),
      length-append v w,
      width_one sheet_version (omega arith),
      width_two t.count (omega (arith, f.most)),
      f.most,
      f.labelled,
      states_length t.count t.labels t.targets f.most
          (f.filled ∙ ap (λ (n : ℕ). n * bytes) (sym f.labelled)) f.label f.target,
    )
