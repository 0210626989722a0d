-- Laws of writing a row, for the code that works out its length and then writes it: what each step adds.
-- Runs first, then rows, each with how long it can get.
use denote.Param.Members.{Mut}
use Rattle.std.specs.Prelude.{ℕ, zero, suc, ◌+◌, ◌-◌, ◌*◌, ◌≤◌, ◌<◌, ◌≡◌, Bool, eqb, List, [], ◌∷◌, ◌++◌, length, get_or, drop, replicate, Some}
use Rattle.std.specs.Fn.{ComputesOnPairs}
use Rattle.std.specs.List.{IsChunkByPrefix}
use Rattle.std.specs.Slice.Iter.{chunk_by_rest, chunk_by_steps}
use Rattle.std.specs.declared.slice.ChunkBy.{ChunkBy}
use Rattle.std.proofs.Common.{Bor, add-one, one-add, arith, refl, sym, ap, ◌∙◌, append_assoc, length-append}
use Rattle.std.proofs.lemmas.Bool.{eqb-true, eqb-false}
use Rattle.std.proofs.lemmas.Iterator.{YieldsList}
use Rattle.std.proofs.lemmas.Iterator.Consumers.{YieldsList-from_shown}
use Rattle.std.proofs.lemmas.List.{replicate-append-replicate}
use Rattle.std.proofs.Math.Seq.{slice, slice-cons, slice_empty, take-length, drop-append_seam}
use Rattle.std.proofs.Math.ListN.{get_or-append}
use native.Mathlib.Decide.{dec_lt}
use Rattle.number.specs.Numbers.{write_number}
use Rattle.number.proofs.NumberLaws.{width_most}
use Rattle.number.specs.Lists.{Writes, writes_none, writes_then}
use Rattle.table.specs.Sheet.{Run, runs_of, write_runs, write_row}
use Rattle.table.specs.Formed.{Ends}
use Rattle.table.specs.SheetRuns.{runs_count, runs_from_lem}
use Rattle.table.specs.Promises.{RunTo}
use Rattle.runs.specs.Promises.{RunAt, FirstRun}

-- ---- runs

-- as the code goes along a row: the bytes from `from` up to i all lead to the same target
pub record Along (targets : List ℕ) (from end i : ℕ) : Type 0 where
  pub onward : from < i
  pub within : i ≤ end
  pub same : slice from end targets ≡ replicate (i - from) (get_or targets from 0) ++ slice i end targets

-- the row ends there
pub along_end : (targets : List ℕ) (end t i : ℕ) → i ≡ end → Ends t (slice i end targets)
along_end targets end t i e = rw (e, slice_empty) (λ h. absurd (omega arith))

module _ (targets : List ℕ) (from end : ℕ) (room : end ≤ length targets) where
  pub along_start : from < end → Along targets from end (from + 1)
  along_start h =
      let one : from + 1 - from ≡ 1 = omega arith in
      record {
        onward = omega arith;
        within = omega arith;
        same = rw (one, add-one) (slice-cons from end targets 0 h room);
      }

  pub along_more : (i : ℕ) → Along targets from end i → i < end → get_or targets i 0 ≡ get_or targets from 0 → Along targets from end (i + 1)
  along_more i a h e =
      let n : ℕ = i - from in
      let longer : i + 1 - from ≡ n + 1 = omega (arith, a.onward) in
      let t : ℕ = get_or targets from 0 in
      let here : slice i end targets ≡ t ∷ slice (i + 1) end targets =
      rw (slice-cons i end targets 0 h room, e, add-one) in
      record {
        onward = omega (arith, a.onward);
        within = omega arith;
        same = a.same ∙ rw (here, longer, ← replicate-append-replicate n 1 t, append_assoc);
      }

  -- another target stands there
  pub along_other : (t i : ℕ) → i < end → (get_or targets i 0 ≡ t → ⊥) → Ends t (slice i end targets)
  along_other t i h n = rw (slice-cons i end targets 0 h room) (λ some e. n e)

  pub along_stop : (i : ℕ) → Along targets from end i → Ends (get_or targets from 0) (slice i end targets) → RunAt targets from end i
  along_stop i a ends =
      record {
        onward = a.onward;
        within = a.within;
        runs = ap runs_of a.same ∙ runs_from_lem (i - from) (get_or targets from 0) (slice i end targets) (omega (arith, a.onward)) ends;
      }

module _ (targets : List ℕ) (from end : ℕ) (some : from < end) (room : end ≤ length targets) where
  run_along : {stop : ℕ} → RunTo targets from end stop → (n : ℕ) → from + 1 + n ≤ stop → Along targets from end (from + 1 + n)
  run_along r zero h =
      let e : from + 1 + 0 ≡ from + 1 = omega arith in
      rw e (along_start targets from end room some)
  run_along r (suc n) h =
      let e : from + 1 + suc n ≡ from + 1 + n + 1 = omega arith in
      rw e (along_more targets from end room (from + 1 + n) (run_along r n (omega arith)) (omega (arith, r.within)) (r.alike (from + 1 + n) (omega arith) (omega arith)))

  -- where a run of one target ends, the first run of the part does
  pub run_at : {stop : ℕ} → RunTo targets from end stop → RunAt targets from end stop
  run_at {stop} r =
      let e : from + 1 + (stop - (from + 1)) ≡ stop = omega (arith, r.onward) in
      let along = run_along r (stop - (from + 1)) (omega (arith, r.onward)) in
      along_stop targets from end room stop (rw e at along)
      (elim (dec_lt stop end) [
        | yes h ↦ along_other targets from end room (get_or targets from 0) stop h (r.other h)
        | no n ↦ along_end targets end (get_or targets from 0) stop (omega (arith, r.within))
      ])

-- the whole of a row
pub row_whole : (row : List ℕ) → slice 0 (length row) row ≡ row
row_whole row = take-length row

-- ---- how long runs and rows can get

-- a run's bytes, and those of the runs behind it
pub runs_cons : (r : Run) (rs : List Run)
    → length (write_runs (r ∷ rs)) ≡ length (write_number r.len) + length (write_number r.target) + length (write_runs rs)
unfolding write_runs
runs_cons r rs = simp length-append (omega arith)

pub runs_short : (rs : List Run) → length (write_runs rs) ≤ 6 * length rs
unfolding write_runs
runs_short [] = omega arith
runs_short (r ∷ rs) = omega (arith, runs_cons r rs, width_most r.len, width_most r.target, runs_short rs)

pub row_runs_short : (row : List ℕ) → length (write_runs (runs_of row)) ≤ 6 * length row
row_runs_short row = omega (arith, runs_short (runs_of row), runs_count row)

pub row_is : (row : List ℕ) → length (write_row row) ≡ length (write_number (length (runs_of row))) + length (write_runs (runs_of row))
unfolding write_row
row_is row = simp length-append

pub row_short : (row : List ℕ) → length (write_row row) ≤ 3 + 6 * length row
row_short row = omega (arith, row_is row, width_most (length (runs_of row)), runs_short (runs_of row), runs_count row)

-- ---- a row, as the code takes it run by run

pub runs_none : (row : List ℕ) → length row ≡ 0 → runs_of row ≡ []
unfolding runs_of
runs_none [] none = refl
runs_none (t ∷ ts) none = absurd (omega arith)

pub runs_some : {row rest : List ℕ} {len target : ℕ} → FirstRun row len target rest → length (runs_of row) ≡ 1 + length (runs_of rest)
runs_some first = rw (first.runs, one-add)

pub part_none : (row : List ℕ) → length row ≡ 0 → write_runs (runs_of row) ≡ []
unfolding write_runs
part_none row none = rw (runs_none row none)

pub part_some : {row rest : List ℕ} {len target : ℕ} → FirstRun row len target rest
    → length (write_runs (runs_of row)) ≡ length (write_number len) + length (write_number target) + length (write_runs (runs_of rest))
part_some first = rw first.runs (runs_cons _ _)

pub runs_written_none : (row s : List ℕ) (at : ℕ) → length row ≡ 0 → Writes (write_runs (runs_of row)) s s at at
runs_written_none row s at none = rw (part_none row none) (writes_none s at)

-- a run's length, its target, and the runs behind it
pub runs_written : {row rest : List ℕ} {len target : ℕ} {s s1 s2 s3 : List ℕ} {at mid next last : ℕ}
    → FirstRun row len target rest → at ≤ length s → mid ≤ length s1
    → Writes (write_number len) s s1 at mid → Writes (write_number target) s1 s2 mid next
    → Writes (write_runs (runs_of rest)) s2 s3 next last
    → Writes (write_runs (runs_of row)) s s3 at last
unfolding write_runs
runs_written first h k a b d = rw first.runs (writes_then h a (writes_then k b d))

-- ---- what `chunk_by` yields

module _ (row run rest : List ℕ) (whole : row ≡ run ++ rest) (some : 0 < length run) (same : IsChunkByPrefix eqb row (length run)) where
  all_alike : (d : ℕ) → d < length run → get_or row d 0 ≡ get_or row 0 0
  all_alike zero h = refl
  all_alike (suc d) h =
      let e : suc d ≡ d + 1 = omega arith in
      rw e (sym (eqb-true _ _ (same.0 d 0 (omega arith))) ∙ all_alike d (omega arith))

  -- so many bytes are a run, as run_end finds it
  run_to : RunTo row 0 (length row) (length run)
  run_to = record {
    onward = some;
    within = omega (arith, ap length whole, length-append run rest);
    alike = λ d _ h. all_alike d h;
    other = λ h e. eqb-false _ _ (same.1 h 0) (all_alike (length run - 1) (omega arith) ∙ sym e);
  }

  left : drop (length run) row ≡ rest
  left = ap (drop (length run)) whole ∙ drop-append_seam run rest

  first_run : FirstRun row (length run) (get_or run 0 0) rest
  first_run =
      let first = run_at row 0 (length row) (omega (arith, run_to.within)) (omega arith) run_to in
      let len : length run - 0 ≡ length run = omega arith in
      let target : get_or row 0 0 ≡ get_or run 0 0 = ap (λ l. get_or l 0 0) whole ∙ get_or-append run rest 0 0 some in
      record { runs = rw (row_whole, len, target, left) at first.runs }

-- what `chunk_by` yields is the first run of what is left, where its closure compares
pub run_first : {F : Type 0} (g : Mut F (Bor ℕ × (Bor ℕ × Unit {0})) Bool) (s t : ChunkBy ℕ F) (run : Bor (List ℕ))
    → ((f : F) → ComputesOnPairs g eqb f) → chunk_by_steps g s (Some run) t → FirstRun (chunk_by_rest s) (length run.now) (get_or run.now 0 0) (chunk_by_rest t)
run_first g s t run same step = first_run _ _ _ step.0 step.1 (step.2 eqb (same _)).1

-- so it yields the runs of the row that it begins with
pub runs_yielded : {F : Type 0} (g : Mut F (Bor ℕ × (Bor ℕ × Unit {0})) Bool) (s : ChunkBy ℕ F) (row : List ℕ) → chunk_by_rest s ≡ row
    → ((f : F) → ComputesOnPairs g eqb f)
    → YieldsList (chunk_by_steps g) (λ run. record { len = length run.now; target = get_or run.now 0 0 }) s (runs_of row)
runs_yielded g s row begins same =
    rw (sym begins) (YieldsList-from_shown (chunk_by_steps g) _ (λ s. runs_of (chunk_by_rest s))
    (λ s t none. ap length (runs_none (chunk_by_rest s) none.0))
    (λ s run t step. (run_first g s t run same step).runs)
    s)

-- a row's count of runs, and the runs
pub row_written : (row : List ℕ) {n : ℕ} {s s1 s2 : List ℕ} {at mid last : ℕ} → n ≡ length (runs_of row) → at ≤ length s
    → Writes (write_number n) s s1 at mid → Writes (write_runs (runs_of row)) s1 s2 mid last → Writes (write_row row) s s2 at last
unfolding write_row
row_written row e h a b = writes_then h (rw e at a) b
