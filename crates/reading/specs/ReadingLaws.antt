-- Laws of reading a sheet into memory: what each way of reading a row, the states and the whole sheet leaves.
-- Each way of the code is one law; what was read before stands in the law as the fields that were got.
use Prim.Native.Nat.{ℕ, zero, suc, ◌+◌, ◌-◌, ◌*◌, ◌≤◌, ◌<◌}
use Rattle.std.proofs.Common.{arith, sym, ap, ◌∙◌, append-nil, length-append, length-take, length-drop, drop_of_length-le}
use borrow.Rule.Slice.PartMut.{put_mid}
use Rattle.table.specs.FillLaws.{part_written}
use Rattle.std.specs.Prelude.{◌≡◌, refl, Result, Bool, true, false, ltb, eqb, set}
use mathlib.Core.List.{List, [], ◌∷◌, ◌++◌}
use borrow.Author.Tests.{lt-ltb, le-ltb, eq-eqb, ne_eqb, ltb-false}
use Rattle.std.proofs.Math.ListN.{length, take, drop, replicate}
use Rattle.std.proofs.lemmas.List.{length-replicate}
use Rattle.number.specs.declared.Refusal.{Refusal}
use Rattle.number.specs.declared.Refusal.TheVariants.{Runs}
use Rattle.number.specs.Limits.{rules, states, bytes}
use Rattle.number.specs.Refused.{Answer}
use Rattle.number.specs.Refused.Answer.{got, refused}
use Rattle.number.specs.Numbers.{Bytes, field, taken}
use Rattle.number.specs.Reading.{Reader, onward, ◌>>◌, answer, refuse_if, map_answer}
use Rattle.number.specs.Lists.{written, written_more, stored_one, writes_none}
use Rattle.table.specs.Table.{Table}
use Rattle.table.specs.Sheet.{Rows, read_runs, more_runs, more_states, read_sheet}
use Rattle.table.specs.SheetLaws.{sheet_back}
use Rattle.reading.specs.Promises.{LaysRow, LaysRows, LaysTable}

-- ---- answers

-- what holds of a reader's next step, or of its refusal, holds of its answer
pub by_onward : {A B : Type 0} (P : Answer B → Type 0) (x : Answer A) {f : A → Reader B}
    → ((a : A) (next : ℕ) → x ≡ got a next → P (f a next)) → ((r : Refusal) → P (refused r)) → P (onward x f)
by_onward P (got a next) f g = f a next refl
by_onward P (refused r) f g = g r

-- the same past a test that refuses
pub by_refuse : {A : Type 0} (P : Answer A → Type 0) (test : Bool) (q : Refusal) (at : ℕ) {f : Reader A}
    → (test ≡ true → P (refused q)) → (test ≡ false → (next : ℕ) → P (f next)) → P ((refuse_if test q >> f) at)
by_refuse P true q at f g = f refl
by_refuse P false q at f g = g refl at

-- a last step that only makes something of what was got
onward_maps : {A B : Type 0} (x : Answer A) (f : A → B) → onward x (λ (a : A). answer (f a)) ≡ map_answer f x
onward_maps (got a next) f = refl
onward_maps (refused r) f = refl

-- an answer by its value alone
pub record Got {A : Type 0} (x : Answer A) (f : A → ℕ) (n next : ℕ) : Type 0 where
  pub what : A
  pub is : x ≡ got what next
  pub value : n ≡ f what

pub mapped_got : {A : Type 0} (x : Answer A) (f : A → ℕ) (n next : ℕ) → map_answer f x ≡ got n next → Got x f n next
mapped_got (got a at) f n next e = record { what = a; is = cc; value = cc }
mapped_got (refused r) f n next e = absurd (let z : ◌≡◌ {A = ℕ} 0 1 = cc in omega arith)

pub mapped_refused : {A : Type 0} (x : Answer A) (f : A → ℕ) (r : Refusal) → map_answer f x ≡ refused r → x ≡ refused r
mapped_refused (got a at) f r e = absurd (let z : ◌≡◌ {A = ℕ} 0 1 = cc in omega arith)
mapped_refused (refused q) f r e = cc

-- ---- a row

-- the runs that are got cover what is left of the 256 bytes
abbrev Covers : ℕ → Answer (List ℕ) → Type 0
Covers sum (got row next) = sum + length row ≡ bytes
Covers sum (refused r) = Unit {0}

module _ (file : List ℕ) (s : ℕ) where
  pub runs_cover : (k sum last at : ℕ) → sum ≤ bytes → Covers sum (more_runs file s k sum last at)
  unfolding more_runs
  runs_cover zero sum last at h =
      by_refuse (Covers sum) (ltb sum bytes) (Runs at) at (λ e. tt) (λ e at1. omega (arith, ltb-false sum bytes e))
  runs_cover (suc k) sum last at h =
      by_onward (Covers sum) (field file 1 bytes at)
      (λ len at1 e. by_refuse (Covers sum) (ltb bytes (sum + len)) (Runs at) at1 (λ b. tt)
      (λ b at1. by_onward (Covers sum) (field file 0 (s - 1) at1)
      (λ target at2 f. by_refuse (Covers sum) (eqb target last) (Runs at1) at2 (λ d. tt)
      (λ d at2. by_onward (Covers sum) (more_runs file s k (sum + len) target at2)
      (λ rest next g.
      let all : sum + len + length rest ≡ bytes = rw g at (runs_cover k (sum + len) target at2 (ltb-false _ _ b)) in
      simp (length-append, length-replicate) (omega arith))
      (λ r. tt)))
      (λ r. tt)))
      (λ r. tt)

-- the ways of reading a row: the first two at its end, the others where a run is to come
module _ (file : List ℕ) (s k sum last at : ℕ) where
  pub runs_low : k ≡ 0 → sum < bytes → more_runs file s k sum last at ≡ refused (Runs at)
  unfolding more_runs
  runs_low e h = rw e (simp (lt-ltb _ _ h))

  pub runs_end : k ≡ 0 → bytes ≤ sum → more_runs file s k sum last at ≡ got [] at
  unfolding more_runs
  runs_end e h = rw e (simp (le-ltb _ _ h))

  module _ (j : ℕ) (some : k ≡ suc j) where
    pub runs_no_length : {q : Refusal} → field file 1 bytes at ≡ refused q → more_runs file s k sum last at ≡ refused q
    unfolding more_runs
    runs_no_length e = rw some (simp e)

    module _ {len at1 : ℕ} (length_got : field file 1 bytes at ≡ got len at1) where
      pub runs_long : bytes < sum + len → more_runs file s k sum last at ≡ refused (Runs at)
      unfolding more_runs
      runs_long h = rw some (simp (length_got, lt-ltb _ _ h))

      pub runs_no_target : sum + len ≤ bytes → {q : Refusal} → field file 0 (s - 1) at1 ≡ refused q
          → more_runs file s k sum last at ≡ refused q
      unfolding more_runs
      runs_no_target h e = rw some (simp (length_got, le-ltb _ _ h, e))

      module _ {target at2 : ℕ} (fits : sum + len ≤ bytes) (target-got : field file 0 (s - 1) at1 ≡ got target at2) where
        pub runs_same : target ≡ last → more_runs file s k sum last at ≡ refused (Runs at1)
        unfolding more_runs
        runs_same e = rw some (simp (length_got, le-ltb _ _ fits, target-got, eq-eqb _ _ e))

        pub runs_more : (target ≡ last → ⊥)
            → more_runs file s k sum last at
            ≡ map_answer (λ (rest : List ℕ). replicate len target ++ rest) (more_runs file s j (sum + len) target at2)
        unfolding more_runs
        runs_more n =
            rw some
            (simp (length_got, le-ltb _ _ fits, target-got, ne_eqb _ _ n)
            (onward_maps (more_runs file s j (sum + len) target at2) (λ (rest : List ℕ). replicate len target ++ rest)))

-- what these leave in memory
pub row_stopped : {x : Answer (List ℕ)} {s cell : ℕ} {t t' : List ℕ} {r : Result (ℕ × ℕ) Refusal} (q : Refusal) → x ≡ refused q → taken r ≡ refused q
    → LaysRow x s t cell t' r
row_stopped {x} {s} {cell} {t} {t'} q e f =
    record {
      answer = f ∙ rw e;
      cells = rw e tt;
    }

pub row_end : {x : Answer (List ℕ)} {s cell next : ℕ} {t : List ℕ} {r : Result (ℕ × ℕ) Refusal} → x ≡ got [] next → taken r ≡ got s next
    → LaysRow x s t cell t r
row_end {x} {s} {cell} {next} {t} e f =
    record {
      answer = f ∙ rw e;
      cells = rw e (writes_none t cell).out;
    }

pub row_more : {x : Answer (List ℕ)} (y : Answer (List ℕ)) {s cell next : ℕ} {t t1 t2 : List ℕ} (run : List ℕ) {r : Result (ℕ × ℕ) Refusal}
    → x ≡ map_answer (λ (rest : List ℕ). run ++ rest) y → cell ≤ length t → t1 ≡ written t cell run → next ≡ cell + length run
    → LaysRow y s t1 next t2 r → LaysRow x s t cell t2 r
row_more (refused q) run e h f g l = row_stopped q e l.answer
row_more (got rest after) {cell = cell} {t = t} run e h f g l =
    record {
      answer = l.answer ∙ rw e;
      cells = rw e (l.cells ∙ rw (f, g) (written_more t cell run rest h));
    }

-- a row that was got, by what the code was answered
pub record RowGot (x : Answer (List ℕ)) (t : List ℕ) (cell : ℕ) (t' : List ℕ) (next : ℕ) : Type 0 where
  pub row : List ℕ
  pub is : x ≡ got row next
  pub cells : t' ≡ written t cell row

pub row_got : {x : Answer (List ℕ)} {s cell n next : ℕ} {t t' : List ℕ} {r : Result (ℕ × ℕ) Refusal} → LaysRow x s t cell t' r → taken r ≡ got n next
    → RowGot x t cell t' next
row_got {x} {s} {n = n} {next = next} l e =
    let g = mapped_got x (λ (row : List ℕ). s) n next (sym l.answer ∙ e) in
    record { row = g.what; is = g.is; cells = rw g.is at l.cells }

pub row_refused : {x : Answer (List ℕ)} {s cell : ℕ} {t t' : List ℕ} {r : Result (ℕ × ℕ) Refusal} {q : Refusal} → LaysRow x s t cell t' r
    → taken r ≡ refused q → x ≡ refused q
row_refused {x} {s} {q = q} l e = mapped_refused x (λ (row : List ℕ). s) q (sym l.answer ∙ e)

-- bytes as many as the memory has are all that is in it
pub written_whole : (s w : List ℕ) → length w ≡ length s → written s 0 w ≡ w
unfolding written
written_whole s w e =
    let over : length s ≤ 0 + length w = omega arith in
    rw (drop_of_length-le s over, append-nil w)

-- a whole row in its part of the memory
pub row_placed : (t : List ℕ) (cell : ℕ) (row : List ℕ) {row' : List ℕ} → cell + bytes ≤ length t → length row ≡ bytes
    → row' ≡ written (take (cell + bytes - cell) (drop cell t)) 0 row → put_mid cell (cell + bytes - cell) t row' ≡ written t cell row
row_placed t cell row h size e =
    let width : cell + bytes - cell ≡ bytes = omega arith in
    let part : length row ≡ length (take (cell + bytes - cell) (drop cell t)) = simp (length-take, length-drop) (omega arith) in
    rw (e, written_whole (take (cell + bytes - cell) (drop cell t)) row part)
    (part_written t cell (cell + bytes - cell) row (omega (arith, size, width)))

-- ---- states

-- the ways of reading states
module _ (file : List ℕ) (s k at : ℕ) where
  pub states_end : k ≡ 0 → more_states file s k at ≡ got (record { labels = []; targets = [] }) at
  unfolding more_states
  states_end e = rw e

  module _ (j : ℕ) (some : k ≡ suc j) where
    pub states_no_label : {q : Refusal} → field file 0 rules at ≡ refused q → more_states file s k at ≡ refused q
    unfolding more_states
    states_no_label e = rw some (simp e)

    module _ {label at1 : ℕ} (label-got : field file 0 rules at ≡ got label at1) where
      pub states_no_count : {q : Refusal} → field file 1 bytes at1 ≡ refused q → more_states file s k at ≡ refused q
      unfolding more_states
      states_no_count e = rw some (simp (label-got, e))

      module _ {m at2 : ℕ} (count-got : field file 1 bytes at1 ≡ got m at2) where
        pub states_no_row : {q : Refusal} → read_runs file s m at2 ≡ refused q → more_states file s k at ≡ refused q
        unfolding more_states
        states_no_row e = rw some (simp (label-got, count-got, e))

        pub states_more : {row : List ℕ} {at3 : ℕ} → read_runs file s m at2 ≡ got row at3
            → more_states file s k at
            ≡ map_answer (λ (rest : Rows). record { labels = label ∷ rest.labels; targets = row ++ rest.targets }) (more_states file s j at3)
        unfolding more_states
        states_more {row} {at3} e =
            rw some
            (simp (label-got, count-got, e)
            (onward_maps (more_states file s j at3) (λ (rest : Rows). record { labels = label ∷ rest.labels; targets = row ++ rest.targets })))

-- what these leave in memory
pub rows_stopped : {x : Answer Rows} {s i : ℕ} {l t l' t' : List ℕ} {r : Result (ℕ × ℕ) Refusal} (q : Refusal) → x ≡ refused q → taken r ≡ refused q
    → LaysRows x s i l t l' t' r
rows_stopped q e f =
    record {
      answer = f ∙ rw e;
      cells = rw e tt;
    }

pub rows_end : {x : Answer Rows} {s i next : ℕ} {l t : List ℕ} {r : Result (ℕ × ℕ) Refusal} → x ≡ got (record { labels = []; targets = [] }) next
    → taken r ≡ got s next → LaysRows x s i l t l t r
rows_end {i = i} {l = l} {t = t} e f =
    record {
      answer = f ∙ rw e;
      cells = rw e ((writes_none l i).out, (writes_none t (i * bytes)).out);
    }

pub rows_more : {x : Answer Rows} (y : Answer Rows) {s i next : ℕ} {l t l1 t1 l2 t2 : List ℕ} (label : ℕ) (row : List ℕ) {r : Result (ℕ × ℕ) Refusal}
    → x ≡ map_answer (λ (rest : Rows). record { labels = label ∷ rest.labels; targets = row ++ rest.targets }) y
    → i + 1 ≤ length l → i * bytes ≤ length t → l1 ≡ set l i label → t1 ≡ written t (i * bytes) row → length row ≡ bytes
    → next ≡ i + 1 → LaysRows y s next l1 t1 l2 t2 r → LaysRows x s i l t l2 t2 r
rows_more (refused q) label row e h k f g size n m = rows_stopped q e m.answer
rows_more (got rest after) {i = i} {next = next} {l = l} {t = t} {l1 = l1} label row e h k f g size n m =
    let stored : l1 ≡ written l i (label ∷ []) = f ∙ stored_one l i label h in
    let cell : next * bytes ≡ i * bytes + length row = omega arith in
    record {
      answer = m.answer ∙ rw e;
      cells =
          rw e (
            m.cells.0 ∙ rw (stored, n) (written_more l i (label ∷ []) rest.labels (omega arith)),
            m.cells.1 ∙ rw (g, cell) (written_more t (i * bytes) row rest.targets k),
          );
    }

-- states that were got or refused, by what the code was answered
pub rows_got : {x : Answer Rows} {s i n next : ℕ} {l t l' t' : List ℕ} {r : Result (ℕ × ℕ) Refusal} → LaysRows x s i l t l' t' r → taken r ≡ got n next
    → Got x (λ (rows : Rows). s) n next
rows_got {x} {s} {n = n} {next = next} l e = mapped_got x (λ (rows : Rows). s) n next (sym l.answer ∙ e)

pub rows_refused : {x : Answer Rows} {s i : ℕ} {l t l' t' : List ℕ} {r : Result (ℕ × ℕ) Refusal} {q : Refusal} → LaysRows x s i l t l' t' r
    → taken r ≡ refused q → x ≡ refused q
rows_refused {x} {s} {q = q} l e = mapped_refused x (λ (rows : Rows). s) q (sym l.answer ∙ e)

-- ---- the sheet

-- what these leave in memory
pub table_stopped : {x : Answer Table} {l t l' t' : List ℕ} {r : Result (ℕ × ℕ) Refusal} (q : Refusal) → x ≡ refused q → taken r ≡ refused q
    → LaysTable x l t l' t' r
table_stopped q e f =
    record {
      answer = f ∙ rw e;
      cells = rw e tt;
    }

pub table_got : {x : Answer Table} {y : Answer Rows} {s next : ℕ} {rows : Rows} {l t l' t' : List ℕ} {q r : Result (ℕ × ℕ) Refusal}
    → x ≡ got (record { count = s; labels = rows.labels; targets = rows.targets }) next
    → y ≡ got rows next → LaysRows y s 0 l t l' t' q → taken r ≡ got s next → LaysTable x l t l' t' r
table_got e f m g =
    record {
      answer = g ∙ rw e;
      cells = rw e (rw f at m.cells);
    }

-- a sheet that was got or refused, by what the code was answered: a table of at most 255 states, one label and 256 targets each
pub record SheetGot (file l t l' t' : List ℕ) (count next : ℕ) : Type 0 where
  pub table : Table
  pub is : read_sheet file ≡ got table next
  pub counted : count ≡ table.count
  pub few : count ≤ states
  pub labelled : count ≡ length table.labels
  pub targeted : count * bytes ≡ length table.targets
  pub labels : l' ≡ written l 0 table.labels
  pub targets : t' ≡ written t 0 table.targets

pub sheet_read : (file : List ℕ) {l t l' t' : List ℕ} {n next : ℕ} {r : Result (ℕ × ℕ) Refusal} → Bytes file → LaysTable (read_sheet file) l t l' t' r
    → taken r ≡ got n next → SheetGot file l t l' t' n next
sheet_read file {n = n} {next = next} all m e =
    let g = mapped_got (read_sheet file) (λ (t : Table). t.count) n next (sym m.answer ∙ e) in
    let formed = (sheet_back file all g.what next g.is).formed in
    let cells = rw g.is at m.cells in
    record {
      table = g.what;
      is = g.is;
      counted = g.value;
      few = rw g.value formed.most;
      labelled = g.value ∙ sym formed.labelled;
      targeted = ap (λ (m : ℕ). m * bytes) g.value ∙ sym formed.filled;
      labels = cells.0;
      targets = cells.1;
    }

pub sheet_refused : (file : List ℕ) {l t l' t' : List ℕ} {r : Result (ℕ × ℕ) Refusal} {q : Refusal} → LaysTable (read_sheet file) l t l' t' r
    → taken r ≡ refused q → read_sheet file ≡ refused q
sheet_refused file {q = q} m e = mapped_refused (read_sheet file) (λ (t : Table). t.count) q (sym m.answer ∙ e)
