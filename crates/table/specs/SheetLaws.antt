-- Reading and writing a sheet undo each other: what is written of a formed table is read back, and what is read was written so.
-- Both ways go reader by reader, over the bytes that stand between two places of the file.
use Prim.Native.Nat.{ℕ, zero, suc, ◌+◌, ◌-◌, ◌*◌, ◌≤◌, ◌<◌}
use Rattle.std.proofs.Common.{arith, sym, ◌∙◌, take-append-drop, drop_of_length-le, length-take-le}
use Rattle.std.specs.Prelude.{◌≡◌, refl, Bool, true, false, cond, ltb, eqb}
use Rattle.std.proofs.Math.Path.{ap}
use mathlib.Core.List.{List, [], ◌∷◌, ◌++◌, append_assoc, append-nil}
use borrow.Author.Tests.{le-ltb, ne_eqb, ltb-false, eqb-false}
use Rattle.std.proofs.Math.ListN.{length, take, drop, replicate, length-append, length-drop}
use Rattle.std.proofs.Math.Seq.{take_at, drop_at, drop-length}
use Rattle.number.specs.declared.Refusal.{Refusal}
use Rattle.number.specs.Limits.{three_groups, sheet_version, rules, states, bytes}
use Rattle.number.specs.Refused.{Answer}
use Rattle.number.specs.Refused.Answer.{got, refused}
use Rattle.number.specs.Numbers.{Bytes, field, write_number, NumberAt, FieldAt}
use Rattle.number.specs.Reading.{Reader, onward}
use Rattle.number.specs.Lists.{drop_past}
use Rattle.number.proofs.NumberLaws.{written_read, field_written, field_read}
use Rattle.table.specs.Table.{Table}
use Rattle.table.specs.Sheet.{Rows, Run, read_runs, more_runs, read_states, more_states, sheet, read_sheet}
use Rattle.table.specs.Sheet.{runs_of, write_runs, write_row, write_states, write_sheet}
use Rattle.table.specs.Formed.{Formed, expanded, covered, TurnsFrom, Proper, Below}
use Rattle.table.specs.SheetFormed.{Each, each_none, each_cons, each_tail, each_append, each_take, each_drop}
use Rattle.table.specs.SheetRuns.{runs_expanded, runs_proper, runs_count, runs_covered, runs_below}
use Rattle.table.specs.SheetRuns.{below_turns, below_expanded, covered_expanded, expanded_runs}

-- ---- steps of a reader

-- a refusal is not an answer
pub clash : {A : Type 0} {r : Refusal} {x : A} {next : ℕ} → ◌≡◌ {A = Answer A} (refused r) (got x next) → ⊥
clash e = let z : ◌≡◌ {A = ℕ} 0 1 = cc in omega arith

-- an answer past a step says that the step was answered, and what the rest made of it
pub got_onward : {A B C : Type 0} (x : Answer A) {f : A → Reader B} {b : B} {next : ℕ} → onward x f ≡ got b next
    → ((a : A) (mid : ℕ) → x ≡ got a mid → f a mid ≡ got b next → C) → C
got_onward (got a mid) e k = k a mid refl e
got_onward (refused r) e k = absurd (clash e)

-- an answer past a test says that the test did not refuse
pub got_past : {B C : Type 0} (test : Bool) (r : Refusal) (at : ℕ) (f : Unit {0} → Reader B) {b : B} {next : ℕ}
    → onward (cond test (refused r) (got tt at)) f ≡ got b next → (test ≡ false → f tt at ≡ got b next → C) → C
got_past true r at f e k = absurd (clash e)
got_past false r at f e k = k refl e

-- runs that cover something are some; a list without length has nothing in it
some_run : (rs : List Run) → 1 ≤ covered rs → 1 ≤ length rs
unfolding covered
some_run [] h = absurd (omega arith)
some_run (r ∷ rs) h = omega arith

no_more : (xs : List ℕ) → length xs ≡ 0 → xs ≡ []
no_more [] e = refl
no_more (x ∷ xs) e = absurd (omega arith)

-- ---- bytes between two places

-- the bytes w stand in the file from one place to the next: what every reader goes over, and every writer leaves
pub record Stands (file : List ℕ) (at : ℕ) (w : List ℕ) (next : ℕ) : Type 0 where
  pub here : drop at file ≡ w ++ drop next file
  pub after : next ≡ at + length w

module _ (file : List ℕ) where
  pub stands_none : (at : ℕ) → Stands file at [] at
  stands_none at = record { here = refl; after = omega arith }

  -- one after another, and taken apart again
  pub stands_both : (at mid next : ℕ) (v w : List ℕ) → Stands file at v mid → Stands file mid w next → Stands file at (v ++ w) next
  stands_both at mid next v w p q =
      record {
        here = p.here ∙ ap (λ (t : List ℕ). v ++ t) q.here ∙ sym (append_assoc v w (drop next file));
        after = omega (arith, p.after, q.after, length-append v w);
      }

  pub stands_back : (at next : ℕ) (v w : List ℕ) → Stands file at (v ++ w) next → Stands file (at + length v) w next
  stands_back at next v w p =
      record {
        here = drop_past file at v (w ++ drop next file) (p.here ∙ append_assoc v w (drop next file));
        after = omega (arith, p.after, length-append v w);
      }

  pub stands_front : (at next : ℕ) (v w : List ℕ) → Stands file at (v ++ w) next → Stands file at v (at + length v)
  stands_front at next v w p =
      record {
        here = p.here ∙ append_assoc v w (drop next file) ∙ ap (λ (t : List ℕ). v ++ t) (sym (stands_back at next v w p).here);
        after = refl;
      }

  -- what stands from the start to the end is the file
  stands_whole : (next : ℕ) (w : List ℕ) → Stands file 0 w next → length file ≤ next → (w ≡ file) × (next ≡ length file)
  stands_whole next w p ends =
      let same : w ≡ file =
      sym (append-nil w) ∙ ap (λ (t : List ℕ). w ++ t) (sym (drop_of_length-le file ends)) ∙ sym p.here in
      (same, omega (arith, p.after, ap length same))

  -- ---- what was written is read

  -- each reader takes what its writer wrote, up to the place after it
  pub field_stands : (n lo hi at next : ℕ) → n < three_groups → lo ≤ n → n ≤ hi → Stands file at (write_number n) next
      → field file lo hi at ≡ got n next
  field_stands n lo hi at next small low high p =
      rw p.after (field_written n file lo hi at (drop next file) small low high p.here)

  -- with `sum` bytes covered before and the target `last` before them, as the reader has it
  runs_stand : (s : ℕ) (rs : List Run) (sum last at next : ℕ) → s ≤ states → Proper rs → TurnsFrom last rs → Below s rs
      → sum + covered rs ≡ bytes → Stands file at (write_runs rs) next
      → more_runs file s (length rs) sum last at ≡ got (expanded rs) next
  unfolding more_runs write_runs expanded covered
  runs_stand s [] sum last at next most proper turns below whole p =
      let place : next ≡ at = omega (arith, p.after) in
      rw place (simp (le-ltb sum bytes (omega arith)))
  runs_stand s (r ∷ rs) sum last at next most proper turns below whole p =
      let v : List ℕ = write_number r.len in
      let w : List ℕ = write_number r.target in
      let mid : ℕ = at + length v in
      let q : Stands file mid (w ++ write_runs rs) next = stands_back at next v (w ++ write_runs rs) p in
      let read_len : field file 1 bytes at ≡ got r.len mid =
      field_stands r.len 1 bytes at mid (omega arith) proper.0 (omega arith) (stands_front at next v (w ++ write_runs rs) p) in
      let read_target : field file 0 (s - 1) mid ≡ got r.target (mid + length w) =
      field_stands r.target 0 (s - 1) mid (mid + length w) (omega (arith, below.0)) (omega arith) (omega (arith, below.0))
      (stands_front mid next w (write_runs rs) q) in
      let read_rest : more_runs file s (length rs) (sum + r.len) r.target (mid + length w) ≡ got (expanded rs) next =
      runs_stand s rs (sum + r.len) r.target (mid + length w) next most proper.2 proper.1 below.1 (omega arith)
      (stands_back mid next w (write_runs rs) q) in
      simp (read_len, le-ltb bytes (sum + r.len) (omega arith), read_target, ne_eqb r.target last turns, read_rest)

  pub row_stands : (s : ℕ) (row : List ℕ) (at next : ℕ) → s ≤ states → length row ≡ bytes → Each (λ t. t < s) row
      → Stands file at (write_row row) next
      → let m : ℕ = length (runs_of row) in let mid : ℕ = at + length (write_number m) in
      (field file 1 bytes at ≡ got m mid) × (read_runs file s m mid ≡ got row next)
  unfolding write_row
  row_stands s row at next most full target p =
      let m : ℕ = length (runs_of row) in
      let v : List ℕ = write_number m in
      let w : List ℕ = write_runs (runs_of row) in
      let whole : covered (runs_of row) ≡ bytes = runs_covered row ∙ full in
      let below : Below s (runs_of row) = runs_below s row target in
      let some : 1 ≤ m = some_run (runs_of row) (omega arith) in (
        field_stands m 1 bytes at (at + length v) (omega (arith, runs_count row)) some (omega (arith, runs_count row))
            (stands_front at next v w p),
        rw (runs_expanded row) at
            (runs_stand s (runs_of row) 0 s (at + length v) next most (runs_proper row) (below_turns s (runs_of row) below) below (omega arith)
            (stands_back at next v w p)),
      )

  pub states_stand : (s : ℕ) (labels targets : List ℕ) (at next : ℕ) → s ≤ states → length targets ≡ length labels * bytes
      → Each (λ l. l ≤ rules) labels → Each (λ t. t < s) targets → Stands file at (write_states labels targets) next
      → more_states file s (length labels) at ≡ got (record { labels = labels; targets = targets }) next
  unfolding more_states write_states
  states_stand s [] targets at next most full label target p =
      let place : next ≡ at = omega (arith, p.after) in
      let none : targets ≡ [] = no_more targets (omega arith) in
      rw (place, none)
  states_stand s (l ∷ ls) targets at next most full label target p =
      let row : List ℕ = take bytes targets in
      let more : List ℕ = drop bytes targets in
      let u : List ℕ = write_number l in
      let v : List ℕ = write_row row in
      let w : List ℕ = write_states ls more in
      let mid : ℕ = at + length u in
      let q : Stands file mid (v ++ w) next = stands_back at next u (v ++ w) p in
      let read_label : field file 0 rules at ≡ got l mid =
      field_stands l 0 rules at mid (omega (arith, label 0 (omega arith))) (omega arith) (label 0 (omega arith))
      (stands_front at next u (v ++ w) p) in
      let read_row = row_stands s row mid (mid + length v) most (length-take-le bytes targets (omega arith))
      (each_take (λ t. t < s) bytes targets target) (stands_front mid next v w q) in
      let read_rest : more_states file s (length ls) (mid + length v) ≡ got (record { labels = ls; targets = more }) next =
      states_stand s ls more (mid + length v) next most (omega (arith, length-drop bytes targets))
      (each_tail (λ x. x ≤ rules) l ls label) (each_drop (λ t. t < s) bytes targets target) (stands_back mid next v w q) in
      simp (read_label, read_row.0, read_row.1, read_rest, take-append-drop)

  sheet_stands : (t : Table) (next : ℕ) → Formed t → length file ≤ next → Stands file 0 (write_sheet t) next → read_sheet file ≡ got t next
  unfolding sheet write_sheet
  sheet_stands t next f ends p =
      let u : List ℕ = write_number sheet_version in
      let v : List ℕ = write_number t.count in
      let w : List ℕ = write_states t.labels t.targets in
      let mid : ℕ = 0 + length u in
      let q : Stands file mid (v ++ w) next = stands_back 0 next u (v ++ w) p in
      let read_version : field file sheet_version sheet_version 0 ≡ got sheet_version mid =
      field_stands sheet_version sheet_version sheet_version 0 mid (omega arith) (omega arith) (omega arith) (stands_front 0 next u (v ++ w) p) in
      let read_count : field file 1 states mid ≡ got t.count (mid + length v) =
      field_stands t.count 1 states mid (mid + length v) (omega (arith, f.most)) f.some f.most (stands_front mid next v w q) in
      let rows = states_stand t.count t.labels t.targets (mid + length v) next f.most
      (f.filled ∙ ap (λ (n : ℕ). n * bytes) (sym f.labelled)) f.label f.target (stands_back mid next v w q) in
      let read_rows : read_states file t.count (mid + length v) ≡ got (record { labels = t.labels; targets = t.targets }) next =
      rw f.labelled at rows in
      simp (read_version, read_count, read_rows, le-ltb next (length file) ends)

-- write, then read: a formed table is read back from its bytes, all of them
pub sheet_read_back : (t : Table) → Formed t → read_sheet (write_sheet t) ≡ got t (length (write_sheet t))
sheet_read_back t f =
    let file : List ℕ = write_sheet t in
    sheet_stands file t (length file) f (omega arith)
    (record { here = sym (append-nil file) ∙ ap (λ (r : List ℕ). file ++ r) (sym (drop-length file)); after = omega arith })

-- ---- what is read was written

-- what a file that was read is: the bytes of a formed table, all of them
pub record SheetRead (file : List ℕ) (t : Table) (after : ℕ) : Type 0 where
  pub formed : Formed t
  pub written : write_sheet t ≡ file
  pub ended : after ≡ length file

module _ (file : List ℕ) where
  -- a field that was read
  pub record FieldRead (lo hi at n next : ℕ) : Type 0 where
    pub low : lo ≤ n
    pub high : n ≤ hi
    pub stands : Stands file at (write_number n) next

  -- the runs that a row was read from
  record RunsRead (s k sum last at : ℕ) (row : List ℕ) (next : ℕ) : Type 0 where
    runs : List Run
    count : length runs ≡ k
    proper : Proper runs
    turns : TurnsFrom last runs
    below : Below s runs
    whole : sum + covered runs ≡ bytes
    stands_for : row ≡ expanded runs
    stands : Stands file at (write_runs runs) next

  -- the row of a state, from its number of runs on
  pub record RowRead (s at : ℕ) (row : List ℕ) (next : ℕ) : Type 0 where
    pub full : length row ≡ bytes
    pub target : Each (λ t. t < s) row
    pub stands : Stands file at (write_row row) next

  -- the states that were read
  pub record StatesRead (s k at : ℕ) (rows : Rows) (next : ℕ) : Type 0 where
    pub labelled : length rows.labels ≡ k
    pub filled : length rows.targets ≡ k * bytes
    pub label : Each (λ l. l ≤ rules) rows.labels
    pub target : Each (λ t. t < s) rows.targets
    pub stands : Stands file at (write_states rows.labels rows.targets) next

module _ (file : List ℕ) (all : Bytes file) where
  pub field_back : (lo hi at n next : ℕ) → field file lo hi at ≡ got n next → FieldRead file lo hi at n next
  field_back lo hi at n next e =
      let told : FieldAt file lo hi at n next = field_read file lo hi at n next e in
      let number : NumberAt file at n next = written_read file at n next all told.read in
      record { low = told.low; high = told.high; stands = record { here = number.stands; after = number.after } }

  -- the reader's tests make the runs proper, and its last one says that they cover the row
  runs_back : (s k sum last at : ℕ) (row : List ℕ) (next : ℕ) → 1 ≤ s → sum ≤ bytes
      → more_runs file s k sum last at ≡ got row next → RunsRead file s k sum last at row next
  unfolding more_runs write_runs expanded covered
  runs_back s zero sum last at row next some room e =
      got_past (ltb sum bytes) _ at _ e λ enough done.
      let place : at ≡ next = cc in
      let none : row ≡ [] = cc in
      record {
        runs = [];
        count = refl;
        proper = tt;
        turns = tt;
        below = tt;
        whole = omega (arith, ltb-false sum bytes enough);
        stands_for = none;
        stands = rw place (stands_none file next);
      }
  runs_back s (suc k) sum last at row next some room e =
      got_onward (field file 1 bytes at) e λ len mid read_len e₁.
      got_past (ltb bytes (sum + len)) _ mid _ e₁ λ fits e₂.
      got_onward (field file 0 (s - 1) mid) e₂ λ target far read_target e₃.
      got_past (eqb target last) _ far _ e₃ λ other e₄.
      got_onward (more_runs file s k (sum + len) target far) e₄ λ rest end read_rest done.
      let place : end ≡ next = cc in
      let whole_row : row ≡ replicate len target ++ rest = cc in
      let len-told : FieldRead file 1 bytes at len mid = field_back 1 bytes at len mid read_len in
      let target_told : FieldRead file 0 (s - 1) mid target far = field_back 0 (s - 1) mid target far read_target in
      let told : RunsRead file s k (sum + len) target far rest next =
      runs_back s k (sum + len) target far rest next some (ltb-false _ _ fits) (rw place at read_rest) in
      record {
        runs = record { len = len; target = target } ∷ told.runs;
        count = ap suc told.count;
        proper = (len-told.low, told.turns, told.proper);
        turns = eqb-false _ _ other;
        below = (omega (arith, target_told.high), told.below);
        whole = omega (arith, told.whole);
        stands_for = whole_row ∙ ap (λ (r : List ℕ). replicate len target ++ r) told.stands_for;
        stands = stands_both file at mid next _ _ len-told.stands (stands_both file mid far next _ _ target_told.stands told.stands);
      }

  -- proper runs are the runs that would be written
  pub row_back : (s at m mid : ℕ) (row : List ℕ) (next : ℕ) → 1 ≤ s → field file 1 bytes at ≡ got m mid
      → read_runs file s m mid ≡ got row next → RowRead file s at row next
  unfolding write_row
  row_back s at m mid row next some read_count read_row =
      let told : RunsRead file s m 0 s mid row next = runs_back s m 0 s mid row next some (omega arith) read_row in
      let number : FieldRead file 1 bytes at m mid = field_back 1 bytes at m mid read_count in
      let same : runs_of row ≡ told.runs = ap runs_of told.stands_for ∙ expanded_runs told.runs told.proper in
      record {
        full = ap length told.stands_for ∙ covered_expanded told.runs ∙ omega (arith, told.whole);
        target = rw told.stands_for (below_expanded s told.runs told.below);
        stands = rw (same, told.count) (stands_both file at mid next _ _ number.stands told.stands);
      }

  pub states_back : (s k at : ℕ) (rows : Rows) (next : ℕ) → 1 ≤ s → more_states file s k at ≡ got rows next → StatesRead file s k at rows next
  unfolding more_states write_states
  states_back s zero at rows next some e =
      let place : at ≡ next = cc in
      let none : rows ≡ record { labels = []; targets = [] } = cc in
      rw (none, place)
      (record {
        labelled = refl;
        filled = omega arith;
        label = each_none (λ l. l ≤ rules);
        target = each_none (λ t. t < s);
        stands = stands_none file next;
      })
  states_back s (suc k) at rows next some e =
      got_onward (field file 0 rules at) e λ l mid read_label e₁.
      got_onward (field file 1 bytes mid) e₁ λ m far read_count e₂.
      got_onward (read_runs file s m far) e₂ λ row then read_row e₃.
      got_onward (more_states file s k then) e₃ λ rest end read_rest done.
      let place : end ≡ next = cc in
      let whole : rows ≡ record { labels = l ∷ rest.labels; targets = row ++ rest.targets } = cc in
      let label-told : FieldRead file 0 rules at l mid = field_back 0 rules at l mid read_label in
      let row_told : RowRead file s mid row then = row_back s mid m far row then some read_count read_row in
      let told : StatesRead file s k then rest next = states_back s k then rest next some (rw place at read_rest) in
      let front : take bytes (row ++ rest.targets) ≡ row = take_at row rest.targets bytes row_told.full in
      let back : drop bytes (row ++ rest.targets) ≡ rest.targets = drop_at row rest.targets bytes row_told.full in
      rw whole
      (record {
        labelled = ap suc told.labelled;
        filled = omega (arith, length-append row rest.targets, row_told.full, told.filled);
        label = each_cons (λ x. x ≤ rules) l rest.labels label-told.high told.label;
        target = each_append (λ t. t < s) row rest.targets row_told.target told.target;
        stands = rw (front, back)
            (stands_both file at mid next _ _ label-told.stands (stands_both file mid then next _ _ row_told.stands told.stands));
      })

  -- read, then write: the same bytes
  pub sheet_back : (t : Table) (after : ℕ) → read_sheet file ≡ got t after → SheetRead file t after
  unfolding sheet write_sheet
  sheet_back t after e =
      got_onward (field file sheet_version sheet_version 0) e λ v mid read_version e₁.
      got_onward (field file 1 states mid) e₁ λ s far read_count e₂.
      got_onward (read_states file s far) e₂ λ rows then read_rows e₃.
      got_past (ltb then (length file)) _ then _ e₃ λ ends done.
      let place : then ≡ after = cc in
      let whole : t ≡ record { count = s; labels = rows.labels; targets = rows.targets } = cc in
      let version-told : FieldRead file sheet_version sheet_version 0 v mid = field_back sheet_version sheet_version 0 v mid read_version in
      let count-told : FieldRead file 1 states mid s far = field_back 1 states mid s far read_count in
      let told : StatesRead file s s far rows then = states_back s s far rows then count-told.low read_rows in
      let one : v ≡ sheet_version = omega (arith, version-told.low, version-told.high) in
      let all-of-it = stands_whole file then _
      (stands_both file 0 mid then _ _ (rw one at version-told.stands)
      (stands_both file mid far then _ _ count-told.stands told.stands))
      (ltb-false _ _ ends) in
      rw (whole, ← place)
      (record {
        formed = record {
          some = count-told.low;
          most = count-told.high;
          labelled = told.labelled;
          filled = told.filled;
          label = told.label;
          target = told.target;
        };
        written = all-of-it.0;
        ended = all-of-it.1;
      })
