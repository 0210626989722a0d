-- The reader refuses a file exactly where Faults says that it is faulty, and by that refusal.
-- One way goes with the reader to where it stops; the other goes over a beginning as the reader does, to what is due behind it.
use Prim.Native.Nat.{ℕ, zero, suc, ◌+◌, ◌-◌, ◌*◌, ◌≤◌, ◌<◌}
use native.Mathlib.Omega.{arith}
use Rattle.std.specs.Prelude.{◌≡◌, Bool, false, cond, ◌↔◌, ltb, get_or}
use Rattle.std.proofs.Math.Path.{refl, sym, ap}
use Rattle.std.proofs.Common.{◌∙◌, take-append-drop, take_at, drop_at, length-take-le}
use Rattle.std.proofs.Math.Bool.{true}
use mathlib.Core.List.{List, [], ◌∷◌, ◌++◌, append_assoc, append-nil}
use borrow.Author.Tests.{lt-ltb, le-ltb, eq-eqb, ne_eqb, ltb-true, ltb-false, eqb-true, eqb-false}
use Rattle.std.proofs.Math.Dec.{eqb}
use Rattle.std.proofs.Math.ListN.{length, take, drop, length-append, length-drop}
use Rattle.std.proofs.lemmas.List.{take-append-le}
use Rattle.std.proofs.Math.Seq.{drop-append_seam}
use Rattle.number.specs.declared.Refusal.{Refusal}
use Rattle.number.specs.declared.Refusal.TheVariants.{Tail, Runs}
use Rattle.number.specs.Limits.{sheet_version, rules, states, bytes}
use Rattle.number.specs.Refused.{Answer}
use Rattle.number.specs.Refused.Answer.{got, refused}
use Rattle.number.specs.Numbers.{Bytes, field, write_number}
use Rattle.number.specs.Reading.{Reader, onward}
use Rattle.number.specs.Lists.{drop_one}
use Rattle.number.proofs.FaultLaws.{refused_field, field_fault}
use Rattle.table.specs.Table.{Table}
use Rattle.table.specs.Sheet.{Run, read_runs, more_runs, read_states, more_states, sheet, read_sheet}
use Rattle.table.specs.Sheet.{write_runs, write_row, write_states, write_sheet}
use Rattle.table.specs.Formed.{covered, TurnsFrom, Proper, Below}
use Rattle.table.specs.Faults.{Begun, InState, state_bytes, Due, Fault}
use Rattle.table.specs.Faults.Due.{due_version, due_count, due_label, due_runs, due_length, due_target}
use Rattle.table.specs.Faults.Fault.{number, passes, equal, low, tail}
use Rattle.table.specs.SheetFormed.{Each, each_none, each_cons, each_tail, each_append, each_take, each_drop}
use Rattle.table.specs.SheetRuns.{below_turns}
use Rattle.table.specs.SheetLaws.{clash, Stands, stands_none, stands_both, stands_back, stands_front, field_stands, row_stands, states_stand}
use Rattle.table.proofs.SheetReaders.{sheet_no_version, sheet_no_count, sheet_no_states, sheet_tail}
use Rattle.table.specs.SheetLaws.{FieldRead, RowRead, StatesRead, field_back, row_back, states_back}

-- ---- a run more behind runs

-- the target of the last run, or s, which is none
unfoldable last_of : ℕ → List Run → ℕ
last_of s [] = s
last_of s (r ∷ rs) = last_of r.target rs

last_is : (s : ℕ) (front : List Run) (q : Run) → last_of s (front ++ (q ∷ [])) ≡ q.target
unfolding last_of
last_is s [] q = refl
last_is s (r ∷ front) q = last_is r.target front q

data Ending : List Run → Type 0 where
  none : Ending []
  ended : (front : List Run) (q : Run) → Ending (front ++ (q ∷ []))

ending : (rs : List Run) → Ending rs
ending [] = none
ending (r ∷ rs) = go (ending rs)
  where
    go : {qs : List Run} → Ending qs → Ending (r ∷ qs)
    go none = ended [] r
    go (ended front q) = ended (r ∷ front) q

module _ (x : Run) where
  turns_more : (s : ℕ) (rs : List Run) → TurnsFrom s rs → (x.target ≡ last_of s rs → ⊥) → TurnsFrom s (rs ++ (x ∷ []))
  unfolding last_of
  turns_more s [] n other = other
  turns_more s (r ∷ rs) n other = n

  proper_more : (s : ℕ) (rs : List Run) → Proper rs → 1 ≤ x.len → (x.target ≡ last_of s rs → ⊥) → Proper (rs ++ (x ∷ []))
  unfolding last_of
  proper_more s [] p some other = (some, tt, tt)
  proper_more s (r ∷ rs) p some other =
      (p.0, turns_more r.target rs p.1 other, proper_more r.target rs p.2 some other)

  below_more : (s : ℕ) (rs : List Run) → Below s rs → x.target < s → Below s (rs ++ (x ∷ []))
  below_more s [] b h = (h, tt)
  below_more s (r ∷ rs) b h = (b.0, below_more s rs b.1 h)

  below_last : (s : ℕ) (rs : List Run) → Below s (rs ++ (x ∷ [])) → x.target < s
  below_last s [] b = b.0
  below_last s (r ∷ rs) b = below_last s rs b.1

  covered_more : (rs : List Run) → covered (rs ++ (x ∷ [])) ≡ covered rs + x.len
  unfolding covered
  covered_more [] = omega arith
  covered_more (r ∷ rs) = omega (arith, covered_more rs)

  runs_more : (rs : List Run) → write_runs (rs ++ (x ∷ [])) ≡ write_runs rs ++ (write_number x.len ++ write_number x.target)
  unfolding write_runs
  runs_more [] = ap (λ (w : List ℕ). write_number x.len ++ w) (append-nil (write_number x.target))
  runs_more (r ∷ rs) =
      ap (λ (w : List ℕ). write_number r.len ++ (write_number r.target ++ w)) (runs_more rs)
      ∙ ap (λ (w : List ℕ). write_number r.len ++ w) (sym (append_assoc (write_number r.target) (write_runs rs) _))
      ∙ sym (append_assoc (write_number r.len) (write_number r.target ++ write_runs rs) _)

-- ---- a state more behind states

states_more : (labels targets : List ℕ) (l : ℕ) (row : List ℕ) → length targets ≡ length labels * bytes → length row ≡ bytes
    → write_states (labels ++ (l ∷ [])) (targets ++ row) ≡ write_states labels targets ++ (write_number l ++ write_row row)
unfolding write_states
states_more [] [] l row full size =
    let all : take bytes row ≡ row = take_whole row size in
    rw (all, append-nil)
  where
    take_whole : (xs : List ℕ) → length xs ≡ bytes → take bytes xs ≡ xs
    take_whole xs e = rw (append-nil) at (take_at xs [] bytes e)
states_more [] (t ∷ ts) l row full size = absurd (omega arith)
states_more (x ∷ xs) targets l row full size =
    let first : List ℕ = take bytes targets in
    let more : List ℕ = drop bytes targets in
    let w : List ℕ = write_number l ++ write_row row in
    let front : take bytes (targets ++ row) ≡ first = take-append-le bytes targets row (omega arith) in
    let back : drop bytes (targets ++ row) ≡ more ++ row =
    ap (λ (ts : List ℕ). drop bytes (ts ++ row)) (sym (take-append-drop bytes targets))
    ∙ ap (drop bytes) (append_assoc first more row)
    ∙ drop_at first (more ++ row) bytes (length-take-le bytes targets (omega arith)) in
    rw (front, back, states_more xs more l row (omega (arith, length-drop bytes targets)) size)
    (ap (λ (v : List ℕ). write_number x ++ v) (sym (append_assoc (write_row first) (write_states xs more) w))
    ∙ sym (append_assoc (write_number x) (write_row first ++ write_states xs more) w))

sheet_more : (s : ℕ) (labels targets : List ℕ) (l : ℕ) (row : List ℕ) → length targets ≡ length labels * bytes → length row ≡ bytes
    → write_sheet (record { count = s; labels = labels; targets = targets }) ++ write_number l ++ write_row row
    ≡ write_sheet (record { count = s; labels = labels ++ (l ∷ []); targets = targets ++ row })
unfolding write_sheet
sheet_more s labels targets l row full size =
    let u : List ℕ = write_number sheet_version in
    let v : List ℕ = write_number s in
    let w : List ℕ = write_states labels targets in
    let x : List ℕ = write_number l ++ write_row row in
    append_assoc (u ++ (v ++ w)) (write_number l) (write_row row)
    ∙ append_assoc u (v ++ w) x
    ∙ ap (λ (z : List ℕ). u ++ z) (append_assoc v w x)
    ∙ ap (λ (z : List ℕ). u ++ (v ++ z)) (sym (states_more labels targets l row full size))

-- ---- where the reader stops

-- a refusal past a step is the step's, or the rest made it of what was got
refused_onward : {A B C : Type 0} (x : Answer A) {f : A → Reader B} {r : Refusal} → onward x f ≡ refused r → (x ≡ refused r → C)
    → ((a : A) (mid : ℕ) → x ≡ got a mid → f a mid ≡ refused r → C) → C
refused_onward (got a mid) e stop on = on a mid refl e
refused_onward (refused q) {r = r} e stop on =
    let same : q ≡ r = cc in
    stop (ap refused same)

refused_past : {B C : Type 0} (test : Bool) (q : Refusal) (at : ℕ) (f : Unit {0} → Reader B) {r : Refusal}
    → onward (cond test (refused q) (got tt at)) f ≡ refused r → (test ≡ true → r ≡ q → C) → (test ≡ false → f tt at ≡ refused r → C) → C
refused_past true q at f {r} e stop on =
    let same : q ≡ r = cc in
    stop refl (sym same)
refused_past false q at f e stop on = on refl e

module _ (file : List ℕ) (all : Bytes file) where
  number_fault : (w : List ℕ) (lo hi at : ℕ) (r : Refusal) → Due w lo hi → Stands file 0 w at → field file lo hi at ≡ refused r → Fault file r
  number_fault w lo hi at r due p e =
      let place : at ≡ length w = omega (arith, p.after) in
      number w (drop at file) lo hi due p.here (refused_field file lo hi (length w) r all (ap (field file lo hi) (sym place) ∙ e))

state_more : (t : Table) (l m : ℕ) (rs : List Run) (x : Run) → InState t l m rs → 1 ≤ x.len → covered rs + x.len ≤ bytes
    → x.target < t.count → (x.target ≡ last_of t.count rs → ⊥) → InState t l m (rs ++ (x ∷ []))
state_more t l m rs x i some room h other =
    record {
      begun = i.begun;
      label = i.label;
      some = i.some;
      most = i.most;
      proper = proper_more x t.count rs i.proper some other;
      below = below_more x t.count rs i.below h;
      fits = omega (arith, covered_more x rs);
    }

bytes_more : (t : Table) (l m : ℕ) (rs : List Run) (x : Run)
    → state_bytes t l m rs ++ write_number x.len ++ write_number x.target ≡ state_bytes t l m (rs ++ (x ∷ []))
bytes_more t l m rs x =
    let head : List ℕ = write_sheet t ++ write_number l ++ write_number m in
    append_assoc (head ++ write_runs rs) (write_number x.len) (write_number x.target)
    ∙ append_assoc head (write_runs rs) (write_number x.len ++ write_number x.target)
    ∙ ap (λ (w : List ℕ). head ++ w) (sym (runs_more x rs))

module _ (file : List ℕ) (all : Bytes file) (t : Table) (l m : ℕ) where
  equal_fault : (rs : List Run) (len at mid far : ℕ) (r : Refusal) → Ending rs → InState t l m rs → length rs < m → 1 ≤ len
      → covered rs + len ≤ bytes → last_of t.count rs < t.count → Stands file 0 (state_bytes t l m rs) at
      → Stands file at (write_number len) mid → Stands file mid (write_number (last_of t.count rs)) far → r ≡ Runs mid → Fault file r
  unfolding last_of
  equal_fault _ len at mid far r none i less some room h p v w same = absurd (omega arith)
  equal_fault _ len at mid far r (ended front q) i less some room h p v w same =
      let both : Stands file 0 (state_bytes t l m (front ++ (q ∷ [])) ++ write_number len) mid = stands_both file 0 at mid _ _ p v in
      let is : last_of t.count (front ++ (q ∷ [])) ≡ q.target = last_is t.count front q in
      let whole = stands_both file 0 mid far _ _ both (rw is at w) in
      equal t l m front q len (drop far file) i less some room whole.here
      (same ∙ ap Runs (omega (arith, both.after)))

  runs_fault : (rs : List Run) (k sum last at : ℕ) (r : Refusal) → InState t l m rs → length rs + k ≡ m
      → sum ≡ covered rs → last ≡ last_of t.count rs → Stands file 0 (state_bytes t l m rs) at
      → more_runs file t.count k sum last at ≡ refused r → Fault file r
  unfolding more_runs
  runs_fault rs zero sum last at r i size total end p e =
      refused_past (ltb sum bytes) (Runs at) at _ e
      (λ less same. low t l m rs (drop at file) i (omega arith) (omega (arith, ltb-true sum bytes less)) p.here
      (same ∙ ap Runs (omega (arith, p.after))))
      (λ enough done. absurd (clash (sym done)))
  runs_fault rs (suc k) sum last at r i size total end p e =
      let s : ℕ = t.count in
      let less : length rs < m = omega arith in
      refused_onward (field file 1 bytes at) e
      (λ stop. number_fault file all _ 1 bytes at r (due_length t l m rs i less) p stop)
      λ len mid read_len e₁.
      let len-told : FieldRead file 1 bytes at len mid = field_back file all 1 bytes at len mid read_len in
      let both : Stands file 0 (state_bytes t l m rs ++ write_number len) mid = stands_both file 0 at mid _ _ p len-told.stands in
      refused_past (ltb bytes (sum + len)) (Runs at) mid _ e₁
      (λ over same. passes t l m rs len (drop mid file) i less len-told.high (omega (arith, ltb-true bytes (sum + len) over)) both.here
      (same ∙ ap Runs (omega (arith, p.after))))
      λ within e₂.
      let room : covered rs + len ≤ bytes = omega (arith, ltb-false bytes (sum + len) within) in
      refused_onward (field file 0 (s - 1) mid) e₂
      (λ stop. number_fault file all _ 0 (s - 1) mid r (due_target t l m rs len i less len-told.low room) both stop)
      λ target far read_target e₃.
      let target_told : FieldRead file 0 (s - 1) mid target far = field_back file all 0 (s - 1) mid target far read_target in
      let small : target < s = omega (arith, target_told.high, i.begun.some) in
      refused_past (eqb target last) (Runs mid) far _ e₃
      (λ same q.
      let is : target ≡ last_of s rs = eqb-true target last same ∙ end in
      equal_fault rs len at mid far r (ending rs) i less len-told.low room (rw is at small) p len-told.stands
      (rw is at target_told.stands) q)
      λ other e₄.
      let run : Run = record { len = len; target = target } in
      refused_onward (more_runs file s k (sum + len) target far) e₄
      (λ stop. runs_fault (rs ++ (run ∷ [])) k (sum + len) target far r
      (state_more t l m rs run i len-told.low room small (λ same. eqb-false target last other (same ∙ sym end)))
      (omega (arith, length-append rs (run ∷ [])))
      (omega (arith, covered_more run rs))
      (sym (last_is s rs run))
      (rw (bytes_more t l m rs run) at (stands_both file 0 mid far _ _ both target_told.stands))
      stop)
      (λ rest after read_rest done. absurd (clash (sym done)))

module _ (file : List ℕ) (all : Bytes file) (s : ℕ) (some : 1 ≤ s) (most : s ≤ states) where
  states_fault : (k : ℕ) (labels targets : List ℕ) (at : ℕ) (r : Refusal) → length labels + k ≡ s
      → length targets ≡ length labels * bytes → Each (λ l. l ≤ rules) labels → Each (λ t. t < s) targets
      → Stands file 0 (write_sheet (record { count = s; labels = labels; targets = targets })) at
      → more_states file s k at ≡ refused r → Fault file r
  unfolding more_states write_sheet write_runs covered last_of
  states_fault zero labels targets at r size full label target p e = absurd (clash (sym e))
  states_fault (suc k) labels targets at r size full label target p e =
      let t : Table = record { count = s; labels = labels; targets = targets } in
      let begun : Begun t =
      record { some = some; most = most; labelled = omega arith; filled = full; label = label; target = target } in
      refused_onward (field file 0 rules at) e
      (λ stop. number_fault file all _ 0 rules at r (due_label t begun) p stop)
      λ l mid read_label e₁.
      let label-told : FieldRead file 0 rules at l mid = field_back file all 0 rules at l mid read_label in
      let labelled : Stands file 0 (write_sheet t ++ write_number l) mid = stands_both file 0 at mid _ _ p label-told.stands in
      refused_onward (field file 1 bytes mid) e₁
      (λ stop. number_fault file all _ 1 bytes mid r (due_runs t l begun label-told.high) labelled stop)
      λ m far read_count e₂.
      let count-told : FieldRead file 1 bytes mid m far = field_back file all 1 bytes mid m far read_count in
      let none : InState t l m [] =
      record {
        begun = begun;
        label = label-told.high;
        some = count-told.low;
        most = count-told.high;
        proper = tt;
        below = tt;
        fits = omega arith;
      } in
      refused_onward (read_runs file s m far) e₂
      (λ stop. runs_fault file all t l m [] m 0 s far r none (omega arith) refl refl
      (stands_both file 0 far far _ _ (stands_both file 0 mid far _ _ labelled count-told.stands) (stands_none file far)) stop)
      λ row then read_row e₃.
      let row_told : RowRead file s mid row then = row_back file all s mid m far row then some read_count read_row in
      refused_onward (more_states file s k then) e₃
      (λ stop. states_fault k (labels ++ (l ∷ [])) (targets ++ row) then r
      (omega (arith, length-append labels (l ∷ [])))
      (omega (arith, length-append labels (l ∷ []), length-append targets row, row_told.full))
      (each_append (λ x. x ≤ rules) labels (l ∷ []) label (each_cons (λ x. x ≤ rules) l [] label-told.high (each_none (λ x. x ≤ rules))))
      (each_append (λ x. x < s) targets row target row_told.target)
      (rw (sheet_more s labels targets l row full row_told.full) at (stands_both file 0 mid then _ _ labelled row_told.stands))
      stop)
      (λ rest after read_rest done. absurd (clash (sym done)))

sheet_fault : (file : List ℕ) → Bytes file → (r : Refusal) → read_sheet file ≡ refused r → Fault file r
unfolding sheet write_sheet write_states
sheet_fault file all r e =
    refused_onward (field file sheet_version sheet_version 0) e
    (λ stop. number_fault file all _ sheet_version sheet_version 0 r due_version (stands_none file 0) stop)
    λ v mid read_version e₁.
    let version-told : FieldRead file sheet_version sheet_version 0 v mid = field_back file all sheet_version sheet_version 0 v mid read_version in
    let one : v ≡ sheet_version = omega (arith, version-told.low, version-told.high) in
    let versioned : Stands file 0 (write_number sheet_version) mid = rw one at version-told.stands in
    refused_onward (field file 1 states mid) e₁
    (λ stop. number_fault file all _ 1 states mid r due_count versioned stop)
    λ s far read_count e₂.
    let count-told : FieldRead file 1 states mid s far = field_back file all 1 states mid s far read_count in
    refused_onward (read_states file s far) e₂
    (λ stop. states_fault file all s count-told.low count-told.high s [] [] far r (omega arith) (omega arith)
    (each_none (λ l. l ≤ rules)) (each_none (λ t. t < s))
    (stands_both file 0 mid far _ _ versioned (stands_both file mid far far _ _ count-told.stands (stands_none file far))) stop)
    λ rows then read_rows e₃.
    let told : StatesRead file s s far rows then = states_back file all s s far rows then count-told.low read_rows in
    let t : Table = record { count = s; labels = rows.labels; targets = rows.targets } in
    refused_past (ltb then (length file)) (Tail then) then _ e₃
    (λ more same.
    let whole : Stands file 0 (write_sheet t) then =
    stands_both file 0 mid then _ _ versioned (stands_both file mid far then _ _ count-told.stands told.stands) in
    tail t (get_or file then 0) (drop (then + 1) file)
    (record {
      some = count-told.low;
      most = count-told.high;
      labelled = told.labelled;
      filled = told.filled;
      label = told.label;
      target = told.target;
    })
    (whole.here ∙ ap (λ (w : List ℕ). write_sheet t ++ w) (drop_one file then (ltb-true then (length file) more)))
    (same ∙ ap Tail (omega (arith, whole.after))))
    (λ ends done. absurd (clash (sym done)))

-- ---- over a beginning to where the reader stops

module _ (file : List ℕ) where
  -- a beginning stands at the file's start
  begins : (w rest : List ℕ) → file ≡ w ++ rest → Stands file 0 w (length w)
  begins w rest e =
      record { here = e ∙ ap (λ (v : List ℕ). w ++ v) (sym (ap (drop (length w)) e ∙ drop-append_seam w rest)); after = omega arith }

  runs_on : (s : ℕ) (rs : List Run) (k sum last at next : ℕ) (r : Refusal) → s ≤ states → Proper rs → TurnsFrom last rs → Below s rs
      → sum + covered rs ≤ bytes → Stands file at (write_runs rs) next
      → more_runs file s k (sum + covered rs) (last_of last rs) next ≡ refused r → more_runs file s (length rs + k) sum last at ≡ refused r
  unfolding more_runs write_runs covered last_of
  runs_on s [] k sum last at next r most proper turns below fits p e =
      let place : next ≡ at = omega (arith, p.after) in
      let count : 0 + k ≡ k = omega arith in
      let total : sum + 0 ≡ sum = omega arith in
      rw count (rw (place, total) at e)
  runs_on s (x ∷ rs) k sum last at next r most proper turns below fits p e =
      let v : List ℕ = write_number x.len in
      let w : List ℕ = write_number x.target in
      let mid : ℕ = at + length v in
      let q : Stands file mid (w ++ write_runs rs) next = stands_back file at next v (w ++ write_runs rs) p in
      let read_len : field file 1 bytes at ≡ got x.len mid =
      field_stands file x.len 1 bytes at mid (omega arith) proper.0 (omega arith) (stands_front file at next v (w ++ write_runs rs) p) in
      let read_target : field file 0 (s - 1) mid ≡ got x.target (mid + length w) =
      field_stands file x.target 0 (s - 1) mid (mid + length w) (omega (arith, below.0)) (omega arith) (omega (arith, below.0))
      (stands_front file mid next w (write_runs rs) q) in
      let total : sum + (x.len + covered rs) ≡ sum + x.len + covered rs = omega arith in
      let read_rest : more_runs file s (length rs + k) (sum + x.len) x.target (mid + length w) ≡ refused r =
      runs_on s rs k (sum + x.len) x.target (mid + length w) next r most proper.2 proper.1 below.1 (omega arith)
      (stands_back file mid next w (write_runs rs) q) (rw total at e) in
      let count : suc (length rs) + k ≡ suc (length rs + k) = omega arith in
      rw count
      (simp (read_len, le-ltb bytes (sum + x.len) (omega arith), read_target, ne_eqb x.target last turns, read_rest))

  states_on : (s : ℕ) (labels targets : List ℕ) (k at next : ℕ) (r : Refusal) → s ≤ states → length targets ≡ length labels * bytes
      → Each (λ l. l ≤ rules) labels → Each (λ t. t < s) targets → Stands file at (write_states labels targets) next
      → more_states file s k next ≡ refused r → more_states file s (length labels + k) at ≡ refused r
  unfolding more_states write_states
  states_on s [] targets k at next r most full label target p e =
      let place : next ≡ at = omega (arith, p.after) in
      let count : 0 + k ≡ k = omega arith in
      rw count (rw place at e)
  states_on s (l ∷ ls) targets k at next r most full label target p e =
      let row : List ℕ = take bytes targets in
      let more : List ℕ = drop bytes targets in
      let u : List ℕ = write_number l in
      let v : List ℕ = write_row row in
      let w : List ℕ = write_states ls more in
      let mid : ℕ = at + length u in
      let q : Stands file mid (v ++ w) next = stands_back file at next u (v ++ w) p in
      let read_label : field file 0 rules at ≡ got l mid =
      field_stands file l 0 rules at mid (omega (arith, label 0 (omega arith))) (omega arith) (label 0 (omega arith))
      (stands_front file at next u (v ++ w) p) in
      let read_row = row_stands file s row mid (mid + length v) most (length-take-le bytes targets (omega arith))
      (each_take (λ t. t < s) bytes targets target) (stands_front file mid next v w q) in
      let read_rest : more_states file s (length ls + k) (mid + length v) ≡ refused r =
      states_on s ls more k (mid + length v) next r most (omega (arith, length-drop bytes targets))
      (each_tail (λ x. x ≤ rules) l ls label) (each_drop (λ t. t < s) bytes targets target) (stands_back file mid next v w q) e in
      let count : suc (length ls) + k ≡ suc (length ls + k) = omega arith in
      rw count (simp (read_label, read_row.0, read_row.1, read_rest))

  -- the version and the count of a table that was written at the file's start
  head_read : (t : Table) (next : ℕ) → 1 ≤ t.count → t.count ≤ states → Stands file 0 (write_sheet t) next
      → let mid : ℕ = 0 + length (write_number sheet_version) in let far : ℕ = mid + length (write_number t.count) in
      (field file sheet_version sheet_version 0 ≡ got sheet_version mid) × (field file 1 states mid ≡ got t.count far)
      × Stands file far (write_states t.labels t.targets) next
  unfolding write_sheet
  head_read t next some most p =
      let u : List ℕ = write_number sheet_version in
      let v : List ℕ = write_number t.count in
      let w : List ℕ = write_states t.labels t.targets in
      let mid : ℕ = 0 + length u in
      let q : Stands file mid (v ++ w) next = stands_back file 0 next u (v ++ w) p in (
        field_stands file sheet_version sheet_version sheet_version 0 mid (omega arith) (omega arith) (omega arith) (stands_front file 0 next u (v ++ w) p),
        field_stands file t.count 1 states mid (mid + length v) (omega arith) some most (stands_front file mid next v w q),
        stands_back file mid next v w q,
      )

  -- a refusal at the states that are missing
  begun_refused : (t : Table) (k next : ℕ) (r : Refusal) → Begun t → length t.labels + k ≡ t.count → Stands file 0 (write_sheet t) next
      → more_states file t.count k next ≡ refused r → read_sheet file ≡ refused r
  begun_refused t k next r b size p e =
      let (read_version, read_count, w) = head_read t next b.some b.most p in
      let rows = states_on t.count t.labels t.targets k _ next r b.most b.filled b.label b.target w e in
      sheet_no_states file states read_version read_count (rw size at rows)

  -- the missing states, of which one is begun
  missing : (t : Table) → Begun t → length t.labels + suc (t.count - length t.labels - 1) ≡ t.count
  missing t b = omega (arith, b.labelled)

  -- a refusal at the runs that are missing
  state_refused : (t : Table) (l m : ℕ) (rs : List Run) (k next : ℕ) (r : Refusal) → InState t l m rs → length rs + k ≡ m
      → Stands file 0 (state_bytes t l m rs) next
      → more_runs file t.count k (covered rs) (last_of t.count rs) next ≡ refused r → read_sheet file ≡ refused r
  unfolding more_states
  state_refused t l m rs k next r i size p e =
      let s : ℕ = t.count in
      let b : Begun t = i.begun in
      let head : List ℕ = write_sheet t in
      let one : List ℕ = write_number l in
      let two : List ℕ = write_number m in
      let three : List ℕ = write_runs rs in
      let p₃ = stands_front file 0 next (head ++ one ++ two) three p in
      let p₂ = stands_front file 0 _ (head ++ one) two p₃ in
      let p₁ = stands_front file 0 _ head one p₂ in
      let read_label = field_stands file l 0 rules _ _ (omega (arith, i.label)) (omega arith) i.label (stands_back file 0 _ head one p₂) in
      let read_count = field_stands file m 1 bytes _ _ (omega (arith, i.most)) i.some i.most (stands_back file 0 _ (head ++ one) two p₃) in
      let total : 0 + covered rs ≡ covered rs = omega arith in
      let read_row = runs_on s rs k 0 s _ next r b.most i.proper (below_turns s rs i.below) i.below (omega (arith, i.fits))
      (stands_back file 0 next (head ++ one ++ two) three p) (rw total e) in
      begun_refused t (suc (s - length t.labels - 1)) _ r b (missing t b) p₁
      (simp (read_label, read_count, rw size at read_row))

  -- a number that is due and is not there
  due_refused : {w : List ℕ} {lo hi : ℕ} (at : ℕ) (r : Refusal) → Due w lo hi → Stands file 0 w at
      → field file lo hi at ≡ refused r → read_sheet file ≡ refused r
  unfolding more_states more_runs
  due_refused at r due_version p e =
      let place : at ≡ 0 = omega (arith, p.after) in
      sheet_no_version file states (rw place at e)
  due_refused at r due_count p e =
      sheet_no_count file states (field_stands file sheet_version sheet_version sheet_version 0 at (omega arith) (omega arith) (omega arith) p) e
  due_refused at r (due_label t b) p e =
      begun_refused t (suc (t.count - length t.labels - 1)) at r b (missing t b) p (simp e)
  due_refused at r (due_runs t l b small) p e =
      let w : List ℕ = write_number l in
      let place : at ≡ 0 + length (write_sheet t) + length w = omega (arith, p.after, length-append (write_sheet t) w) in
      let read_label = field_stands file l 0 rules _ at (omega arith) (omega arith) small (stands_back file 0 at (write_sheet t) w p) in
      begun_refused t (suc (t.count - length t.labels - 1)) _ r b (missing t b) (stands_front file 0 at (write_sheet t) w p)
      (simp (read_label, e))
  due_refused at r (due_length t l m rs i less) p e =
      state_refused t l m rs (suc (m - length rs - 1)) at r i (omega arith) p (simp e)
  due_refused at r (due_target t l m rs len i less some room) p e =
      let w : List ℕ = write_number len in
      let read_len = field_stands file len 1 bytes _ at (omega arith) some (omega arith) (stands_back file 0 at (state_bytes t l m rs) w p) in
      state_refused t l m rs (suc (m - length rs - 1)) _ r i (omega arith) (stands_front file 0 at (state_bytes t l m rs) w p)
      (simp (read_len, le-ltb bytes (covered rs + len) room, e))

  fault_refused : (r : Refusal) → Fault file r → read_sheet file ≡ refused r
  unfolding more_runs
  fault_refused r (number w rest lo hi due same f) =
      due_refused (length w) r due (begins w rest same) (field_fault file lo hi (length w) r f)
  fault_refused r (passes t l m rs len rest i less small over same is) =
      let head : List ℕ = state_bytes t l m rs in
      let p = begins (head ++ write_number len) rest same in
      let some : 1 ≤ len = omega (arith, i.fits) in
      let read_len = field_stands file len 1 bytes _ _ (omega arith) some small (stands_back file 0 _ head (write_number len) p) in
      let k : ℕ = suc (m - length rs - 1) in
      let place : 0 + length head ≡ length head = omega arith in
      let stops : more_runs file t.count k (covered rs) (last_of t.count rs) (0 + length head) ≡ refused (Runs (0 + length head)) =
      simp (read_len, lt-ltb bytes (covered rs + len) over) in
      state_refused t l m rs k _ r i (omega arith) (stands_front file 0 _ head (write_number len) p)
      (stops ∙ ap refused (ap Runs place ∙ sym is))
  fault_refused r (equal t l m front q len rest i less some room same is) =
      let rs : List Run = front ++ (q ∷ []) in
      let head : List ℕ = state_bytes t l m rs in
      let v : List ℕ = write_number len in
      let w : List ℕ = write_number q.target in
      let p = begins (head ++ v ++ w) rest same in
      let p₂ = stands_front file 0 _ (head ++ v) w p in
      let met : 0 + length (head ++ v) ≡ 0 + length head + length v = omega (arith, length-append head v) in
      let read_len = field_stands file len 1 bytes _ (0 + length head + length v) (omega arith) some (omega arith)
      (rw met at (stands_back file 0 _ head v p₂)) in
      let small : q.target < t.count = below_last q t.count front i.below in
      let read_target = field_stands file q.target 0 (t.count - 1) _ _ (omega (arith, i.begun.most)) (omega arith) (omega arith)
      (stands_back file 0 _ (head ++ v) w p) in
      let k : ℕ = suc (m - length rs - 1) in
      let place : 0 + length head + length v ≡ length (head ++ v) = omega (arith, length-append head v) in
      let last : eqb q.target (last_of t.count rs) ≡ true =
      eq-eqb q.target (last_of t.count rs) (sym (last_is t.count front q)) in
      let stops : more_runs file t.count k (covered rs) (last_of t.count rs) (0 + length head)
      ≡ refused (Runs (0 + length head + length v)) =
      simp (read_len, le-ltb bytes (covered rs + len) room, rw met at read_target, last) in
      state_refused t l m rs k _ r i (omega arith) (stands_front file 0 _ head v p₂)
      (stops ∙ ap refused (ap Runs place ∙ sym is))
  fault_refused r (low t l m rs rest i size less same is) =
      state_refused t l m rs 0 _ r i (omega arith) (begins (state_bytes t l m rs) rest same)
      (simp (lt-ltb (covered rs) bytes less, is))
  fault_refused r (tail t x rest f same is) =
      let p = begins (write_sheet t) (x ∷ rest) same in
      let (read_version, read_count, w) = head_read t _ f.some f.most p in
      let rows = states_stand file t.count t.labels t.targets _ _ f.most
      (f.filled ∙ ap (λ (n : ℕ). n * bytes) (sym f.labelled)) f.label f.target w in
      sheet_tail file states read_version read_count (rw f.labelled at rows)
      (omega (arith, ap length same, length-append (write_sheet t) (x ∷ rest)))
      ∙ ap refused (sym is)

-- the reader gives one answer, so a file has one refusal
pub fault_one : (file : List ℕ) (q r : Refusal) → Fault file q → Fault file r → q ≡ r
fault_one file q r f g =
    let same : ◌≡◌ {A = Answer Table} (refused q) (refused r) = sym (fault_refused file q f) ∙ fault_refused file r g in
    cc

pub refused_faulty : (file : List ℕ) (r : Refusal) → Bytes file → (read_sheet file ≡ refused r) ↔ Fault file r
refused_faulty file r all = (sheet_fault file all r, fault_refused file r)
