-- Laws of the areas that load, build and write leave: each way in which a call ends leaves what Areas says of it.
-- Whether there is room is told by the lengths of the two parts of a table area alone.
use Rattle.std.specs.Prelude.{ℕ, ◌-◌, ◌*◌, ◌≤◌, ◌<◌, ◌≡◌, refl, Bool, true, false, ◌||◌, List, ◌++◌, ltb, length, take, drop, replicate}
use Rattle.std.proofs.Common.{arith, sym, ap, ◌∙◌, lt-ltb, le-ltb, length-append, length-drop, take-append-drop, take_at, drop_at}
use Rattle.std.proofs.lemmas.List.{length-replicate}
use Rattle.number.specs.declared.Refusal.{Refusal}
use Rattle.number.specs.declared.Refusal.TheVariants.{Room}
use Rattle.number.specs.Limits.{states, bytes, table_cells}
use Rattle.number.specs.Branch.{by_cond}
use Rattle.number.specs.Refused.Answer.{got, refused}
use Rattle.number.specs.Refused.Outcome.{gives, refuses}
use Rattle.number.specs.Numbers.{Bytes}
use Rattle.table.specs.Table.{Table, lent, well_formed}
use Rattle.table.specs.Sheet.{read_sheet, write_sheet}
use Rattle.table.specs.Calls.{Filled, Output, padded, cramped, filled_with, cleared, untouched, load_of, write_of}
use Rattle.table.specs.Formed.{Formed}
use Rattle.table.specs.Areas.{Holds, LeavesTable, LeavesZeros, LeavesAll, WritesFront, WritesNone}
use Rattle.table.specs.SheetFormed.{formed_well, well_formed_lem}
use Rattle.table.specs.SheetLaws.{sheet_read_back, sheet_back}
use Rattle.table.proofs.SheetBytes.{sheet_bytes}
use Rattle.table.proofs.SheetCalls.{HasSheet, write_has_sheet, write_formed}

-- ---- the test for room

module _ (labels targets : List ℕ) where
  pub roomy : states ≤ length labels → table_cells ≤ length targets → cramped labels targets ≡ false
  roomy h k = simp (le-ltb (length labels) states h, le-ltb (length targets) table_cells k)

  pub cramped_labels : length labels < states → cramped labels targets ≡ true
  cramped_labels h = simp (lt-ltb (length labels) states h)

  pub cramped_targets : length targets < table_cells → cramped labels targets ≡ true
  cramped_targets h = go (ltb (length labels) states)
    where
      go : (b : Bool) → (b || ltb (length targets) table_cells) ≡ true
      go true = refl
      go false = lt-ltb (length targets) table_cells h

-- ---- a table area

pub padded_holds : (n : ℕ) (cells before : List ℕ) → length cells ≡ n → n ≤ length before
    → Holds n cells before (padded (length before) cells)
padded_holds n cells before size room =
    record {
      front = take_at cells _ n size;
      behind = drop_at cells _ n size ∙ ap (λ (m : ℕ). replicate (length before - m) 0) size;
      long = omega (arith, length-append cells (replicate (length before - length cells) 0), length-replicate {A = ℕ} (length before - length cells) 0);
    }

module _ (labels targets : List ℕ) where
  pub filled_leaves : (t : Table) → Formed t → states ≤ length labels → table_cells ≤ length targets
      → LeavesTable labels targets t (filled_with labels targets t)
  filled_leaves t f h k =
      record {
        answer = refl;
        labels = padded_holds t.count t.labels labels f.labelled (omega (arith, f.most));
        targets = padded_holds (t.count * bytes) t.targets targets f.filled (omega (arith, f.most));
      }

  pub cleared_leaves : (r : Refusal) → LeavesZeros labels targets r (cleared labels targets r)
  cleared_leaves r = record { answer = refl; labels = refl; targets = refl }

  pub untouched_leaves : LeavesAll labels targets (untouched labels targets Room)
  untouched_leaves = record { answer = refl; labels = refl; targets = refl }

-- ---- nothing is left open

parts_same : (n : ℕ) (a b : List ℕ) → take n a ≡ take n b → drop n a ≡ drop n b → a ≡ b
parts_same n a b front behind = sym (take-append-drop n a) ∙ (λ i. front i ++ behind i) ∙ take-append-drop n b

holds_one : (n : ℕ) (cells before a b : List ℕ) → Holds n cells before a → Holds n cells before b → a ≡ b
holds_one n cells before a b h k = parts_same n a b (h.front ∙ sym k.front) (h.behind ∙ sym k.behind)

pub leaves_one : (labels targets : List ℕ) (t : Table) (x y : Filled) → LeavesTable labels targets t x → LeavesTable labels targets t y → x ≡ y
leaves_one labels targets t x y h k =
    let one : x.labels ≡ y.labels = holds_one t.count t.labels labels _ _ h.labels k.labels in
    let two : x.targets ≡ y.targets = holds_one (t.count * bytes) t.targets targets _ _ h.targets k.targets in
    λ i. record { answer = (h.answer ∙ sym k.answer) i; labels = one i; targets = two i }

pub zeros_one : (labels targets : List ℕ) (r : Refusal) (x y : Filled) → LeavesZeros labels targets r x → LeavesZeros labels targets r y → x ≡ y
zeros_one labels targets r x y h k =
    λ i. record {
      answer = (h.answer ∙ sym k.answer) i;
      labels = (h.labels ∙ sym k.labels) i;
      targets = (h.targets ∙ sym k.targets) i;
    }

pub front_one : (sheet out : List ℕ) (x y : Output) → WritesFront sheet out x → WritesFront sheet out y → x ≡ y
front_one sheet out x y h k =
    let same : x.out ≡ y.out = parts_same (length sheet) _ _ (h.front ∙ sym k.front) (h.behind ∙ sym k.behind) in
    λ i. record { answer = (h.answer ∙ sym k.answer) i; out = same i }

-- ---- load

module _ (file labels targets : List ℕ) where
  pub load_read : (t : Table) (after : ℕ) → Bytes file → read_sheet file ≡ got t after
      → states ≤ length labels → table_cells ≤ length targets → LeavesTable labels targets t (load_of file labels targets)
  load_read t after all e h k =
      let same : load_of file labels targets ≡ filled_with labels targets t = simp (roomy labels targets h k, e) in
      rw same (filled_leaves labels targets t (sheet_back file all t after e).formed h k)

  pub load_refused : (r : Refusal) → read_sheet file ≡ refused r
      → states ≤ length labels → table_cells ≤ length targets → LeavesZeros labels targets r (load_of file labels targets)
  load_refused r e h k =
      let same : load_of file labels targets ≡ cleared labels targets r = simp (roomy labels targets h k, e) in
      rw same (cleared_leaves labels targets r)

  load_cramped : cramped labels targets ≡ true → LeavesAll labels targets (load_of file labels targets)
  load_cramped small =
      let same : load_of file labels targets ≡ untouched labels targets Room = simp small in
      rw same (untouched_leaves labels targets)

  pub load_short_labels : length labels < states → LeavesAll labels targets (load_of file labels targets)
  load_short_labels h = load_cramped (cramped_labels labels targets h)

  pub load_short_targets : length targets < table_cells → LeavesAll labels targets (load_of file labels targets)
  load_short_targets h = load_cramped (cramped_targets labels targets h)

-- ---- write

module _ (s : ℕ) (labels targets out : List ℕ) where
  pub write_ill : (Formed (lent s labels targets) → ⊥) → WritesNone 10 out (write_of s labels targets out)
  write_ill unformed =
      by_cond (WritesNone 10 out) (well_formed s labels targets)
      (λ well. absurd (unformed (well_formed_lem s labels targets well)))
      (λ ill. record { answer = refl; out = refl })

  pub write_short : Formed (lent s labels targets) → length out < length (write_sheet (lent s labels targets))
      → WritesNone 11 out (write_of s labels targets out)
  write_short f h =
      let same : write_of s labels targets out ≡ record { answer = refuses Room; out = out } =
      simp (formed_well s labels targets f, lt-ltb (length out) (length (write_sheet (lent s labels targets))) h) in
      rw same (record { answer = refl; out = refl })

  pub write_whole : Formed (lent s labels targets) → length (write_sheet (lent s labels targets)) ≤ length out
      → WritesFront (write_sheet (lent s labels targets)) out (write_of s labels targets out)
  write_whole f h =
      let sheet : List ℕ = write_sheet (lent s labels targets) in
      rw (write_formed s labels targets out sheet f refl h)
      (record {
        answer = refl;
        front = take_at sheet (drop (length sheet) out) (length sheet) refl;
        behind = drop_at sheet (drop (length sheet) out) (length sheet) refl;
        long = omega (arith, length-append sheet (drop (length sheet) out), length-drop (length sheet) out);
      })

-- ---- write, then load

-- the table comes back: its count, and its cells with 0 behind them
pub write_then_load : (s : ℕ) (labels targets out : List ℕ) (n : ℕ) (labels' targets' : List ℕ)
    → (write_of s labels targets out).answer ≡ gives n → states ≤ length labels' → table_cells ≤ length targets'
    → LeavesTable labels' targets' (lent s labels targets) (load_of (take n (write_of s labels targets out).out) labels' targets')
write_then_load s labels targets out n labels' targets' e h k =
    let t : Table = lent s labels targets in
    let told : HasSheet t n (write_of s labels targets out).out = write_has_sheet s labels targets out n e in
    rw told.front
    (load_read (write_sheet t) labels' targets' t (length (write_sheet t)) (sheet_bytes t told.formed) (sheet_read_back t told.formed) h k)
