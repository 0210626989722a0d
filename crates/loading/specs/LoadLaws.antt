-- The law of load with room: what was read, filled up with 0, is what table's Calls says; behind a refusal the whole area is 0.
-- Filling goes to the end of the lent memory, so that nothing of what stood there before is left.
use Rattle.std.specs.Prelude.{ℕ, ◌-◌, ◌*◌, ◌≤◌, ◌≡◌, refl, Result, Ok, Err, IfOk, List, ◌++◌, length, replicate}
use Rattle.std.specs.Result.{result_unwrap_or, result_and}
use Rattle.std.proofs.Math.Nat.{sub-zero}
use Rattle.std.proofs.Common.{zero-add, arith, sym, ap, ◌∙◌, le-ltb, length-append}
use Rattle.std.proofs.lemmas.List.{length-replicate}
use Rattle.number.specs.declared.Refusal.{Refusal}
use Rattle.number.specs.Limits.{states, bytes, table_cells}
use Rattle.number.specs.Lists.{written, written_more}
use Rattle.number.specs.Numbers.{Bytes}
use Rattle.number.specs.Refused.Answer.{refused}
use Rattle.table.specs.Sheet.{read_sheet}
use Rattle.table.specs.Calls.{padded, load_read, load_of}
use Rattle.table.specs.Promises.{Loads}
use Rattle.reading.specs.Promises.{LaysTable}
use Rattle.reading.specs.ReadingLaws.{mapped_refused, written_whole, SheetGot, sheet_read}

padded_whole : (s s' cells : List ℕ) (n at : ℕ) → n ≡ length s → at ≡ length cells → at ≤ n
    → s' ≡ written (written s 0 cells) at (replicate (n - at) 0) → s' ≡ padded n cells
padded_whole s s' cells n at e f h g =
    let size : length (padded n cells) ≡ length s =
    simp (length-append, length-replicate) (omega arith) in
    let rest : List ℕ = replicate (n - length cells) 0 in
    rw f at g
    ∙ ap (λ (m : ℕ). written (written s 0 cells) m rest) (sym (zero-add (length cells)))
    ∙ written_more s 0 cells rest (omega arith)
    ∙ written_whole s (cells ++ rest) size

-- all of an area made 0
cleared_whole : (s s' s2 : List ℕ) → length s' ≡ length s → s2 ≡ written s' 0 (replicate (length s' - 0) 0) → s2 ≡ replicate (length s) 0
cleared_whole s s' s2 e f =
    let size : length {A = ℕ} (replicate (length s' - 0) 0) ≡ length s' = simp (length-replicate) (omega arith) in
    f ∙ written_whole s' (replicate (length s' - 0) 0) size ∙ rw (sub-zero, e)

-- the states that stay: those that were read, and none after a refusal
pub states_few : (r : Result (ℕ × ℕ) Refusal) → IfOk r (λ read. read.0 ≤ states) → (result_unwrap_or r (0, 0)).0 ≤ states
states_few (Ok read) h = h
states_few (Err q) h = omega arith

module _ (file l t : List ℕ) where
  module _ (room_labels : states ≤ length l) (room_targets : table_cells ≤ length t) where
    -- with room, what was read decides
    load_is : load_of file l t ≡ load_read l t (read_sheet file)
    load_is = simp (le-ltb _ _ room_labels, le-ltb _ _ room_targets)

    load_got : {next count : ℕ} {l1 t1 l2 t2 : List ℕ} → SheetGot file l t l1 t1 count next
        → length l1 ≡ length l → l2 ≡ written l1 count (replicate (length l1 - count) 0)
        → length t1 ≡ length t → t2 ≡ written t1 (count * bytes) (replicate (length t1 - count * bytes) 0)
        → Loads file l t l2 t2 (Ok count)
    load_got {count = count} {l2 = l2} {t2 = t2} s m f n g =
        let few : count ≤ states = s.few in
        let labelled = padded_whole l l2 s.table.labels (length l) count refl s.labelled (omega arith) (rw (m, s.labels) at f) in
        let targeted = padded_whole t t2 s.table.targets (length t) (count * bytes) refl s.targeted (omega arith) (rw (n, s.targets) at g) in
        record {
          answer = rw (load_is, s.is, s.counted);
          row = rw (load_is, s.is);
          labels = labelled ∙ rw (load_is, s.is);
          targets = targeted ∙ rw (load_is, s.is);
        }

    load_refused : (q : Refusal) (l1 t1 l2 t2 : List ℕ) → read_sheet file ≡ refused q
        → length l1 ≡ length l → l2 ≡ written l1 0 (replicate (length l1 - 0) 0)
        → length t1 ≡ length t → t2 ≡ written t1 0 (replicate (length t1 - 0) 0)
        → Loads file l t l2 t2 (Err q)
    load_refused q l1 t1 l2 t2 e m f n g =
        record {
          answer = rw (load_is, e);
          row = rw (load_is, e);
          labels = cleared_whole l l1 l2 m f ∙ rw (load_is, e);
          targets = cleared_whole t t1 t2 n g ∙ rw (load_is, e);
        }

    pub load_leaves : (r : Result (ℕ × ℕ) Refusal) {l1 t1 l2 t2 : List ℕ} → Bytes file → LaysTable (read_sheet file) l t l1 t1 r
        → length l1 ≡ length l → l2 ≡ written l1 (result_unwrap_or r (0, 0)).0 (replicate (length l1 - (result_unwrap_or r (0, 0)).0) 0)
        → length t1 ≡ length t
        → t2 ≡ written t1 ((result_unwrap_or r (0, 0)).0 * bytes) (replicate (length t1 - (result_unwrap_or r (0, 0)).0 * bytes) 0)
        → Loads file l t l2 t2 (result_and r (Ok (result_unwrap_or r (0, 0)).0))
    load_leaves (Ok read) b x m f n g = load_got (sheet_read file b x refl) m f n g
    load_leaves (Err q) b x m f n g = load_refused q _ _ _ _ (mapped_refused (read_sheet file) (λ table. table.count) q (sym x.answer)) m f n g
