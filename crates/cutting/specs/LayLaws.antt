-- What words come to that are put into lent memory one after another, in cells of plain numbers and in records: they stand in front, and what is behind them is as before.
-- So what specs/Put.antt says of any memory is what specs/Flat.antt and specs/Calls.antt say of these two.
use Rattle.std.specs.Prelude.{ℕ, suc, ◌+◌, ◌*◌, ◌/◌, ◌<◌, ◌≤◌, ◌≡◌, Bool, true, false, cond, refl, Result, List, [], ◌∷◌, ◌++◌, length, take, drop, set}
use Rattle.std.proofs.Common.{add-zero, zero-add, arith, sym, ap, ◌∙◌, append_assoc, append-nil, length-set, take-append-drop, take-suc-set, drop-set-lt}
use Rattle.number.specs.declared.Refusal.{Refusal}
use Rattle.number.specs.declared.Refusal.TheVariants.{Loaded}
use Rattle.number.specs.Refused.{row_of}
use Rattle.number.specs.Refused.Outcome.{refuses}
use Rattle.number.specs.Lists.{written, written_more, stored_three}
use Rattle.meaning.specs.Re.{Text}
use Rattle.table.specs.Table.{lent, well_formed}
use Rattle.cutting.specs.declared.Word.{Word}
use Rattle.cutting.specs.declared.Ended.{Ended}
use Rattle.cutting.specs.Steps.{first_by}
use Rattle.cutting.specs.Cut.{Cut}
use Rattle.cutting.specs.CutLaws.{by_table, cut_is}
use Rattle.cutting.specs.TileLaws.{cut_few}
use Rattle.cutting.specs.Calls.{Recorded, cut_of, recorded, cut_from_of}
use Rattle.cutting.specs.Flat.{record_cells, flat, Laid, laid, cut_cells_of}
use Rattle.cutting.specs.Put.{Held, put_cells, put_all, held, cut_slots_of}
use Rattle.cutting.specs.Promises.{CutsInto, CutsWords, CutsSlots}

-- ---- cells

pub flat_length : (ws : List Word) → length (flat ws) ≡ record_cells * length ws
unfolding flat
flat_length [] = refl
flat_length (w ∷ ws) = omega (arith, flat_length ws)

written_none : (s : List ℕ) (at : ℕ) → written s at [] ≡ s
unfolding written
written_none s at = rw (add-zero, append-nil) (take-append-drop at s)

-- the three stores of a record
cells_put : (k : ℕ) (w : Word) (m v : List ℕ) → record_cells * k + record_cells ≤ length m
    → written (put_cells m k w) (record_cells * suc k) v ≡ written m (record_cells * k) (w.start ∷ w.len ∷ w.rule ∷ v)
cells_put k w m v h =
    let next : record_cells * suc k ≡ record_cells * k + record_cells = omega arith in
    rw (stored_three m (record_cells * k) w.start w.len w.rule h, next)
    (written_more m (record_cells * k) (w.start ∷ w.len ∷ w.rule ∷ []) v (omega arith))

all_cells : (ws : List Word) (k : ℕ) (m : List ℕ) → record_cells * (k + length ws) ≤ length m
    → put_all put_cells k ws m ≡ written m (record_cells * k) (flat ws)
unfolding put_all flat
all_cells [] k m h = sym (written_none m (record_cells * k))
all_cells (w ∷ ws) k m h =
    all_cells ws (suc k) (put_cells m k w) (simp length-set (omega arith)) ∙ cells_put k w m (flat ws) (omega arith)

abbrev as_laid : Held (List ℕ) → Laid
as_laid h = record { answer = h.answer; cells = h.memory }

cells_held : (c : Cut) (m : List ℕ) → length c.words ≤ length m / record_cells → as_laid (held put_cells c m) ≡ laid c m
unfolding written
cells_held c m h =
    let first : record_cells * length c.words ≡ 0 + length (flat c.words) = omega (arith, flat_length c.words) in
    rw (all_cells c.words 0 m (omega arith), first) refl

-- ---- records

words_put : (k : ℕ) (w : Word) (m ws : List Word) → k < length m
    → take (suc k) (set m k w) ++ (ws ++ drop (suc k + length ws) (set m k w)) ≡ take k m ++ ((w ∷ ws) ++ drop (k + length (w ∷ ws)) m)
words_put k w m ws h =
    let next : suc k + length ws ≡ k + suc (length ws) = omega arith in
    rw (next, take-suc-set m k w h, drop-set-lt (k + suc (length ws)) m k w (omega arith), append_assoc)

all_words : (ws : List Word) (k : ℕ) (m : List Word) → k + length ws ≤ length m
    → put_all (λ ms i w. set ms i w) k ws m ≡ take k m ++ (ws ++ drop (k + length ws) m)
unfolding put_all
all_words [] k m h = sym (rw add-zero (take-append-drop k m))
all_words (w ∷ ws) k m h = all_words ws (suc k) (set m k w) (simp length-set (omega arith)) ∙ words_put k w m ws (omega arith)

abbrev as_recorded : Held (List Word) → Recorded
as_recorded h = record { answer = h.answer; records = h.memory }

words_held : (c : Cut) (m : List Word) → length c.words ≤ length m → as_recorded (held (λ ms i w. set ms i w) c m) ≡ recorded c m
words_held c m h = rw (all_words c.words 0 m (omega arith), zero-add) refl

-- ---- what the two calls promise

module _ (s : ℕ) (labels targets : List ℕ) (text : Text) where
  few : (at room : ℕ) → length (cut_of (first_by (lent s labels targets)) text at room).words ≤ room
  few at room = cut_few (cut_is (by_table (lent s labels targets)) room at (drop at text))

  pub promise_cells : (at : ℕ) {m m' : List ℕ} {r : Result Ended Refusal} → CutsSlots (λ cells. length cells / record_cells) put_cells s labels targets text at m m' r
      → CutsInto s labels targets text at m m' r
  promise_cells at {m} {m'} {r} p =
      let e : as_laid (cut_slots_of (λ cells. length cells / record_cells) put_cells s labels targets text at m) ≡ cut_cells_of s labels targets text at m = go (well_formed s labels targets) in
      let answer = p.answer ∙ ap (λ (x : Laid). x.answer) e in
      record { answer = answer; row = ap row_of answer; cells = p.memory ∙ ap (λ (x : Laid). x.cells) e }
    where
      go : (b : Bool) → as_laid (cond b (held put_cells (cut_of (first_by (lent s labels targets)) text at (length m / record_cells)) m) (record { answer = refuses Loaded; memory = m }))
          ≡ cond b (laid (cut_of (first_by (lent s labels targets)) text at (length m / record_cells)) m) (record { answer = refuses Loaded; cells = m })
      go true = cells_held _ m (few at (length m / record_cells))
      go false = refl

  pub promise_words : {m m' : List Word} {r : Result Ended Refusal} → CutsSlots length (λ ms i w. set ms i w) s labels targets text 0 m m' r
      → CutsWords s labels targets text m m' r
  promise_words {m} {m'} {r} p =
      let e : as_recorded (cut_slots_of length (λ ms i w. set ms i w) s labels targets text 0 m) ≡ cut_from_of s labels targets text 0 m = go (well_formed s labels targets) in
      let answer = p.answer ∙ ap (λ (x : Recorded). x.answer) e in
      record { answer = answer; row = ap row_of answer; records = p.memory ∙ ap (λ (x : Recorded). x.records) e }
    where
      go : (b : Bool) → as_recorded (cond b (held (λ ms i w. set ms i w) (cut_of (first_by (lent s labels targets)) text 0 (length m)) m) (record { answer = refuses Loaded; memory = m }))
          ≡ cond b (recorded (cut_of (first_by (lent s labels targets)) text 0 (length m)) m) (record { answer = refuses Loaded; records = m })
      go true = words_held _ m (few 0 (length m))
      go false = refl
