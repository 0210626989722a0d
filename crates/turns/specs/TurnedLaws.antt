-- Laws of a turn: one for each step of the code that puts its lines, and one for each way that it can end.
-- Records lie in cells; that their lines are the lines of the words is the first law.
use Rattle.std.specs.Simd.{first_chunks}
use Rattle.std.specs.Prelude.{ℕ, zero, suc, take, ◌+◌, ◌-◌, ◌*◌, ◌/◌, ◌<◌, ◌≤◌, ◌≡◌, refl, Bool, true, false, cond, List, [], ◌∷◌, ◌++◌, length, get_or, drop, Result}
use Rattle.std.proofs.Math.Decide.{dec_lt}
use Rattle.std.proofs.Common.{add-zero, arith, sym, ap, ◌∙◌, append-nil, le-ltb, length-drop, get_or-drop, get_or-take, drop-drop}
use Rattle.std.proofs.Math.ListN.{get_or-eq_default}
use Rattle.number.specs.declared.Refusal.{Refusal}
use Rattle.number.specs.declared.Refusal.TheVariants.{Loaded}
use Rattle.number.specs.Limits.{rules}
use Rattle.number.specs.Refused.{Answer, Outcome}
use Rattle.number.specs.Refused.Answer.{got, refused}
use Rattle.number.specs.Refused.Outcome.{gives, refuses}
use Rattle.number.specs.Lists.{Writes, writes_none, writes_then}
use Rattle.meaning.specs.Re.{Text}
use Rattle.book.specs.Book.{Book}
use Rattle.book.specs.Reads.{read_book}
use Rattle.book.specs.Calls.{kind_in as kind_from}
use Rattle.book.specs.ReadLaws.{book_valid}
use Rattle.table.specs.Table.{lent, well_formed}
use Rattle.cutting.specs.declared.Word.{Word}
use Rattle.cutting.specs.declared.Ended.{Ended}
use Rattle.cutting.specs.Steps.{first_by}
use Rattle.cutting.specs.Cut.{Ending, Cut}
use Rattle.cutting.specs.Cut.Ending.{Done, StuckAt, FullAt}
use Rattle.cutting.specs.CutLaws.{by_table, cut_is}
use Rattle.cutting.specs.TileLaws.{cut_few, words_few}
use Rattle.cutting.specs.Calls.{Report, ended, cut_of}
use Rattle.cutting.specs.Flat.{record_cells, flat, laid}
use Rattle.cutting.specs.Promises.{CutsInto}
use Rattle.lines.specs.Lines.{word_line, done_line, stuck_line, refused_line}
use Rattle.programs.specs.Output.{kind_number, kind_in, word_lines, last_line}
use Rattle.turns.specs.declared.Turn.TheVariants.{Onward, Last}
use Rattle.turns.specs.Turned.{Kinds, kind_by, cell_lines, turn_lines, turn_of, next_by, next_after, Turned}

-- ---- kinds

-- a book has no kinds past its rules, so that the list of the kinds of all rules is enough
no_kind : (book : List ℕ) (i : ℕ) → rules ≤ i → kind_in book i ≡ 0
no_kind book i h = go (read_book book) refl
  where
    go : (x : Answer Book) → read_book book ≡ x → kind_number (kind_from x i) ≡ 0
    go (got b after) e = let few = (book_valid book b after e).0.few in rw (le-ltb i (length b.rules) (omega arith)) refl
    go (refused r) e = refl

pub kinds_all : (book kinds : List ℕ) → rules ≤ length kinds → Kinds book kinds → kind_by kinds ≡ kind_in book
kinds_all book kinds all known = λ i j. each j i
  where
    each : (j : ℕ) → get_or kinds j 0 ≡ kind_in book j
    each j =
        elim (dec_lt j (length kinds)) [
          | yes less ↦ known j less
          | no more ↦ get_or-eq_default kinds 0 (omega arith) ∙ sym (no_kind book j (omega arith))
        ]

-- ---- records

pub cells_words : (kinds : ℕ → ℕ) (ws : List Word) (rest : List ℕ) → cell_lines kinds (flat ws ++ rest) (length ws) ≡ word_lines kinds ws
unfolding cell_lines word_lines flat
cells_words kinds [] rest = refl
cells_words kinds (w ∷ ws) rest =
    ap (λ (l : List ℕ). word_line w.start w.len w.rule (kinds w.rule) ++ l) (cells_words kinds ws rest)

-- a number of a record, where the records are taken one by one
chunk_at : (n m : ℕ) (xs : List ℕ) (i j : ℕ) → i < m → j < n → get_or (get_or (first_chunks n m xs) i []) j 0 ≡ get_or xs (n * i + j) 0
chunk_at n zero xs i j l h = absurd (omega arith)
chunk_at n (suc m) xs zero j l h = let first : n * 0 + j ≡ j = omega arith in rw first (get_or-take n xs j 0 h)
chunk_at n (suc m) xs (suc i) j l h =
    let place : n + (n * i + j) ≡ n * suc i + j = omega arith in
    chunk_at n m (drop n xs) i j (omega arith) h ∙ get_or-drop n xs (n * i + j) 0 ∙ ap (λ (k : ℕ). get_or xs k 0) place

pub record_at : (cells : List ℕ) {chunks : List (List ℕ)} {m : ℕ} (count k j : ℕ) → chunks ≡ first_chunks record_cells m cells → k < count → count ≤ m
    → j < record_cells → get_or (get_or (take count chunks) k []) j 0 ≡ get_or cells (record_cells * k + j) 0
record_at cells {chunks} {m} count k j e l few h =
    ap (λ (x : List ℕ). get_or x j 0) (get_or-take count chunks k [] l)
    ∙ ap (λ (x : List (List ℕ)). get_or (get_or x k []) j 0) e ∙ chunk_at record_cells m cells k j (omega arith) h

-- no record left, and one before the others
pub lines_none : (kinds : ℕ → ℕ) (cells s : List ℕ) (left at : ℕ) → left ≡ 0 → Writes (cell_lines kinds cells left) s s at at
unfolding cell_lines
lines_none kinds cells s left at e = rw e (writes_none s at)

pub lines_more : (kinds : ℕ → ℕ) (cells : List ℕ) (k left m told : ℕ) {s t u : List ℕ} {at mid end : ℕ} → left ≡ suc m → at ≤ length s
    → told ≡ kinds (get_or cells (record_cells * k + 2) 0)
    → Writes (word_line (get_or cells (record_cells * k) 0) (get_or cells (record_cells * k + 1) 0) (get_or cells (record_cells * k + 2) 0) told) s t at mid
    → Writes (cell_lines kinds (drop (record_cells * (k + 1)) cells) m) t u mid end
    → Writes (cell_lines kinds (drop (record_cells * k) cells) left) s u at end
unfolding cell_lines
lines_more kinds cells k left m told e room f first others =
    let more : record_cells * k + record_cells ≡ record_cells * (k + 1) = omega arith in
    rw e (simp (get_or-drop, add-zero, drop-drop, more) (writes_then room (rw f at first) others))

-- ---- what a cut left in the cells

-- a cut that ended so, with so many words, which stand in the cells; no more than there are records, or bytes left
pub record Came (x : Outcome Cut) (cells : List ℕ) (room left n : ℕ) (e : Ending) : Type 0 where
  pub cut : Cut
  pub is : x ≡ gives cut
  pub ending : cut.ending ≡ e
  pub count : length cut.words ≡ n
  pub rest : List ℕ
  pub laid : cells ≡ flat cut.words ++ rest
  pub few : n ≤ room
  pub short : n ≤ left

clash : {x : Report} {r : Refusal} → ◌≡◌ {A = Outcome Report} (refuses r) (gives x) → ⊥
clash e = let z : ◌≡◌ {A = ℕ} 0 1 = cc in omega arith

given : {x y : Report} → ◌≡◌ {A = Outcome Report} (gives x) (gives y) → x ≡ y
given e = cc

module _ (s : ℕ) (l t : List ℕ) (text : Text) (at : ℕ) (m m' : List ℕ) (r : Result Ended Refusal) (cuts : CutsInto s l t text at m m' r) where
  pub came : (e : Ending) (n : ℕ) → ended r ≡ gives (record { ending = e; count = n })
      → Came (turn_of s l t text at (length m / record_cells)) m' (length m / record_cells) (length text - at) n e
  came e n f = go (well_formed s l t) cuts.answer cuts.cells
    where
      go : (b : Bool) → (let c = cut_of (first_by (lent s l t)) text at (length m / record_cells) in
          let w = cond b (laid c m) (record { answer = refuses Loaded; cells = m }) in
          ended r ≡ w.answer → m' ≡ w.cells
          → Came (cond b (gives c) (refuses Loaded)) m' (length m / record_cells) (length text - at) n e)
      go true a c =
          let same = given (sym a ∙ f) in
          let is = cut_is (by_table (lent s l t)) (length m / record_cells) at (drop at text) in
          let few = cut_few is in
          let short = words_few (by_table (lent s l t)) is in
          let count = ap (λ (z : Report). z.count) same in
          record {
            cut = cut_of (first_by (lent s l t)) text at (length m / record_cells);
            is = refl;
            ending = ap (λ (z : Report). z.ending) same;
            count = count;
            rest = drop (record_cells * length (cut_of (first_by (lent s l t)) text at (length m / record_cells)).words) m;
            laid = c;
            few = omega (arith, few, count);
            short = omega (arith, short, count, length-drop at text);
          }
      go false a c = absurd (clash (sym a ∙ f))

  pub came_not : (q : Refusal) → ended r ≡ refuses q → turn_of s l t text at (length m / record_cells) ≡ refuses q
  came_not q f = go (well_formed s l t) cuts.answer
    where
      go : (b : Bool) → (let c = cut_of (first_by (lent s l t)) text at (length m / record_cells) in
          let w = cond b (laid c m) (record { answer = refuses Loaded; cells = m }) in
          ended r ≡ w.answer → cond b (gives c) (refuses Loaded) ≡ refuses q)
      go true a = absurd (clash (sym f ∙ a))
      go false a = cc

-- ---- turns

module _ (kinds : ℕ → ℕ) (before : ℕ) {x : Outcome Cut} {cells : List ℕ} {room left n : ℕ} {e : Ending} (c : Came x cells room left n e) where
  came_lines : turn_lines kinds before x ≡ cell_lines kinds cells n ++ last_line (before + n) e
  came_lines =
      let words : cell_lines kinds cells n ≡ word_lines kinds c.cut.words = rw (c.laid, ← c.count) (cells_words kinds c.cut.words c.rest) in
      rw (c.is, words, c.count, c.ending) refl

  came_next : next_after before x ≡ next_by (before + n) e
  came_next = rw (c.is, c.count, c.ending) refl

module _ (kinds : ℕ → ℕ) (before n : ℕ) {x : Outcome Cut} {cells o o₁ o₂ : List ℕ} {room left mid end : ℕ}
    (put : Writes (cell_lines kinds cells n) o o₁ 0 mid) (fits : end ≤ length o₂) where
  pub turn_done : Came x cells room left n Done → Writes (done_line (before + n)) o₁ o₂ mid end → Turned kinds before x o o₂ (Last end)
  turn_done c last = record {
    lines = rw (came_lines kinds before c) (writes_then (omega arith) put last);
    goes = sym (came_next kinds before c);
    fits = fits;
  }

  pub turn_stuck : (place : ℕ) → Came x cells room left n (StuckAt place) → Writes (stuck_line place) o₁ o₂ mid end
      → Turned kinds before x o o₂ (Last end)
  turn_stuck place c last = record {
    lines = rw (came_lines kinds before c) (writes_then (omega arith) put last);
    goes = sym (came_next kinds before c);
    fits = fits;
  }

pub turn_full : (kinds : ℕ → ℕ) (before n : ℕ) {x : Outcome Cut} {cells o o₁ : List ℕ} {room left mid : ℕ} (place : ℕ)
    → Writes (cell_lines kinds cells n) o o₁ 0 mid → mid ≤ length o₁ → Came x cells room left n (FullAt place)
    → Turned kinds before x o o₁ (Onward place (before + n) mid)
turn_full kinds before n place put fits c = record {
  lines = rw (came_lines kinds before c, append-nil) put;
  goes = sym (came_next kinds before c);
  fits = fits;
}

pub turn_refused : (kinds : ℕ → ℕ) (before : ℕ) {x : Outcome Cut} {o o₁ : List ℕ} {end : ℕ} (r : Refusal) → x ≡ refuses r
    → Writes (refused_line r) o o₁ 0 end → end ≤ length o₁ → Turned kinds before x o o₁ (Last end)
turn_refused kinds before r e put fits = record {
  lines = rw e put;
  goes = rw e refl;
  fits = fits;
}
