-- The theorems of cutting that are bought, together; each is proved in the file that its proof names.
-- To believe them, read the definitions: Steps, Cut, Tiles, Pieces, Calls, Flat, Left, Promises, Dead, Sample, and meaning's Words.
use Rattle.std.specs.Prelude.{ℕ, ◌+◌, ◌*◌, ◌/◌, ◌≤◌, ◌≡◌, refl, true, false, List, [], ◌∷◌, map, ◌↔◌, length, take, drop, Result}
use Rattle.number.specs.declared.Refusal.{Refusal}
use Rattle.number.specs.Refused.{row_of}
use Rattle.number.specs.Refused.Row.{row}
use Rattle.number.specs.Refused.Outcome.{gives}
use Rattle.meaning.specs.Re.{Text}
use Rattle.meaning.specs.Words.{Found}
use Rattle.meaning.specs.Words.Found.{Stuck, Word as Found·word}
use Rattle.table.specs.Table.{Table, lent, well_formed}
use Rattle.cutting.specs.declared.Word.{Word}
use Rattle.cutting.specs.Steps.{label_of, FirstBy, first_by}
use Rattle.cutting.specs.Cut.{Cut, Cuts, cut_by}
use Rattle.cutting.specs.Cut.Ending.{Done, FullAt}
use Rattle.cutting.specs.CutLaws.{by_table, cut_exactly}
use Rattle.cutting.specs.Tiles.{On}
use Rattle.cutting.specs.TileLaws.{cut_enough, not_full, cut_on}
use Rattle.cutting.specs.Pieces.{Tiled}
use Rattle.cutting.specs.PieceLaws.{cut_tiled}
use Rattle.cutting.specs.declared.Ended.{Ended}
use Rattle.cutting.specs.Calls.{Report, ended, cut_from_of}
use Rattle.cutting.specs.Flat.{cut_cells_of}
use Rattle.cutting.specs.Promises.{CutsInto, CutsWords}
use Rattle.cutting.specs.Left.{numbers_of, Leaves}
use Rattle.cutting.specs.LeftLaws.{records_left, cells_left, calls_agree, unformed, nothing_left}
use Rattle.cutting.specs.Sample.{lines, records_of, stated_records, cells_of, stated_cells, worked_lines}
use Rattle.cutting.specs.Sample.{table_w, table_all, labelled, begun, words_begun, dead_in, dead_found}

-- ---- cuts

-- a text has exactly one first word by a table: longest, under the table's label; the walk finds it
pub the_first_word : (t : Table) (text : Text) (f : Found) → FirstBy t text f ↔ (first_by t text ≡ f)
the_first_word t text f = let by = by_table t in (λ p. by.one text (first_by t text) f (by.found text) p, λ e. rw (← e) (by.found text))

-- a text has exactly one cut, and it is the one that is worked out
pub the_cut : (t : Table) (room at : ℕ) (text : Text) (x : Cut) → Cuts (FirstBy t) room at text x ↔ (cut_by (first_by t) room at text ≡ x)
the_cut t = cut_exactly (by_table t)

-- its words tile the text from where it starts to where it ends, each the first word at its place, and joined they are that part of the text;
-- there are no more of them than records; and it ends where they end: with the text, where no word starts, or where one does and no record is free
pub the_tiling : (t : Table) (text : Text) (room at : ℕ) (c : Cut) → at ≤ length text → Cuts (FirstBy t) room at (drop at text) c
    → Tiled (FirstBy t) text room at c
the_tiling t text room at c h cuts = cut_tiled (by_table t) text cuts refl h

-- cutting on from where a full list stopped is cutting the rest; a cut that was not full needs no more records
pub the_rest : (t : Table) (m k at : ℕ) (text : Text) (p : ℕ) → (cut_by (first_by t) m at text).ending ≡ FullAt p → On (first_by t) m k at text p
the_rest t = cut_on (by_table t)

pub the_end : (t : Table) (m k at : ℕ) (text : Text) → ((p : ℕ) → (cut_by (first_by t) m at text).ending ≡ FullAt p → ⊥)
    → cut_by (first_by t) (m + k) at text ≡ cut_by (first_by t) m at text
the_end t m k at text n = cut_enough (by_table t) m k at text (not_full (cut_by (first_by t) m at text).ending n)

-- ---- calls

-- by a table that is well formed: the words of the one cut from the place on, with as many as there is room for, stand in front; the answer has
-- their number; what stands behind them is as before. On records, and on numbers, three to a record
pub the_records : (s : ℕ) (labels targets : List ℕ) (text : Text) (at : ℕ) → well_formed s labels targets ≡ true → (records : List Word)
    → Leaves (λ ws. ws) (FirstBy (lent s labels targets)) text at (length records) records (cut_from_of s labels targets text at records).answer
    (cut_from_of s labels targets text at records).records
the_records = records_left

pub the_cells : (s : ℕ) (labels targets : List ℕ) (text : Text) (at : ℕ) → well_formed s labels targets ≡ true → (cells : List ℕ)
    → Leaves numbers_of (FirstBy (lent s labels targets)) text at (length cells / 3) cells (cut_cells_of s labels targets text at cells).answer
    (cut_cells_of s labels targets text at cells).cells
the_cells = cells_left

-- and this is what the code's two calls promise, `cut` from the start of the text
pub the_promises : (s : ℕ) (labels targets : List ℕ) (text : Text) → well_formed s labels targets ≡ true
    → ((before after : List Word) (r : Result Ended Refusal) → CutsWords s labels targets text before after r
    → Leaves (λ ws. ws) (FirstBy (lent s labels targets)) text 0 (length before) before (ended r) after)
    × ((at : ℕ) (before after : List ℕ) (r : Result Ended Refusal) → CutsInto s labels targets text at before after r
    → Leaves numbers_of (FirstBy (lent s labels targets)) text at (length before / 3) before (ended r) after)
the_promises s labels targets text e = (
  λ before after r p. rw (p.answer, p.records) (the_records s labels targets text 0 e before),
  λ at before after r p. rw (p.answer, p.cells) (the_cells s labels targets text at e before),
)

-- where both have room for as many words they answer alike, and the cells are the records' numbers: start, length, rule
pub the_agreement : (s : ℕ) (labels targets : List ℕ) (text : Text) (at : ℕ) (records : List Word) (cells : List ℕ) → length records ≡ length cells / 3
    → ((cut_cells_of s labels targets text at cells).answer ≡ (cut_from_of s labels targets text at records).answer)
    × ((x : Report) → (cut_from_of s labels targets text at records).answer ≡ gives x
    → take (3 * x.count) (cut_cells_of s labels targets text at cells).cells ≡ numbers_of (take x.count (cut_from_of s labels targets text at records).records))
the_agreement = calls_agree

-- where no byte is left, at the end of a text or past it, each call is Done with no word, whatever the labels; an empty text among them
pub the_empty_rest : (s : ℕ) (labels targets : List ℕ) (text : Text) (at : ℕ) → well_formed s labels targets ≡ true → length text ≤ at
    → ((records : List Word) → cut_from_of s labels targets text at records ≡ record { answer = gives (record { ending = Done; count = 0 }); records = records })
    × ((cells : List ℕ) → cut_cells_of s labels targets text at cells ≡ record { answer = gives (record { ending = Done; count = 0 }); cells = cells })
the_empty_rest = nothing_left

-- by a table that is not well formed each is refused, 10 at 0, and leaves everything as it was
pub the_refusal : (s : ℕ) (labels targets : List ℕ) (text : Text) (at : ℕ) → well_formed s labels targets ≡ false
    → ((records : List Word) → (row_of (cut_from_of s labels targets text at records).answer ≡ row 10 0) × ((cut_from_of s labels targets text at records).records ≡ records))
    × ((cells : List ℕ) → (row_of (cut_cells_of s labels targets text at cells).answer ≡ row 10 0) × ((cut_cells_of s labels targets text at cells).cells ≡ cells))
the_refusal = unformed

-- ---- cuts worked by hand

-- 23 cuts, on records as the code answers them, and on numbers
pub the_worked_cuts : (map records_of lines ≡ map stated_records lines) × (map cells_of lines ≡ map stated_cells lines)
the_worked_cuts = worked_lines

-- the sample's P1 to P7 and P8 to P10 by the table of W
pub the_sample : (map (label_of table_w) labelled ≡ 1 ∷ 2 ∷ 2 ∷ 3 ∷ 4 ∷ 0 ∷ 0 ∷ []) × (map (first_by table_w) begun ≡ Found·word 1 1 ∷ Found·word 3 1 ∷ Stuck ∷ [])
the_sample = (refl, words_begun)

-- state 1 of W is the dead one, where the walk for a word stops; a state with a label is none, and then the number of states stands for it
pub the_dead_states : (dead_in table_w ≡ 1) × (dead_in table_all ≡ 1)
the_dead_states = dead_found
