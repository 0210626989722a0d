-- Laws for the loops over all rows and over the labels, and from rows and labels to a table.
-- What was reached so far stands in the area, and in front of what remains it is the whole walk.
use Rattle.std.specs.Prelude.{ℕ, ◌+◌, ◌*◌, ◌<◌, ◌≤◌, ◌≡◌, List, [], ◌∷◌, ◌++◌, length, take, set, Result, Ok, Err}
use Rattle.std.proofs.Common.{arith, sym, ap, subst, ◌∙◌, length-append}
use Rattle.std.proofs.lemmas.List.{map-append, length-map}
use Rattle.number.specs.declared.Refusal.{Refusal}
use Rattle.number.specs.Limits.{rules, bytes, states, table_cells, pool}
use Rattle.number.specs.Lists.{written, take_written, stored_one}
use Rattle.meaning.specs.Rules.{label}
use Rattle.walk.specs.Walk.{Item, Walked, row, rows}
use Rattle.walk.specs.Walk.Walked.{halted}
use Rattle.vector.specs.Vectors.{vector_of}
use Rattle.vector.specs.Memory.{numbers_at, item_of, items_of, held_of, Kept}
use Rattle.vector.specs.Promises.{Within, Reads}
use Rattle.vector.specs.PlaceLaws.{vector_length}
use Rattle.vector.specs.MemoryLaws.{items_length, items_next}
use Rattle.steps.specs.declared.Extent.{Extent}
use Rattle.steps.specs.RowLaws.{Rowed, rowed_first, rowed_end, rowed_stop, rowed_next}
use Rattle.steps.specs.CallLaws.{kept_reads}
use Rattle.built.specs.Build.{alone, table_of, built_of}
use Rattle.built.specs.BuiltFormed.{label_most}
use Rattle.row.specs.Fill.{Fillable, Laid, RowComes, RowFilled}
use Rattle.row.specs.FillLaws.{laid_none, laid_on}
use Rattle.filled.specs.Tabled.{RowsComes, RowsFilled, Labelled, labels_of, Tabled}

-- ---- all rows

-- the rows of the items below i stand in the targets
pub record Rowing (before : ℕ) (w : Walked) (t₀ s : List ℕ) (n top count i : ℕ) (t : List ℕ) : Type 0 where
  pub numbers : List ℕ
  pub rowed : Rowed alone i (held_of s n top count) numbers w
  pub laid : t ≡ written t₀ 0 numbers
  pub many : length numbers ≡ i * bytes
  pub inside : i ≤ count
  pub kept : Kept s n top count
  pub low : top ≤ pool
  pub few : count ≤ states
  pub up : before ≤ count

pub rowing_first : {s : List ℕ} {n top count : ℕ} {t : List ℕ} → Fillable s n top count t
    → Rowing count (rows alone states 0 (held_of s n top count)) t s n top count 0 t
rowing_first {s} {n} {top} {count} {t} f =
    record {
      numbers = [];
      rowed = rowed_first alone (held_of s n top count) 0;
      laid = laid_none t 0;
      many = omega arith;
      inside = omega arith;
      kept = f.kept;
      low = f.low;
      few = f.few;
      up = omega arith;
    }

module _ {before : ℕ} {w : Walked} {t₀ s : List ℕ} {n top count i : ℕ} {t : List ℕ} (f : Rowing before w t₀ s n top count i t) where
  pub rowing_end : count ≤ i → RowsComes s n before w t₀ t (Ok (record { top = top; count = count }))
  rowing_end h =
      record {
        numbers = f.numbers;
        walks = rowed_end alone i (held_of s n top count) f.numbers w f.rowed (omega (arith, items_length s n count));
        laid = f.laid;
        ends = let e : i ≡ count = omega (arith, f.inside) in omega (arith, f.many);
        kept = f.kept;
        low = f.low;
        few = f.few;
        up = f.up;
      }

  pub rowing_fillable : table_cells ≤ length t → Fillable s n top count t
  rowing_fillable room = record { kept = f.kept; low = f.low; few = f.few; room = room }

  module _ (more : i < count) {s₁ t₁ : List ℕ} {r : Result Extent Refusal} (x : RowFilled s n top count i t s₁ t₁ r) where
    here : i < length (items_of s n count)
    here = omega (arith, items_length s n count)

    pub rowing_stop : {q : Refusal} → r ≡ Err q → RowsComes s₁ n before w t₀ t₁ (Err q)
    rowing_stop {q} z =
        let halt : row alone i bytes 0 (held_of s n top count) ≡ halted q =
        subst (RowComes s₁ n count (row alone i bytes 0 (held_of s n top count)) t i t₁) z x.comes in
        rowed_stop alone i (held_of s n top count) f.numbers w f.rowed here (omega (arith, f.few)) q halt

    pub rowing_more : {y : Extent} → r ≡ Ok y → Rowing before w t₀ s₁ n y.top y.count (i + 1) t₁
    rowing_more {y} z =
        let g : Laid s₁ n count y.top y.count (row alone i bytes 0 (held_of s n top count)) t (i * bytes) t₁ (i * bytes + bytes) =
        subst (RowComes s₁ n count (row alone i bytes 0 (held_of s n top count)) t i t₁) z x.comes in
        record {
          numbers = f.numbers ++ g.numbers;
          rowed =
              rowed_next alone i (held_of s n top count) f.numbers w f.rowed here (omega (arith, f.few)) (held_of s₁ n y.top y.count)
              g.numbers g.walks;
          laid =
              laid_on t₀ t t₁ f.numbers g.numbers 0 (i * bytes) (omega arith) f.laid (omega (arith, f.many)) g.laid;
          many = omega (arith, length-append f.numbers g.numbers, f.many, g.ends);
          inside = omega (arith, g.up);
          kept = g.kept;
          low = g.low;
          few = g.few;
          up = omega (arith, f.up, g.up);
        }

-- ---- the labels

module _ {s : List ℕ} {n count : ℕ} {l₀ : List ℕ} (o : Labelled s n count l₀) where
  pub labelled_first : l₀ ≡ written l₀ 0 (labels_of (items_of s n 0))
  unfolding items_of
  labelled_first = laid_none l₀ 0

  pub labelled_within : {i : ℕ} → i < count → Within s i
  labelled_within h = record { long = o.long; few = omega (arith, o.few) }

  module _ {i : ℕ} (h : i < count) {v : List ℕ} (loaded : v ≡ numbers_at s i) where
    pub labelled_reads : Reads s n v
    labelled_reads = rw loaded (o.reads i h)

    module _ {a : ℕ} (e : a ≡ label (vector_of s n v)) where
      pub labelled_small : a ≤ rules
      labelled_small =
          let r = labelled_reads in
          omega (arith, label_most 0 (vector_of s n v), vector_length s n v (omega (arith, r.whole, r.few_rules)), r.few_rules)

      pub labelled_more : {l : List ℕ} → length l ≡ length l₀ → l ≡ written l₀ 0 (labels_of (items_of s n i))
          → set l i a ≡ written l₀ 0 (labels_of (items_of s n (i + 1)))
      labelled_more {l} p f =
          let size : length (labels_of (items_of s n i)) ≡ i = length-map (items_of s n i) (λ (x : Item). label x.vector) ∙ items_length s n i in
          let mine : labels_of (items_of s n (i + 1)) ≡ labels_of (items_of s n i) ++ (a ∷ []) =
          ap labels_of (items_next s n i) ∙ map-append (λ (x : Item). label x.vector) (items_of s n i) (item_of s n i ∷ [])
          ∙ ap (λ (b : ℕ). labels_of (items_of s n i) ++ (b ∷ [])) (sym (e ∙ ap (λ (u : List ℕ). label (vector_of s n u)) loaded)) in
          rw mine
          (laid_on l₀ l (set l i a) (labels_of (items_of s n i)) (a ∷ []) 0 i (omega arith) f (omega arith)
          (stored_one l i a (omega (arith, o.room, o.few))))

-- ---- from rows and labels to a table

laid_front : (t t' js : List ℕ) (m : ℕ) → t' ≡ written t 0 js → length js ≡ m → take m t' ≡ js
laid_front t t' js m e p =
    let q : m ≡ 0 + length js = omega arith in
    rw (e, q) (take_written t 0 js (omega arith))

module _ {s : List ℕ} {n top count : ℕ} {t s₁ t₁ : List ℕ} {r : Result Extent Refusal} (x : RowsFilled s n top count t s₁ t₁ r) where
  pub table_stop : {q : Refusal} (l : List ℕ) → r ≡ Err q → Tabled (built_of (rows alone states 0 (held_of s n top count))) l t₁ (Err q)
  table_stop {q} l e =
      record { comes = ap built_of (subst (RowsComes s₁ n count (rows alone states 0 (held_of s n top count)) t t₁) e x.comes) }

  module _ {y : Extent} (e : r ≡ Ok y) where
    rows_laid : Laid s₁ n count y.top y.count (rows alone states 0 (held_of s n top count)) t 0 t₁ (y.count * bytes)
    rows_laid = subst (RowsComes s₁ n count (rows alone states 0 (held_of s n top count)) t t₁) e x.comes

    pub table_labelled : {l : List ℕ} → states ≤ length l → Labelled s₁ n y.count l
    table_labelled room =
        let g = rows_laid in
        record { long = g.kept.long; few = g.few; reads = λ k h. kept_reads k g.kept h; room = room }

    pub table_done : (l : List ℕ) {l₁ : List ℕ} → l₁ ≡ written l 0 (labels_of (items_of s₁ n y.count))
        → Tabled (built_of (rows alone states 0 (held_of s n top count))) l₁ t₁ (Ok y.count)
    table_done l {l₁} d =
        let g = rows_laid in
        let h = held_of s₁ n y.top y.count in
        record {
          comes =
              record {
                table = table_of h g.numbers;
                built = ap built_of g.walks;
                many = items_length s₁ n y.count;
                few = g.few;
                labels =
                    laid_front l l₁ (labels_of (items_of s₁ n y.count)) y.count d
                    (length-map (items_of s₁ n y.count) (λ (z : Item). label z.vector) ∙ items_length s₁ n y.count);
                targets = laid_front t t₁ g.numbers (y.count * bytes) g.laid (omega (arith, g.ends));
              };
        }
