-- Laws for the loop that fills a row, run by run.
-- What was reached so far stands in the targets, and in front of what remains it is the whole row.
use Rattle.std.specs.Prelude.{ℕ, ◌+◌, ◌*◌, ◌-◌, ◌<◌, ◌≤◌, ◌≡◌, refl, List, [], ◌++◌, length, replicate, Result, Ok, Err}
use Rattle.std.proofs.Common.{add-zero, arith, sym, ap, ◌∙◌, append-nil, take-append-drop}
use Rattle.number.specs.declared.Refusal.{Refusal}
use Rattle.number.specs.declared.Refusal.TheVariants.{States}
use Rattle.number.specs.Limits.{bytes, states, table_cells, pool}
use Rattle.number.specs.Lists.{written, written_more}
use Rattle.meaning.specs.Edges.{next_edge_all}
use Rattle.meaning.proofs.EdgeLaws.{edge_all_after, edge_all_within}
use Rattle.walk.specs.Walk.{Item, step, Walked, row}
use Rattle.walk.specs.StepLaws.{item}
use Rattle.vector.specs.Vectors.{vector_of}
use Rattle.vector.specs.Memory.{numbers_at, held_of, Kept}
use Rattle.vector.specs.Promises.{Within, ReadsShort}
use Rattle.vector.specs.MemoryLaws.{items_length, items_at}
use Rattle.steps.specs.declared.Reached.{Reached}
use Rattle.steps.specs.Step.{way_of, Ready, Steps}
use Rattle.steps.specs.RowLaws.{Along, along_first, along_end, along_stop, along_run}
use Rattle.steps.specs.CallLaws.{went, halts, steps_way, kept_short}
use Rattle.built.specs.Build.{alone}
use Rattle.row.specs.Fill.{Fillable, RowComes}

-- ---- numbers in memory, one run behind another

pub laid_none : (t : List ℕ) (at : ℕ) → t ≡ written t at []
unfolding written
laid_none t at = rw (add-zero, append-nil) (sym (take-append-drop at t))

pub laid_on : (t₀ t t₁ js ks : List ℕ) (at here : ℕ) → at ≤ length t₀ → t ≡ written t₀ at js → here ≡ at + length js → t₁ ≡ written t here ks
    → t₁ ≡ written t₀ at (js ++ ks)
laid_on t₀ t t₁ js ks at here h e p f = f ∙ rw (e, p) (written_more t₀ at js ks h)

-- ---- a row, run by run

-- the bytes below c are passed: their numbers stand in the item's row
pub record Filling (before : ℕ) (w : Walked) (t₀ : List ℕ) (i : ℕ) (s : List ℕ) (n top count c : ℕ) (t : List ℕ) : Type 0 where
  pub numbers : List ℕ
  pub along : Along alone i c (held_of s n top count) numbers w
  pub laid : t ≡ written t₀ (i * bytes) numbers
  pub kept : Kept s n top count
  pub low : top ≤ pool
  pub few : count ≤ states
  pub up : before ≤ count

pub filling_first : {s : List ℕ} {n top count : ℕ} {t : List ℕ} (i : ℕ) → Fillable s n top count t
    → Filling count (row alone i bytes 0 (held_of s n top count)) t i s n top count 0 t
filling_first {s} {n} {top} {count} {t} i f =
    record {
      numbers = [];
      along = along_first alone i (held_of s n top count);
      laid = laid_none t (i * bytes);
      kept = f.kept;
      low = f.low;
      few = f.few;
      up = omega arith;
    }

module _ {before : ℕ} {w : Walked} {t₀ : List ℕ} {i : ℕ} {s : List ℕ} {n top count c : ℕ} {t : List ℕ}
    (f : Filling before w t₀ i s n top count c t) where
  pub filling_end : bytes ≤ c → RowComes s n before w t₀ i t (Ok (record { top = top; count = count }))
  filling_end h =
      record {
        numbers = f.numbers;
        walks = along_end alone i c (held_of s n top count) f.numbers w f.along h;
        laid = f.laid;
        ends = omega (arith, f.along.passed, f.along.within);
        kept = f.kept;
        low = f.low;
        few = f.few;
        up = f.up;
      }

  module _ (inside : i < before) (more : c < bytes) where
    pub filling_within : Within s i
    filling_within = record { long = f.kept.long; few = omega (arith, f.up, f.few) }

    pub filling_ready : Ready s n top count states i c
    filling_ready =
        record { kept = f.kept; low = f.low; inside = omega (arith, f.up); few = f.few; most = omega arith; small = more }

    pub filling_reads : {v : List ℕ} → v ≡ numbers_at s i → ReadsShort s n v
    filling_reads loaded = rw loaded (kept_short i f.kept (omega (arith, f.up)))

    module _ {v : List ℕ} {edge : ℕ} (loaded : v ≡ numbers_at s i) (e : edge ≡ next_edge_all c (vector_of s n v)) where
      pub edge_on : c < edge
      edge_on = omega (arith, edge_all_after c (vector_of s n v) (omega arith))

      pub edge_most : edge ≤ bytes
      edge_most = omega (arith, edge_all_within c (vector_of s n v))

      edge_is : edge ≡ next_edge_all c (item (held_of s n top count) i).vector
      edge_is =
          e ∙ ap (λ (u : List ℕ). next_edge_all c (vector_of s n u)) loaded
          ∙ ap (λ (x : Item). next_edge_all c x.vector) (sym (items_at s n count i (omega (arith, f.up))))

      module _ {s₁ : List ℕ} {r : Result Reached Refusal} (x : Steps s n count states s₁ (step (way_of 0 states i (States i)) i (held_of s n top count) c) r) where
        own : Steps s n count states s₁ (step alone i (held_of s n top count) c) r
        own = steps_way alone i 0 states i (States i) (held_of s n top count) c x refl refl refl refl refl

        -- a refusal ends the row
        pub filling_stop : {q : Refusal} (t₁ : List ℕ) → r ≡ Err q → RowComes s₁ n before w t₀ i t₁ (Err q)
        filling_stop {q} t₁ z =
            along_stop alone i c (held_of s n top count) f.numbers w q f.along more (halts own z)

        module _ {y : Reached} (z : r ≡ Ok y) where
          pub filling_small : y.number < states
          filling_small = omega (arith, (went own z).inside, (went own z).few)

          -- one run more
          pub filling_more : {t₁ : List ℕ} → table_cells ≤ length t₀
              → t₁ ≡ written t (i * bytes + c) (replicate (i * bytes + edge - (i * bytes + c)) y.number)
              → Filling before w t₀ i s₁ n y.held.top y.held.count edge t₁
          filling_more {t₁} room e =
              let g = went own z in
              let width : i * bytes + edge - (i * bytes + c) ≡ edge - c = omega arith in
              record {
                numbers = f.numbers ++ replicate (edge - c) y.number;
                along =
                    along_run alone i c edge (held_of s n top count) (held_of s₁ n y.held.top y.held.count) y.number f.numbers w f.along
                    (omega (arith, f.up, items_length s n count)) g.goes edge_on (omega (arith, edge_is)) (λ d k l. refl);
                laid =
                    laid_on t₀ t t₁ f.numbers (replicate (edge - c) y.number) (i * bytes) (i * bytes + c) (omega (arith, f.up, f.few)) f.laid
                    (omega (arith, f.along.passed)) (rw width at e);
                kept = g.kept;
                low = g.low;
                few = g.few;
                up = omega (arith, f.up, g.up);
              }
