-- Laws of the walk beside a table, one for each place of the two loops that make it: a row, run by run, and the rows.
-- Items keep to states that have a row of targets, since each target has one.
use Rattle.std.specs.Prelude.{ℕ, zero, suc, ◌+◌, ◌*◌, ◌-◌, ◌<◌, ◌≤◌, ◌≡◌, refl, List, [], ◌∷◌, length, get_or, Result, Ok, Err}
use Rattle.std.proofs.Common.{sym, ap, subst, ◌∙◌, add-one, arith, length-append}
use Rattle.std.proofs.Math.Decide.{dec_lt}
use Rattle.std.proofs.Math.ListN.{get_or-append}
use Rattle.std.proofs.lemmas.List.{get_or_at}
use Rattle.number.specs.declared.Refusal.{Refusal}
use Rattle.number.specs.declared.Refusal.TheVariants.{Pairs}
use Rattle.number.specs.Limits.{bytes}
use Rattle.meaning.specs.Re.{Re}
use Rattle.meaning.specs.Edges.{next_edge_all}
use Rattle.meaning.proofs.EdgeLaws.{edge_all_after, edge_all_within}
use Rattle.walk.specs.Vectors.{Vector}
use Rattle.walk.specs.Vectors.Vector.{TooLong, Terms}
use Rattle.walk.specs.Walk.{Item, none, Held, nothing_held, Step, Way, step, row, rows, begin_by}
use Rattle.walk.specs.Walk.Step.{reached}
use Rattle.walk.specs.StepLaws.{item, count, Came, came, reached_held, no_reach, Moved, step_moved}
use Rattle.walk.specs.StepLaws.Came.{held, full, over, new}
use Rattle.walk.specs.StepLaws.Moved.{again, fresh}
use Rattle.table.specs.Promises.{RunTo}
use Rattle.vector.specs.Layout.{items, sheets_at}
use Rattle.vector.specs.Vectors.{vector_of}
use Rattle.vector.specs.Memory.{numbers_at, item_of, items_of, held_of}
use Rattle.vector.specs.Promises.{Within, ReadsShort}
use Rattle.vector.specs.MemoryLaws.{items_length, items_at}
use Rattle.steps.specs.declared.Extent.{Extent}
use Rattle.steps.specs.declared.Reached.{Reached}
use Rattle.steps.specs.Step.{way_of, Ready, Went, Comes, Steps, first_item}
use Rattle.steps.specs.WayLaws.{step_way}
use Rattle.steps.specs.CallLaws.{kept_short}
use Rattle.steps.specs.RowLaws.{Along, along_first, along_end, along_stop, item_after, run_on, Rowed, rowed_first, rowed_end, rowed_stop, rowed_next}
use Rattle.verdict.specs.Compare.{state_of, number_told}
use Rattle.verdict.specs.NumberLaws.{told_after}
use Rattle.pairs.specs.Promises.{by_targets, HasRow, Closed, Beside, Walks, Ends}

-- ---- items keep to states that have a row

abbrev Sheets : List ℕ → Held → Type 0
Sheets targets h = (k : ℕ) → k < count h → HasRow targets (state_of (item h k).sheet)

moved_sheets : (targets : List ℕ) {x : Item} {c : ℕ} {h h₁ : Held} {j : ℕ} → Closed targets → HasRow targets (state_of x.sheet) → c < bytes → Sheets targets h
    → Moved (by_targets targets) x c h h₁ j → Sheets targets h₁
moved_sheets targets ok l b f (again j m p q) = f
moved_sheets targets {x} {c} {h} ok l b f (fresh y p q t m n) = λ k o.
    elim (dec_lt k (count h)) [
      | yes a ↦ rw (get_or-append h.items (y ∷ []) none k a) (f k a)
      | no g ↦
          let e : count h ≡ k = omega (arith, length-append h.items (y ∷ [])) in
          rw (get_or_at h.items y [] none k e, p) (ok (state_of x.sheet * bytes + c) (omega arith))
    ]

sheets_held : (targets s : List ℕ) (n top m : ℕ) → ((k : ℕ) → k < m → HasRow targets (state_of (get_or s (sheets_at + k) 0))) → Sheets targets (held_of s n top m)
sheets_held targets s n top m f k l =
    let o : k < m = omega (arith, items_length s n m) in
    subst (λ (x : Item). HasRow targets (state_of x.sheet)) (sym (items_at s n m k o)) (f k o)

held_sheets : (targets s : List ℕ) (n top m : ℕ) → Sheets targets (held_of s n top m) → (k : ℕ) → k < m → HasRow targets (state_of (get_or s (sheets_at + k) 0))
held_sheets targets s n top m f k l =
    subst (λ (x : Item). HasRow targets (state_of x.sheet)) (items_at s n m k l) (f k (omega (arith, items_length s n m)))

-- the first item stands beside state 0
first_sheet : (way : Way) (v : List Re) {x : Step} → Came way 0 nothing_held (first_item v) x → (h : Held) (j : ℕ) → x ≡ reached h j
    → (k : ℕ) → k < count h → (item h k).sheet ≡ 0
first_sheet way v (held j l p n) h k e = absurd (omega arith)
first_sheet way v (full n l) h k e = absurd (no_reach e)
first_sheet way v (over n l o) h k e = absurd (no_reach e)
first_sheet way v (new n l o) h j e = subst (λ (g : Held). (k : ℕ) → k < count g → (item g k).sheet ≡ 0) (reached_held e) go
  where
    go : (k : ℕ) → k < 1 → (get_or (first_item v ∷ []) k none).sheet ≡ 0
    go zero l = refl
    go (suc k) l = absurd (omega arith)

begun_sheet : (way : Way) (u : Vector) (h : Held) (j : ℕ) → begin_by way u ≡ reached h j → (k : ℕ) → k < count h → (item h k).sheet ≡ 0
begun_sheet way TooLong h j e = absurd (no_reach e)
begun_sheet way (Terms v) h j e = first_sheet way v (came way 0 nothing_held (first_item v)) h j e

pub beside_first : (targets : List ℕ) (u : Vector) (s : List ℕ) (n top m j : ℕ) → HasRow targets 0
    → Went s n 0 items top m j (begin_by (by_targets targets) u) → Beside s n top m targets
beside_first targets u s n top m j some went = record {
  kept = went.kept;
  low = went.low;
  few = went.few;
  sheets =
      held_sheets targets s n top m
      (λ k l. rw (begun_sheet (by_targets targets) u (held_of s n top m) j went.goes k l) some);
}

-- ---- a row, run by run

-- the row of item i, whose targets start at base, has come to byte c
pub record Turn (s₀ : List ℕ) (n top₀ count₀ i : ℕ) (targets : List ℕ) (place base : ℕ) (s : List ℕ) (top count c : ℕ) : Type 0 where
  pub same_length : length s ≡ length s₀
  pub beside : Beside s n top count targets
  pub inside : i < count
  pub placed : place ≡ number_told (items_of s n count) i
  pub based : base ≡ state_of (get_or s (sheets_at + i) 0) * bytes
  pub numbers : List ℕ
  pub along : Along (by_targets targets) i c (held_of s n top count) numbers (row (by_targets targets) i bytes 0 (held_of s₀ n top₀ count₀))

-- a step from byte c came to an item: what the code asks then, and the turn that follows
pub record Onward (s₀ : List ℕ) (n top₀ count₀ i : ℕ) (targets : List ℕ) (place base : ℕ) (s : List ℕ) (top count c : ℕ) : Type 0 where
  pub within : Within s i
  pub reads_on : {v : List ℕ} → v ≡ numbers_at s i → ReadsShort s n v
  -- the run goes on to the next edge at most, which lies in the row
  pub some : {v : List ℕ} {edge : ℕ} → v ≡ numbers_at s i → edge ≡ next_edge_all c (vector_of s n v) → base + c < base + edge
  pub fits : {v : List ℕ} {edge : ℕ} → v ≡ numbers_at s i → edge ≡ next_edge_all c (vector_of s n v) → base + edge ≤ length targets
  pub next : {v : List ℕ} {edge end : ℕ} → v ≡ numbers_at s i → edge ≡ next_edge_all c (vector_of s n v) → RunTo targets (base + c) (base + edge) end
      → Turn s₀ n top₀ count₀ i targets place base s top count (end - base)

pub turn_first : (s : List ℕ) (n top count i : ℕ) (targets : List ℕ) (place base : ℕ) → Beside s n top count targets → i < count
    → place ≡ number_told (items_of s n count) i → base ≡ state_of (get_or s (sheets_at + i) 0) * bytes → Turn s n top count i targets place base s top count 0
turn_first s n top count i targets place base b l p e = record {
  same_length = refl;
  beside = b;
  inside = l;
  placed = p;
  based = e;
  numbers = [];
  along = along_first (by_targets targets) i (held_of s n top count);
}

module _ (s₀ : List ℕ) (n top₀ count₀ i : ℕ) (targets : List ℕ) (place base : ℕ) (s : List ℕ) (top count₁ c : ℕ)
    (turn : Turn s₀ n top₀ count₀ i targets place base s top count₁ c) where
  -- no byte remains
  pub turn_end : bytes ≤ c → Walks n targets s top count₁ (row (by_targets targets) i bytes 0 (held_of s₀ n top₀ count₀))
  turn_end l = record {
    numbers = turn.numbers;
    goes =
        along_end (by_targets targets) i c (held_of s n top count₁) turn.numbers
        (row (by_targets targets) i bytes 0 (held_of s₀ n top₀ count₀)) turn.along l;
    beside = turn.beside;
  }

  module _ (closed : Closed targets) (small : c < bytes) where
    here : item (held_of s n top count₁) i ≡ item_of s n i
    here = items_at s n count₁ i turn.inside

    -- the target to read is there, and a step can be made
    pub turn_reads : base + c < length targets
    turn_reads = omega (arith, turn.based, turn.beside.sheets i turn.inside)

    pub turn_ready : Ready s n top count₁ items i c
    turn_ready = record {
      kept = turn.beside.kept;
      low = turn.beside.low;
      inside = turn.inside;
      few = turn.beside.few;
      most = omega arith;
      small = small;
    }

    -- ---- the step, and what it came to

    module _ (to : ℕ) (read : to ≡ get_or targets (base + c) 0 + 1) (s' : List ℕ) (x : Result Reached Refusal)
        (made : Steps s n count₁ items s' (step (way_of to items place (Pairs place)) i (held_of s n top count₁) c) x) where
      -- the code's step is the walk's
      as_way : step (way_of to items place (Pairs place)) i (held_of s n top count₁) c ≡ step (by_targets targets) i (held_of s n top count₁) c
      as_way =
          step_way (by_targets targets) i to items place (Pairs place) (held_of s n top count₁) c
          (read ∙ add-one (get_or targets (base + c) 0) ∙ ap (λ (b : ℕ). suc (get_or targets (b + c) 0)) (turn.based ∙ ap (λ (y : Item). state_of y.sheet * bytes) (sym here)))
          refl turn.placed refl refl

      pub turn_stops : (r : Refusal) → x ≡ Err r → Ends n targets s' (row (by_targets targets) i bytes 0 (held_of s₀ n top₀ count₀)) (Err r)
      turn_stops r e =
          along_stop (by_targets targets) i c (held_of s n top count₁) turn.numbers (row (by_targets targets) i bytes 0 (held_of s₀ n top₀ count₀))
          r turn.along small
          (sym as_way ∙ subst (Comes s' n count₁ items (step (way_of to items place (Pairs place)) i (held_of s n top count₁) c)) e made.comes)

      module _ (y : Reached) (e : x ≡ Ok y) where
        abbrev top' : ℕ
        top' = y.held.top

        abbrev count' : ℕ
        count' = y.held.count

        abbrev j : ℕ
        j = y.number

        went : Went s' n count₁ items top' count' j (step (way_of to items place (Pairs place)) i (held_of s n top count₁) c)
        went = subst (Comes s' n count₁ items (step (way_of to items place (Pairs place)) i (held_of s n top count₁) c)) e made.comes

        goes : step (by_targets targets) i (held_of s n top count₁) c ≡ reached (held_of s' n top' count') j
        goes = sym as_way ∙ went.goes

        still : i < count'
        still = omega (arith, went.up, turn.inside)

        after : item_of s' n i ≡ item_of s n i
        after = item_after (by_targets targets) i c s n top count₁ s' top' count' j turn.inside goes ∙ here

        based_after : base ≡ state_of (get_or s' (sheets_at + i) 0) * bytes
        based_after = turn.based ∙ ap (λ (y : Item). state_of y.sheet * bytes) (sym after)

        beside_after : Beside s' n top' count' targets
        beside_after = record {
          kept = went.kept;
          low = went.low;
          few = went.few;
          sheets =
              held_sheets targets s' n top' count'
              (moved_sheets targets closed (sheets_held targets s n top count₁ turn.beside.sheets i (omega (arith, items_length s n count₁, turn.inside))) small
              (sheets_held targets s n top count₁ turn.beside.sheets)
              (step_moved (by_targets targets) i (held_of s n top count₁) c (held_of s' n top' count') j goes));
        }

        turn_next : (v : List ℕ) (edge end : ℕ) → v ≡ numbers_at s' i → edge ≡ next_edge_all c (vector_of s' n v)
            → RunTo targets (base + c) (base + edge) end → Turn s₀ n top₀ count₀ i targets place base s' top' count' (end - base)
        turn_next v edge end loaded edged run = record {
          same_length = made.same_length ∙ turn.same_length;
          beside = beside_after;
          inside = still;
          placed = turn.placed ∙ sym (told_after (step_moved (by_targets targets) i (held_of s n top count₁) c (held_of s' n top' count') j goes) (omega (arith, items_length s n count₁, turn.inside)));
          based = based_after;
          numbers = _;
          along =
              run_on (by_targets targets) i c s n top count₁ s' top' count' j turn.inside goes (end - base) turn.numbers
              (row (by_targets targets) i bytes 0 (held_of s₀ n top₀ count₀)) turn.along (omega (arith, run.onward))
              (subst (λ (u : List ℕ). end - base ≤ next_edge_all c (vector_of s' n u)) loaded (omega (arith, run.within, edged)))
              (λ d k l.
              subst (λ (b : ℕ). suc (get_or targets (b + d) 0) ≡ suc (get_or targets (b + c) 0)) based_after
              (ap suc (run.alike (base + d) (omega arith) (omega arith))));
        }

        pub turn_on : Onward s₀ n top₀ count₀ i targets place base s' top' count' c
        turn_on = record {
          within = record { long = went.kept.long; few = omega (arith, still, went.few) };
          reads_on = λ q. rw q (kept_short i went.kept still);
          some = λ {v} o q. omega (arith, q, edge_all_after c (vector_of s' n v) (omega arith));
          fits = λ {v} o q.
              omega (arith, q, edge_all_within c (vector_of s' n v), turn.based, turn.beside.sheets i turn.inside);
          next = λ {v} {edge} {end} q o r. turn_next v edge end q o r;
        }

-- ---- the walk, row by row

-- the rows of the items below i have been walked
pub record Rounds (s₀ : List ℕ) (n top₀ count₀ : ℕ) (targets : List ℕ) (s : List ℕ) (top count i : ℕ) : Type 0 where
  pub same_length : length s ≡ length s₀
  pub beside : Beside s n top count targets
  pub numbers : List ℕ
  pub rowed : Rowed (by_targets targets) i (held_of s n top count) numbers (rows (by_targets targets) items 0 (held_of s₀ n top₀ count₀))

pub rounds_first : (s : List ℕ) (n top count : ℕ) (targets : List ℕ) → Beside s n top count targets → Rounds s n top count targets s top count 0
rounds_first s n top count targets b = record {
  same_length = refl;
  beside = b;
  numbers = [];
  rowed = rowed_first (by_targets targets) (held_of s n top count) 0;
}

module _ (s₀ : List ℕ) (n top₀ count₀ : ℕ) (targets : List ℕ) (s : List ℕ) (top count₁ i : ℕ)
    (rounds : Rounds s₀ n top₀ count₀ targets s top count₁ i) where
  -- no item remains
  pub rounds_end : count₁ ≤ i → Walks n targets s top count₁ (rows (by_targets targets) items 0 (held_of s₀ n top₀ count₀))
  rounds_end l = record {
    numbers = rounds.numbers;
    goes =
        rowed_end (by_targets targets) i (held_of s n top count₁) rounds.numbers
        (rows (by_targets targets) items 0 (held_of s₀ n top₀ count₀)) rounds.rowed (omega (arith, items_length s n count₁));
    beside = rounds.beside;
  }

  module _ (inside : i < count₁) (s' : List ℕ) (x : Result Extent Refusal)
      (walks : Ends n targets s' (row (by_targets targets) i bytes 0 (held_of s n top count₁)) x) where
    pub rounds_stop : (r : Refusal) → x ≡ Err r → Ends n targets s' (rows (by_targets targets) items 0 (held_of s₀ n top₀ count₀)) (Err r)
    rounds_stop r e =
        rowed_stop (by_targets targets) i (held_of s n top count₁) rounds.numbers (rows (by_targets targets) items 0 (held_of s₀ n top₀ count₀))
        rounds.rowed (omega (arith, items_length s n count₁)) (omega (arith, rounds.beside.few)) r
        (subst (Ends n targets s' (row (by_targets targets) i bytes 0 (held_of s n top count₁))) e walks)

    pub rounds_next : length s' ≡ length s → (y : Extent) → x ≡ Ok y → Rounds s₀ n top₀ count₀ targets s' y.top y.count (i + 1)
    rounds_next kept y e =
        let w = subst (Ends n targets s' (row (by_targets targets) i bytes 0 (held_of s n top count₁))) e walks in
        record {
          same_length = kept ∙ rounds.same_length;
          beside = w.beside;
          numbers = _;
          rowed =
              rowed_next (by_targets targets) i (held_of s n top count₁) rounds.numbers (rows (by_targets targets) items 0 (held_of s₀ n top₀ count₀))
              rounds.rowed (omega (arith, items_length s n count₁)) (omega (arith, rounds.beside.few))
              (held_of s' n y.top y.count) w.numbers w.goes;
        }
