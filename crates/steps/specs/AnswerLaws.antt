-- One law for each answer of the code: where its tests led there, the answer is walk's.
-- Deriving a vector that is held adds nothing to the pool, so that its top stays; a new item moves the top.
use Rattle.std.specs.Prelude.{ℕ, ◌+◌, ◌<◌, ◌≤◌, ◌≡◌, List, [], ◌∷◌, ◌++◌, length, get_or, Option, Some, None, unwrap_or, Ok, Err}
use Rattle.std.proofs.Math.Path.{refl, ap}
use Rattle.std.proofs.Common.{sym, ◌∙◌, arith}
use Rattle.number.specs.declared.Refusal.{Refusal}
use Rattle.number.specs.declared.Refusal.TheVariants.{Long, Pool}
use Rattle.number.specs.Limits.{pool}
use Rattle.meaning.specs.Re.{Re}
use Rattle.meaning.specs.Re.Re.{Nothing}
use Rattle.term.specs.Cells.{Sound}
use Rattle.term.specs.CellLaws.{frame}
use Rattle.pool.specs.Pooled.{terms_of}
use Rattle.pool.specs.Index.{Indexed}
use Rattle.pool.specs.IndexLaws.{indexed_same}
use Rattle.pool.specs.PoolLaws.{pool_length, pooled, terms_length, term_held_below}
use Rattle.pool.specs.ClosedLaws.{pool_closed}
use Rattle.walk.specs.Vectors.{Vector, derived}
use Rattle.walk.specs.Vectors.Vector.{TooLong, Terms}
use Rattle.walk.specs.Parts.{with_vector, InPool}
use Rattle.walk.specs.PartsLaws.{vector_held}
use Rattle.walk.specs.Walk.{Item, none, Held, nothing_held, number_in, Way, added, come, after, come_by, step}
use Rattle.walk.specs.Walk.Step.{reached}
use Rattle.walk.specs.StepLaws.{item}
use Rattle.vector.specs.Layout.{items}
use Rattle.vector.specs.Vectors.{vector_of, Numbers}
use Rattle.vector.specs.PlaceLaws.{vector_length, vector_at}
use Rattle.vector.specs.Memory.{numbers_at, text_of, item_of, items_of, held_of, Kept, First}
use Rattle.vector.specs.Promises.{Done, Spared, Finds, item_stored}
use Rattle.vector.specs.MemoryLaws.{
  items_length,
  items_at,
  items_spared,
  terms_spared,
  kept_spared,
  kept_grown,
  found_number,
  stored_length,
  stored_low,
  stored_terms,
  stored_kept,
  stored_first,
  stored_next,
}
use Rattle.steps.specs.Step.{way_of, Ready, Steps, first_item, Begins}
use Rattle.steps.specs.ComeLaws.{come_held, come_full, come_pool, come_new}

held_as : {items items' : List Item} {terms terms' : List Re} → items ≡ items' → terms ≡ terms'
    → ◌≡◌ {A = Held} (record { items = items; pool = terms }) (record { items = items'; pool = terms' })
held_as p q = λ i. record { items = p i; pool = q i }

-- ---- a step, after item i was loaded and derived

module _ (s : List ℕ) (n top count limit i place byte sheet : ℕ) (full : Refusal) (ok : Ready s n top count limit i byte) (v : List ℕ)
    (loaded : v ≡ numbers_at s i) (s' : List ℕ) (spared : Spared s top s') where
  abbrev way : Way
  way = way_of sheet limit place full

  abbrev old : Held
  old = held_of s n top count

  few : count ≤ items
  few = omega (arith, ok.few, ok.most)

  here : item old i ≡ item_of s n i
  here = items_at s n count i ok.inside

  from : vector_of s n v ≡ (item old i).vector
  from = ap (vector_of s n) loaded ∙ ap (λ (x : Item). x.vector) (sym here)

  step_by : (d : Vector) → derived byte (vector_of s n v) ≡ d → step way i old byte ≡ come_by way i old byte d
  unfolding step
  step_by d e = ap (come_by way i old byte) (ap (derived byte) (sym from) ∙ e)

  -- a term on the way was too long
  pub answer_long : derived byte (vector_of s n v) ≡ TooLong → Steps s n count limit s' (step way i old byte) (Err (Long place))
  answer_long e = record { same_length = spared.same_length; comes = step_by TooLong e }

  -- ---- the derived vector, looked for among the items

  module _ (top' : ℕ) (w : List ℕ) (done : Done s top n v byte s' top' w) where
    grown : Kept s' n top' count
    grown =
        kept_grown s n top count s' ok.kept few spared top' (pooled done.pooled) done.shaped done.up
        (omega (arith, done.few, ok.low, ok.kept.few_rules))

    abbrev next : Item
    next = after way (item old i) byte (vector_of s' n w)

    comes : step way i old byte ≡ come way place old next
    comes = step_by (Terms (vector_of s' n w)) done.terms

    number : (found : Option ℕ) → Finds s' count sheet w found → unwrap_or found count ≡ number_in (items_of s n count) next
    number found finds =
        found_number s' n top' count sheet w found grown done.numbers finds next refl refl
        ∙ ap (λ (l : List Item). number_in l next) (items_spared s n top count s' ok.kept few spared)

    size : length (with_vector (terms_of s top) (vector_of s' n w)) ≡ top'
    size = pool_length done.pooled

    many : length (items_of s n count) ≡ count
    many = items_length s n count

    -- ---- it is held

    module _ (at : ℕ) (finds : Finds s' count sheet w (Some at)) where
      -- a vector that is held adds nothing to the pool
      held_top : top' ≡ top
      held_top =
          let low : Numbers n top w = rw finds.there.same_numbers at ((kept_spared s n top count s' ok.kept few spared).numbers at finds.within) in
          let whole : n ≤ length w = omega (arith, low.whole, ok.kept.few_rules) in
          let sound : Sound s top = ok.kept.pooled.sound in
          let held : (k : ℕ) → k < length (vector_of s' n w) → InPool (terms_of s top) (get_or (vector_of s' n w) k Nothing) =
          λ k h.
          let inside : k < n = omega (arith, vector_length s' n w whole) in
          let old = frame s s' top (get_or w k 0) sound spared.kept_below (low.inside k inside) in
          rw (vector_at s' n w k whole inside, old) (term_held_below s top (get_or w k 0) (low.inside k inside)) in
          sym size ∙ ap length (vector_held (terms_of s top) (vector_of s' n w) (pool_closed s top sound) held) ∙ terms_length s top

      pub index_held : (x : List ℕ) → Indexed x s' top' → Indexed x s' top
      index_held x i = rw held_top at i

      pub answer_held : Steps s n count limit s' (step way i old byte) (Ok (record { held = record { top = top; count = count }; number = at }))
      answer_held = record {
        same_length = spared.same_length;
        comes = record {
          goes =
              comes ∙ come_held way place old next at (number (Some at) finds) (omega (arith, many, finds.within))
              ∙ ap (λ (h : Held). reached h at)
              (held_as (sym (items_spared s n top count s' ok.kept few spared)) (sym (terms_spared s n top count s' ok.kept few spared)));
          kept = kept_spared s n top count s' ok.kept few spared;
          low = ok.low;
          few = ok.few;
          up = omega arith;
          inside = finds.within;
        };
      }

    -- ---- it is new

    module _ (finds : Finds s' count sheet w None) where
      pub answer_full : limit ≤ count → Steps s n count limit s' (step way i old byte) (Err full)
      answer_full m = record {
        same_length = spared.same_length;
        comes = comes ∙ come_full way place old next count (number None finds) (omega (arith, many)) (omega (arith, many));
      }

      pub answer_pool : count < limit → pool < top' → Steps s n count limit s' (step way i old byte) (Err (Pool place))
      answer_pool m o = record {
        same_length = spared.same_length;
        comes = comes ∙ come_pool way place old next count (number None finds) (omega (arith, many)) (omega (arith, many)) (omega (arith, size));
      }

      -- ---- and stored

      module _ (new : count < limit) (fits : top' ≤ pool) (s'' : List ℕ) (stored : s'' ≡ item_stored s' count w sheet i byte) where
        room : count < items
        room = omega (arith, ok.most)

        text : text_of s' i ≡ (item old i).text
        text =
            ap (λ (x : Item). x.text)
            (sym (items_at s' n count i ok.inside) ∙ ap (λ (l : List Item). get_or l i none) (items_spared s n top count s' ok.kept few spared))

        held : held_of s'' n top' (count + 1) ≡ added old next
        held =
            held_as
            (stored_next s' n top' count w sheet i byte s'' grown room done.numbers stored ok.inside
            ∙ λ j. items_spared s n top count s' ok.kept few spared j
            ++ (record { sheet = sheet; vector = vector_of s' n w; text = text j ++ (byte ∷ []) } ∷ []))
            (stored_terms s' n top' count w sheet i byte s'' grown room done.numbers stored ∙ done.pooled.holds)

        pub index_new : (x : List ℕ) → Indexed x s' top' → Indexed x s'' top'
        index_new x y = indexed_same s'' y (stored_low s' n top' count w sheet i byte s'' grown room done.numbers stored)

        pub answer_new : Steps s n count limit s'' (step way i old byte) (Ok (record { held = record { top = top'; count = count + 1 }; number = count }))
        answer_new = record {
          same_length = stored_length s' n top' count w sheet i byte s'' grown room done.numbers stored ∙ spared.same_length;
          comes = record {
            goes =
                comes ∙ come_new way place old next count (number None finds) (omega (arith, many)) (omega (arith, many)) (omega (arith, size))
                ∙ ap (λ (h : Held). reached h (length (items_of s n count))) (sym held) ∙ ap (reached (held_of s'' n top' (count + 1))) many;
            kept = stored_kept s' n top' count w sheet i byte s'' grown room done.numbers stored (λ z. ok.inside) ok.small;
            low = fits;
            few = omega arith;
            up = omega arith;
            inside = omega arith;
          };
        }

-- ---- vector 0

module _ (s : List ℕ) (n top : ℕ) (v : List ℕ) (ok : First s n top v) where
  begun : length (with_vector [] (vector_of s n v)) ≡ top
  begun = ap length (sym ok.holds) ∙ terms_length s top

  pub begins_over : pool < top → Begins s n v s (Err (Pool 0))
  unfolding number_in
  begins_over l = record {
    begins = λ way m o. record {
      same_length = refl;
      comes = come_pool way 0 nothing_held (first_item (vector_of s n v)) 0 refl (omega arith) (omega arith) (omega (arith, begun));
    };
  }

  module _ (fits : top ≤ pool) (s' : List ℕ) (stored : s' ≡ item_stored s 0 v 0 0 0) where
    first_held : held_of s' n top 1 ≡ added nothing_held (first_item (vector_of s n v))
    unfolding items_of
    first_held =
        held_as (stored_first s n top 0 v 0 0 0 s' ok.kept (omega arith) ok.numbers stored refl)
        (stored_terms s n top 0 v 0 0 0 s' ok.kept (omega arith) ok.numbers stored ∙ ok.holds)

    pub begun_index : (x : List ℕ) → Indexed x s top → Indexed x s' top
    begun_index x y = indexed_same s' y (stored_low s n top 0 v 0 0 0 s' ok.kept (omega arith) ok.numbers stored)

    pub begins_held : Begins s n v s' (Ok (record { held = record { top = top; count = 1 }; number = 0 }))
    unfolding number_in
    begins_held = record {
      begins = λ way m o. record {
        same_length = stored_length s n top 0 v 0 0 0 s' ok.kept (omega arith) ok.numbers stored;
        comes = record {
          goes =
              come_new way 0 nothing_held (first_item (vector_of s n v)) 0 refl (omega arith) (omega arith) (omega (arith, begun))
              ∙ ap (λ (h : Held). reached h 0) (sym first_held);
          kept = stored_kept s n top 0 v 0 0 0 s' ok.kept (omega arith) ok.numbers stored (λ z. z) (omega arith);
          low = fits;
          few = m;
          up = omega arith;
          inside = omega arith;
        };
      };
    }
