-- Our own table: compared with the table that the build made of the same rules, the walk only meets pairs of a state and its own vector.
-- These are counted: no more than the states and the entry, no term that the build's pool lacks, no derivative that the build did not take.
-- So it passes no limit, and the answer is Same: it neither declines nor faults its own sheet.
use Rattle.std.specs.Prelude.{ℕ, suc, ◌<◌, ◌≤◌, ◌≡◌, List, []}
use Rattle.std.proofs.Math.Path.{refl}
use Rattle.std.proofs.Common.{sym, ap, subst, ◌∙◌, inl, inr, arith}
use Rattle.number.specs.Limits.{bytes, pool, pairs}
use Rattle.number.specs.Refused.Outcome.{gives}
use Rattle.meaning.specs.Re.{Re}
use Rattle.meaning.specs.Rules.{derive_by, start}
use Rattle.table.specs.Table.{Table}
use Rattle.cutting.specs.Steps.{step_in}
use Rattle.walk.specs.Vectors.{Vector, derived, normalised}
use Rattle.walk.specs.Vectors.Vector.{TooLong, Terms}
use Rattle.walk.specs.VectorLaws.{Is, normalised_is, no_terms}
use Rattle.walk.specs.Parts.{PartOf, Once, InPool}
use Rattle.walk.specs.PartsLaws.{vector_hold, vector_once}
use Rattle.walk.specs.Walk.{Item, Held, nothing_held, Step, added, after, come_by, step, Walked, begin_by, on_from, walk_from}
use Rattle.walk.specs.Walk.Walked.{halted, walked}
use Rattle.walk.specs.StepLaws.{item, count, Pair, number_after, each_added, pairs_added, Came, came}
use Rattle.walk.specs.StepLaws.Came.{held, full, over, new}
use Rattle.walk.specs.WalkLaws.{target, no_walk}
use Rattle.walk.specs.Explored.{Explored, walk_explores}
use Rattle.walk.specs.CountLaws.{at_most, pool_most}
use Rattle.walk.specs.KeepLaws.{StepIs, WalkIs, walk_keeps, Pooled, walk_pooled, none_held, once_none}
use Rattle.built.specs.Build.{alone, build_rules}
use Rattle.built.specs.BuildLaws.{Built, built, built_label}
use Rattle.verdict.specs.Compare.{state_of, beside, found, first_differing, compared_by, compare_rules}
use Rattle.verdict.specs.Compare.Verdict.{Same}
use Rattle.verdict.specs.CompareLaws.{compare_same}

terms_same : {v w : List Re} → Terms v ≡ Terms w → v ≡ w
terms_same e = cc

-- ---- what is met: a state of the build's table, or the entry, with the vector that the build had there

record Own (b : Held) (y : Item) : Type 0 where
  sheet_in : y.sheet < suc (count b)
  state_in : state_of y.sheet < count b
  vector_is : y.vector ≡ (item b (state_of y.sheet)).vector

-- all items are such, no two for one pair; all terms of the pool stand in the build's
record OwnHeld (b h : Held) : Type 0 where
  own : (k : ℕ) → k < count h → Own b (item h k)
  once : (j k : ℕ) → j < k → k < count h → Pair (item h j) (item h k) → ⊥
  pool_once : Once h.pool
  pool_in : (x : Re) → InPool h.pool x → InPool b.pool x

module _ (b : Held) (p : Pooled pool b) where
  own_none : OwnHeld b nothing_held
  own_none = record {
    own = λ k l. absurd (omega arith);
    once = λ j k l m. absurd (omega arith);
    pool_once = once_none;
    pool_in = λ x q. absurd (none_held x q);
  }

  -- counted: the sheet numbers of the items are different
  own_few : (h : Held) → OwnHeld b h → count h ≤ suc (count b)
  own_few h o = at_most (count h) (suc (count b)) (λ k. (item h k).sheet) (record {
    below = λ k l. (o.own k l).sheet_in;
    apart = λ j k l m e. o.once j k l m (record {
      same_sheet = e;
      same_vector_lem =
          (o.own j (omega arith)).vector_is ∙ ap (λ (q : ℕ). (item b (state_of q)).vector) e ∙ sym (o.own k m).vector_is;
    });
  })

  module _ (h : Held) (o : OwnHeld b h) (y : Item) (z : Own b y) where
    pool_added : (x : Re) → InPool (added h y).pool x → InPool b.pool x
    pool_added x q = elim ((vector_hold h.pool y.vector x).0 q) [
      | inl r ↦ o.pool_in x r
      | inr r ↦ p.parts (state_of y.sheet) z.state_in x (subst (PartOf x) z.vector_is r)
    ]

    once_added : Once (added h y).pool
    once_added = vector_once h.pool y.vector o.pool_once

    own_come : (t : Table) (place : ℕ) → count b < pairs → {s : Step} → Came (beside t) place h y s → StepIs (OwnHeld b) (λ r. ⊥) s
    own_come t place few (held j l q n) = o
    own_come t place few (full n l) = omega (arith, own_few h o)
    own_come t place few (over n l q) = omega (arith, pool_most (added h y).pool b.pool once_added pool_added, p.low)
    own_come t place few (new n l q) = record {
      own = each_added h y (λ k. Own b) o.own z;
      once = pairs_added h y (λ x w. Pair x w → ⊥) o.once (λ j k q. number_after h.items y n j k q);
      pool_once = once_added;
      pool_in = pool_added;
    }

-- ---- the walk beside the table that the build made

module _ (rs : List Re) (t : Table) (m : Built rs t) where
  abbrev b : Held
  b = m.held

  explored : Explored alone rs b m.numbers
  explored = walk_explores alone rs b m.numbers m.walks

  pooled : Pooled pool b
  pooled = walk_pooled alone rs b m.numbers m.walks

  few : count b < pairs
  few = omega (arith, explored.good.few)

  -- the next pair is a state and its own vector
  own_next : (x : Item) (c : ℕ) → Own b x → c < bytes → (v : List Re) → derived c x.vector ≡ Terms v → Own b (after (beside t) x c v)
  own_next x c o l v e =
      let j = state_of x.sheet in
      let leads = explored.leads j c o.state_in l in
      let to : step_in t j c ≡ target m.numbers j c = ap (λ (u : Table). step_in u j c) m.table_is in
      let taken : Terms v ≡ derived c (item b j).vector = sym e ∙ ap (derived c) o.vector_is in
      let is : v ≡ (item b (target m.numbers j c)).vector = terms_same (taken ∙ leads.fits) ∙ sym leads.vector_on in
      record {
        sheet_in = omega (arith, to, leads.inside);
        state_in = omega (arith, to, leads.inside);
        vector_is = is ∙ ap (λ (q : ℕ). (item b q).vector) (sym to);
      }

  -- and its derivative is not too long
  own_fits : (x : Item) (c : ℕ) → Own b x → c < bytes → derived c x.vector ≡ TooLong → ⊥
  own_fits x c o l e =
      let leads = explored.leads (state_of x.sheet) c o.state_in l in
      no_terms (sym e ∙ ap (derived c) o.vector_is ∙ leads.fits)

  own_step : (i c : ℕ) (h : Held) → i < count h → c < bytes → OwnHeld b h → StepIs (OwnHeld b) (λ r. ⊥) (step (beside t) i h c)
  unfolding step
  own_step i c h l k o = go (derived c (item h i).vector) refl
    where
      go : (v : Vector) → derived c (item h i).vector ≡ v → StepIs (OwnHeld b) (λ r. ⊥) (come_by (beside t) i h c v)
      go TooLong e = own_fits (item h i) c (o.own i l) k e
      go (Terms v) e =
          let y = after (beside t) (item h i) c v in
          own_come b pooled h o y (own_next (item h i) c (o.own i l) k v e) t _ few (came (beside t) ((beside t).told h.items i) h y)

  own_first : (v : Vector) → Is v (start rs) → on_from alone (begin_by alone v) ≡ walked b m.numbers → StepIs (OwnHeld b) (λ r. ⊥) (begin_by (beside t) v)
  own_first TooLong d e = no_walk e
  own_first (Terms v) d e =
      let g = explored.good in
      let first = g.led 0 g.some in
      let y : Item = record { sheet = 0; vector = v; text = [] } in
      own_come b pooled nothing_held (own_none b pooled) y (record {
        sheet_in = omega arith;
        state_in = g.some;
        vector_is = d ∙ sym (first.vector_is ∙ ap (derive_by (start rs)) g.begins);
      }) t 0 few (came (beside t) 0 nothing_held y)

  began : on_from alone (begin_by alone (normalised rs)) ≡ walked b m.numbers
  unfolding walk_from
  began = m.walks

  own_walk : WalkIs (OwnHeld b) (λ r. ⊥) (walk_from (beside t) rs)
  own_walk = walk_keeps (beside t) (OwnHeld b) (λ r. ⊥) own_step rs (own_first (normalised rs) (normalised_is rs) began)

-- our own table: Same, never a refusal
pub own_same : (rs : List Re) (t : Table) → build_rules rs ≡ gives t → compare_rules t rs ≡ gives Same
unfolding compare_rules
own_same rs t e = go (walk_from (beside t) rs) refl (own_walk rs t (built rs t e))
  where
    go : (w : Walked) → walk_from (beside t) rs ≡ w → WalkIs (OwnHeld (built rs t e).held) (λ r. ⊥) w → compared_by t w ≡ gives Same
    go (halted r) d o = absurd o
    go (walked h js) d o =
        let w : compare_rules t rs ≡ gives (first_differing t (found h)) = ap (compared_by t) d in
        ap gives (compare_same rs t (first_differing t (found h)) w (λ u k l. sym (built_label rs t e u k)))
