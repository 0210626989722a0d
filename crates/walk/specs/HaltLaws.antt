-- The walk while it goes on: what it holds when item i is left by byte c, with the rows before it done.
-- A walk that is refused has met one of its limits there: Long, the limit of items, or Pool; so whatever rests on it declines only there.
use Rattle.std.specs.Prelude.{ℕ, suc, ◌<◌, ◌≤◌, ◌≡◌, List, [], ◌∷◌, ◌++◌, map, length}
use Rattle.std.proofs.Math.Path.{refl, ap, subst}
use Rattle.std.proofs.Common.{sym, ◌∙◌, append_assoc, append-nil, arith}
use Rattle.std.proofs.Math.Decide.{dec_lt}
use Rattle.number.specs.declared.Refusal.{Refusal}
use Rattle.number.specs.declared.Refusal.TheVariants.{Long, Pool}
use Rattle.number.specs.Limits.{bytes}
use Rattle.number.specs.Numbers.{Bytes}
use Rattle.meaning.specs.Re.{Re, Text}
use Rattle.meaning.specs.Derive.{deriv}
use Rattle.meaning.specs.Rules.{derive_by, start}
use Rattle.walk.specs.Vectors.{Vector, derived, normalised}
use Rattle.walk.specs.Vectors.Vector.{TooLong, Terms}
use Rattle.walk.specs.VectorLaws.{Is, derived_is, normalised_is}
use Rattle.walk.specs.Parts.{with_vector}
use Rattle.walk.specs.Walk.{Item, Held, nothing_held, Step, Way, added, after, come_by, step, begin_by, walk_from}
use Rattle.walk.specs.Walk.Step.{stopped, reached}
use Rattle.walk.specs.StepLaws.{item, count, Unmet, Came, came, no_reach, step_moved, Fits, step_fits}
use Rattle.walk.specs.StepLaws.Came.{held, full, over, new}
use Rattle.walk.specs.WalkLaws.{Led, Good, Ahead, Leads, leads_on, led_next, Stepped, stepped, ahead_next}
use Rattle.walk.specs.Explored.{good_first, ahead_first, Arrived, first_arrived, arrive_one, bytes_tail}
use Rattle.walk.specs.KeepLaws.{StepIs, WalkIs, walk_is, Pooled, pooled_none, pooled_added, pooled_step}
use Rattle.walk.specs.Texts.{Sooner}
use Rattle.walk.specs.TextLaws.{sooner_self, sooner_trans, sooner_snoc, sooner_last, not_later_snoc, not_later_sooner, not_later_front}

stopped_refusal : {r q : Refusal} → stopped r ≡ stopped q → r ≡ q
stopped_refusal e = cc

-- ---- while the walk goes on

-- item i is being left, by byte c next; the rows before it are done, and the steps of its own row by lower bytes
pub record Underway (way : Way) (rs : List Re) (i c : ℕ) (h : Held) : Type 0 where
  pub rules_fit : normalised rs ≡ Terms (start rs)
  pub good : Good way rs h
  pub pooled : Pooled way.terms h
  pub ahead : i < count h → Ahead h i c
  pub done : (j d : ℕ) → j < i → d < bytes → (k : ℕ) × Leads way h j d k
  pub row_done : (d : ℕ) → d < c → (k : ℕ) × Leads way h i d k

module _ (way : Way) (rs : List Re) where
  underway_step : (i c : ℕ) (h h' : Held) (j : ℕ) → i < count h → Underway way rs i c h → Pooled way.terms h' → Stepped way rs i c h h' j → Underway way rs i (suc c) h'
  underway_step i c h h' j l u p s = record {
    rules_fit = u.rules_fit;
    good = s.good;
    pooled = p;
    ahead = λ k. s.ahead;
    done = λ m d n b. let (k, q) = u.done m d n b in (k, leads_on way m d k s.extends (omega arith) q);
    row_done = λ d n. elim (dec_lt d c) [
      | yes m ↦ let (k, q) = u.row_done d m in (k, leads_on way i d k s.extends l q)
      | no f ↦ let e : d ≡ c = omega arith in (j, rw e s.leads)
    ];
  }

  pub underway_turn : (i : ℕ) (h : Held) → Underway way rs i bytes h → Underway way rs (suc i) 0 h
  underway_turn i h u = record {
    rules_fit = u.rules_fit;
    good = u.good;
    pooled = u.pooled;
    ahead = λ l. ahead_next way rs i h u.good (u.ahead (omega arith)) l;
    done = λ j d n b. elim (dec_lt j i) [ yes m ↦ u.done j d m b | no f ↦ let e : j ≡ i = omega arith in rw e (u.row_done d b) ];
    row_done = λ d n. absurd (omega arith);
  }

  module _ (i c : ℕ) (h : Held) (u : Underway way rs i c h) (inside : i < count h) where
    -- the step that comes next leads to this text
    abbrev next : Text
    next = (item h i).text ++ (c ∷ [])

    -- every step that leads to a sooner text has been made
    made : (k d : ℕ) → k < count h → d < bytes → Sooner ((item h k).text ++ (d ∷ [])) next → (j : ℕ) × Leads way h k d j
    made k d l b s =
        elim (dec_lt k i) [
          | yes m ↦ u.done k d m b
          | no f ↦ elim (dec_lt i k) [
            | yes m ↦ absurd (sooner_self (sooner_trans s (sooner_snoc c d (u.good.rising i k m l))))
            | no g ↦
                let e : k ≡ i = omega arith in
                let s' : Sooner ((item h i).text ++ (d ∷ [])) next = subst (λ (x : ℕ). Sooner ((item h x).text ++ (d ∷ [])) next) e s in
                rw e (elim (dec_lt d c) [ yes m ↦ u.row_done d m | no o ↦ absurd (over o s') ])
          ]
        ]
      where
        over : (d < c → ⊥) → Sooner ((item h i).text ++ (d ∷ [])) next → ⊥
        over o s = elim (dec_lt c d) [
          | yes m ↦ sooner_self (sooner_trans s (sooner_last (item h i).text m))
          | no p ↦ let e : d ≡ c = omega arith in sooner_self (subst (λ (x : ℕ). Sooner ((item h i).text ++ (x ∷ [])) next) e s)
        ]

    -- so every sooner text leads to an item, by derivatives that fit
    arrive_next : (v : Text) (d : ℕ) → d < bytes → Sooner (v ++ (d ∷ [])) next → (k : ℕ) → Arrived way rs h v k → (j : ℕ) × Leads way h k d j
    arrive_next v d b s k a = made k d a.inside b (not_later_sooner (not_later_snoc d a.not_later) s)

    arrive_on : (w v : Text) → Bytes w → Sooner (v ++ w) next → (k : ℕ) × Arrived way rs h v k → (k : ℕ) × Arrived way rs h (v ++ w) k
    arrive_on [] v b s a = rw (append-nil v) a
    arrive_on (d ∷ w) v b s (k, a) =
        let z : Sooner ((v ++ (d ∷ [])) ++ w) next = rw (append_assoc v (d ∷ []) w) s in
        let (j, l) = arrive_next v d (b 0 (omega arith)) (not_later_sooner (not_later_front (v ++ (d ∷ [])) w) z) k a in
        rw (append_assoc v (d ∷ []) w) at (arrive_on w (v ++ (d ∷ [])) (bytes_tail d w b) z (j, arrive_one way rs h v d k j a l))

    pub arrived_sooner : (w : Text) → Bytes w → Sooner w next → (k : ℕ) × Arrived way rs h w k
    arrived_sooner w b s = arrive_on w [] b s (0, first_arrived way rs h u.good)

    pub fits_sooner : (v : Text) (d : ℕ) → Bytes v → d < bytes → Sooner (v ++ (d ∷ [])) next → Fits d (derive_by (start rs) v)
    fits_sooner v d b l s =
        let (k, a) = arrived_sooner v b (not_later_sooner (not_later_front v (d ∷ [])) s) in
        let (j, leads) = arrive_next v d l s k a in
        subst (Fits d) a.vector_is leads.fits

-- items stand in the order of their texts
pub text_before : (way : Way) (rs : List Re) (h : Held) → Good way rs h → (j k : ℕ) → j < count h → k < count h → Sooner (item h j).text (item h k).text → j < k
text_before way rs h g j k l m s =
    elim (dec_lt j k) [
      | yes n ↦ n
      | no f ↦ elim (dec_lt k j) [
        | yes n ↦ absurd (sooner_self (sooner_trans s (g.rising k j n l)))
        | no o ↦ let e : j ≡ k = omega arith in absurd (sooner_self (subst (λ (x : ℕ). Sooner (item h x).text (item h k).text) e s))
      ]
    ]

-- ---- the limit that a refused walk met

-- a step was tried from an item, with this number told for it
pub record Tried (way : Way) (rs : List Re) (place : ℕ) : Type 0 where
  pub i : ℕ
  pub c : ℕ
  pub h : Held
  pub underway : Underway way rs i c h
  pub inside : i < count h
  pub byte : c < bytes
  pub is_place : place ≡ way.told h.items i

-- the pair that the step led to, which no item is for
pub record Beyond {way : Way} {rs : List Re} {place : ℕ} (x : Tried way rs place) : Type 0 where
  pub y : Item
  pub led : Led way rs y
  pub text_is : y.text ≡ (item x.h x.i).text ++ (x.c ∷ [])
  pub fits : Fits x.c (item x.h x.i).vector
  pub unmet : Unmet x.h y

pub data Met (way : Way) (rs : List Re) : Refusal → Type 0 where
  start_long : normalised rs ≡ TooLong → Met way rs (Long 0)
  start_over : normalised rs ≡ Terms (start rs) → way.terms < length (with_vector [] (start rs)) → Met way rs (Pool 0)
  long : (place : ℕ) (x : Tried way rs place) → derived x.c (item x.h x.i).vector ≡ TooLong → Met way rs (Long place)
  items_full : (place : ℕ) (x : Tried way rs place) → Beyond x → way.limit ≤ count x.h → Met way rs (way.full place)
  pool_full : (place : ℕ) (x : Tried way rs place) (z : Beyond x) → count x.h < way.limit → way.terms < length (added x.h z.y).pool → Met way rs (Pool place)

module _ (way : Way) (rs : List Re) where
  module _ (i c : ℕ) (h : Held) (l : i < count h) (b : c < bytes) (u : Underway way rs i c h) where
    abbrev place : ℕ
    place = way.told h.items i

    tried : Tried way rs place
    tried = record { i = i; c = c; h = h; underway = u; inside = l; byte = b; is_place = refl }

    -- the pair that the step led to, where no item is for it
    beyond : (v : List Re) → derived c (item h i).vector ≡ Terms v → v ≡ map (deriv c) (item h i).vector → Unmet h (after way (item h i) c v) → Beyond tried
    unfolding tried
    beyond v f e n =
        let y = after way (item h i) c v in
        record { y = y; led = led_next way rs (item h i) y c (u.good.led i l) b refl e refl; text_is = refl; fits = f ∙ ap Terms e; unmet = n }

    stopped_by : (v : List Re) → derived c (item h i).vector ≡ Terms v → v ≡ map (deriv c) (item h i).vector → {s : Step} → Came way place h (after way (item h i) c v) s
        → (r : Refusal) → s ≡ stopped r → Met way rs r
    unfolding tried beyond
    stopped_by v f d (held j m p n) r e = absurd (no_reach (sym e))
    stopped_by v f d (full n m) r e = subst (Met way rs) (stopped_refusal e) (items_full place tried (beyond v f d n) m)
    stopped_by v f d (over n m p) r e = subst (Met way rs) (stopped_refusal e) (pool_full place tried (beyond v f d n) m p)
    stopped_by v f d (new n m p) r e = absurd (no_reach (sym e))

    step_stops : (r : Refusal) → step way i h c ≡ stopped r → Met way rs r
    unfolding step tried
    step_stops r e = go (derived c (item h i).vector) refl (derived_is c (item h i).vector) e
      where
        go : (v : Vector) → derived c (item h i).vector ≡ v → Is v (map (deriv c) (item h i).vector) → come_by way i h c v ≡ stopped r → Met way rs r
        go TooLong d q f = subst (Met way rs) (stopped_refusal f) (long place tried d)
        go (Terms v) d q f = stopped_by v d q (came way place h (after way (item h i) c v)) r f

    pub step_met : StepIs (Underway way rs i (suc c)) (Met way rs) (step way i h c)
    step_met = go (step way i h c) refl
      where
        go : (s : Step) → step way i h c ≡ s → StepIs (Underway way rs i (suc c)) (Met way rs) s
        go (stopped r) e = step_stops r e
        go (reached g j) e =
            underway_step way rs i c h g j l u (subst (StepIs (Pooled way.terms) (λ r. Unit {0})) e (pooled_step way i c h l b u.pooled))
            (stepped way rs i c h u.good l b (u.ahead l) (step_fits way i h c g j e) (step_moved way i h c g j e))

  -- vector 0
  first_met : 0 < way.limit → (v : List Re) → normalised rs ≡ Terms v → v ≡ start rs → {s : Step} → Came way 0 nothing_held (record { sheet = 0; vector = v; text = [] }) s
      → StepIs (Underway way rs 0 0) (Met way rs) s
  first_met some v d e (held j l p n) = absurd (omega arith)
  first_met some v d e (full n l) = absurd (omega arith)
  first_met some v d e (over n l p) = start_over (d ∙ ap Terms e) (rw (← e) p)
  first_met some v d e (new n l p) = record {
    rules_fit = d ∙ ap Terms e;
    good = good_first way rs v e l;
    pooled = pooled_added nothing_held (record { sheet = 0; vector = v; text = [] }) (pooled_none way.terms) p;
    ahead = λ k. ahead_first v;
    done = λ j d k. absurd (omega arith);
    row_done = λ d k. absurd (omega arith);
  }

  pub begin_met : 0 < way.limit → (v : Vector) → normalised rs ≡ v → Is v (start rs) → StepIs (Underway way rs 0 0) (Met way rs) (begin_by way v)
  begin_met some TooLong d e = start_long d
  begin_met some (Terms v) d e = first_met some v d e (came way 0 nothing_held (record { sheet = 0; vector = v; text = [] }))

  pub walk_met : 0 < way.limit → WalkIs (λ h. Unit {0}) (Met way rs) (walk_from way rs)
  walk_met some =
      walk_is way (Underway way rs) (Met way rs) step_met (underway_turn way rs) (λ h. Unit {0}) (λ i h u. tt) rs
      (begin_met some (normalised rs) refl (normalised_is rs))
