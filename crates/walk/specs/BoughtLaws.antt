-- The steps to the theorems of Main: the order of texts, vectors and pools in the words of Bought, and that a step comes to one end.
-- What stands there of whole walks is gathered from Explored, KeepLaws and HaltLaws.
use Rattle.std.specs.Prelude.{ℕ, zero, suc, ◌<◌, ◌≤◌, ◌≡◌, refl, Bool, true, false, cond, List, [], ◌∷◌, ◌++◌, ◌⊎◌, ◌↔◌, length, get_or}
use Rattle.std.proofs.Common.{sym, ap, subst, ◌∙◌, inl, inr, arith, length-append}
use Rattle.std.proofs.Math.Decide.{dec_lt}
use Rattle.number.specs.declared.Refusal.{Refusal}
use Rattle.number.specs.declared.Refusal.TheVariants.{Long, Pool}
use Rattle.number.specs.Limits.{bytes}
use Rattle.meaning.specs.Re.{Re, Text}
use Rattle.meaning.specs.Limited.{Fit, deriv_fit, normal_fit}
use Rattle.meaning.specs.Limited.Fit.{Long as Fit·long, Fits}
use Rattle.meaning.specs.Rules.{derive_all, start}
use Rattle.meaning.specs.Tests.{clash, or_true}
use Rattle.walk.specs.Vectors.{Vector, front, derived, normalised, same_term}
use Rattle.walk.specs.Vectors.Vector.{TooLong, Terms}
use Rattle.walk.specs.VectorLaws.{Is, derived_is, normalised_is, no_terms, term_same}
use Rattle.walk.specs.Parts.{holds, with_vector, InPool}
use Rattle.walk.specs.PartsLaws.{held_at, vector_hold, vector_once}
use Rattle.walk.specs.Walk.{Item, none, Held, nothing_held, same_pair, number_in, Step, Way, after, come, come_by, step, begin_by, walk_from}
use Rattle.walk.specs.Walk.Step.{stopped, reached}
use Rattle.walk.specs.Walk.Walked.{halted, walked}
use Rattle.walk.specs.Texts.{Lower, Sooner, NotLater}
use Rattle.walk.specs.Texts.Lower.{here, later}
use Rattle.walk.specs.Texts.Sooner.{shorter, lower}
use Rattle.walk.specs.Texts.NotLater.{equal, sooner}
use Rattle.walk.specs.TextLaws.{sooner_trans, sooner_self, not_later_or}
use Rattle.walk.specs.StepLaws.{Pair, same_pair_lem, number_after, Unmet, Came, came, no_reach}
use Rattle.walk.specs.StepLaws.Came.{held, full as Came·full, over as Came·over, new}
use Rattle.walk.specs.WalkLaws.{Good}
use Rattle.walk.specs.Explored.{Arrived, walk_explores, arrived}
use Rattle.walk.specs.KeepLaws.{StepIs, WalkIs, walk_is, Pooled, walk_pooled}
use Rattle.walk.specs.HaltLaws.{Underway, underway_turn, arrived_sooner, Met, step_met, begin_met}
use Rattle.walk.specs.Bought.{Ordered, SomeLong, Vectors, StandsIn, Pools, IsFor, New, terms_with, Comes, Tries, on_by, Goes, Begins, OwnRefusal, Stops, Items, LeadsTo, Finished, Halts}
use Rattle.walk.specs.Bought.Comes.{again, full, over, next}
use Rattle.walk.specs.Bought.Tries.{long, comes}
use Rattle.walk.specs.Bought.Halts.{at_once, later as Halts·later}

-- ---- texts

lower_at : (u v w : Text) (c d : ℕ) → c < d → Lower (u ++ (c ∷ v)) (u ++ (d ∷ w))
lower_at [] v w c d h = here h
lower_at (b ∷ u) v w c d h = later b (lower_at u v w c d h)

not_later_of : (v w : Text) → NotLater v w → (v ≡ w) ⊎ Sooner v w
not_later_of v w (equal e) = inl e
not_later_of v w (sooner s) = inr s

pub ordered : Ordered
ordered = record {
  irreflexive = λ w s. sooner_self s;
  asymmetric = λ v w s t. sooner_self (sooner_trans s t);
  transitive = λ u v w s t. sooner_trans s t;
  total = λ v w. elim (not_later_or v w) [
    | inl n ↦ elim (not_later_of v w n) [ inl e ↦ inr (inl e) | inr s ↦ inl s ]
    | inr s ↦ inr (inr s)
  ];
  by_length = λ v w h. shorter h;
  by_byte = λ u v w c d h e.
      lower (omega (arith, length-append u (c ∷ v), length-append u (d ∷ w))) (lower_at u v w c d h);
  not_later = λ v w. (not_later_of v w, elim [ inl e ↦ equal e | inr s ↦ sooner s ]);
}

-- ---- vectors

-- components worked out one by one
unfoldable fronts : (Re → Fit) → List Re → Vector
fronts f [] = Terms []
fronts f (r ∷ rs) = front (f r) (fronts f rs)

derived_fronts : (c : ℕ) (v : List Re) → derived c v ≡ fronts (deriv_fit c) v
unfolding derived fronts
derived_fronts c [] = refl
derived_fronts c (r ∷ rs) = ap (front (deriv_fit c r)) (derived_fronts c rs)

normalised_fronts : (v : List Re) → normalised v ≡ fronts normal_fit v
unfolding normalised fronts
normalised_fronts [] = refl
normalised_fronts (r ∷ rs) = ap (front (normal_fit r)) (normalised_fronts rs)

front_none : (x : Fit) → front x TooLong ≡ TooLong
front_none Fit·long = refl
front_none (Fits r) = refl

long_fronts : (f : Re → Fit) (v : List Re) → SomeLong f v → fronts f v ≡ TooLong
unfolding fronts
long_fronts f [] (k, l, e) = absurd (omega arith)
long_fronts f (r ∷ rs) (zero, l, e) = ap (λ (x : Fit). front x (fronts f rs)) e
long_fronts f (r ∷ rs) (suc k, l, e) = ap (front (f r)) (long_fronts f rs (k, omega arith, e)) ∙ front_none (f r)

fronts_long : (f : Re → Fit) (v : List Re) → fronts f v ≡ TooLong → SomeLong f v
unfolding fronts
fronts_long f [] e = absurd (no_terms (sym e))
fronts_long f (r ∷ rs) e = go (f r) refl (fronts f rs) refl (fronts_long f rs) e
  where
    go : (x : Fit) → f r ≡ x → (v : Vector) → fronts f rs ≡ v → (fronts f rs ≡ TooLong → SomeLong f rs) → front x v ≡ TooLong
        → SomeLong f (r ∷ rs)
    go Fit·long d v g ih h = (0, omega arith, d)
    go (Fits x) d TooLong g ih h = let (k, l, m) = ih g in (suc k, omega arith, m)
    go (Fits x) d (Terms v) g ih h = absurd (no_terms (sym h))

terms_are : (x : Vector) (terms : List Re) → Is x terms → (x ≡ TooLong → ⊥) → x ≡ Terms terms
terms_are TooLong terms i n = absurd (n refl)
terms_are (Terms v) terms i n = ap Terms i

vectors_by : (f : Re → Fit) (v : List Re) (x : Vector) (terms : List Re) → x ≡ fronts f v → Is x terms → Vectors f v x terms
vectors_by f v x terms e i = record {
  too_long = (λ d. fronts_long f v (sym e ∙ d), λ l. e ∙ long_fronts f v l);
  fits = (λ d l. no_terms (sym (e ∙ long_fronts f v l) ∙ d), λ n. terms_are x terms i (λ d. n (fronts_long f v (sym e ∙ d))));
}

pub derived_vectors : (c : ℕ) (v : List Re) → Vectors (deriv_fit c) v (derived c v) (derive_all c v)
derived_vectors c v = vectors_by (deriv_fit c) v (derived c v) (derive_all c v) (derived_fronts c v) (derived_is c v)

pub normalised_vectors : (v : List Re) → Vectors normal_fit v (normalised v) (start v)
normalised_vectors v = vectors_by normal_fit v (normalised v) (start v) (normalised_fronts v) (normalised_is v)

-- ---- pools

stands_held : (p : List Re) (x : Re) → StandsIn p x → InPool p x
stands_held p x (i, l, e) = subst (InPool p) e (held_at p i l)

held_stands : (p : List Re) (x : Re) → InPool p x → StandsIn p x
unfolding holds
held_stands [] x h = absurd (clash h refl)
held_stands (y ∷ p) x h = elim (or_true (same_term y x) (holds p x) h) [
  | inl e ↦ (0, omega arith, term_same y x e)
  | inr e ↦ let (i, l, d) = held_stands p x e in (suc i, omega arith, d)
]

pub pools : (p v : List Re) → Pools p v (with_vector p v)
pools p v = record {
  holds_all = λ x. (
    λ s. elim ((vector_hold p v x).0 (stands_held (with_vector p v) x s)) [ inl h ↦ inl (held_stands p x h) | inr o ↦ inr o ],
    λ s. held_stands (with_vector p v) x ((vector_hold p v x).1 (elim s [ inl h ↦ inl (stands_held p x h) | inr o ↦ inr o ])),
  );
  holds_once = vector_once p v;
}

-- ---- one step

stopped_refusal : {r q : Refusal} → stopped r ≡ stopped q → r ≡ q
stopped_refusal e = cc

pool_long : {p q : ℕ} → Pool p ≡ Long q → ⊥
pool_long e = let z : ◌≡◌ {A = ℕ} 0 1 = cc in omega arith

module _ (h : Held) (y : Item) where
  is_for : (k : ℕ) → k < length h.items → Pair (get_or h.items k none) y → IsFor h k y
  is_for k l p = record { inside = l; sheet_is = p.same_sheet; vector_is = p.same_vector_lem }

  pair_for : (k : ℕ) → IsFor h k y → Pair (get_or h.items k none) y
  pair_for k i = record { same_sheet = i.sheet_is; same_vector_lem = i.vector_is }

  unmet_new : Unmet h y → New h y
  unmet_new n k i = number_after h.items y n k i.inside (pair_for k i)

-- no item before its number is for a pair
number_first : (ys : List Item) (x : Item) (k : ℕ) → k < number_in ys x → Pair (get_or ys k none) x → ⊥
unfolding number_in
number_first [] x k l p = omega arith
number_first (y ∷ ys) x k l p = go (same_pair y x) refl (number_first ys x) k l p
  where
    go : (b : Bool) → same_pair y x ≡ b → ((k : ℕ) → k < number_in ys x → Pair (get_or ys k none) x → ⊥)
        → (k : ℕ) → k < cond b 0 (suc (number_in ys x)) → Pair (get_or (y ∷ ys) k none) x → ⊥
    go true d ih k m q = omega arith
    go false d ih zero m q = clash (same_pair_lem y x q) d
    go false d ih (suc k) m q = ih k (omega arith) q

module _ (way : Way) (place : ℕ) (h : Held) (y : Item) where
  came_comes : {s : Step} → Came way place h y s → Comes way place h y s
  came_comes (held j l p n) =
      again j (is_for h y j l p) (λ k m i. number_first h.items y k (rw (← n) m) (pair_for h y k i))
  came_comes (Came·full n l) = full (unmet_new h y n) l
  came_comes (Came·over n l p) = over (unmet_new h y n) l p
  came_comes (new n l p) = next (unmet_new h y n) l p

  first_same : (j k : ℕ) → IsFor h j y → ((m : ℕ) → m < j → IsFor h m y → ⊥) → IsFor h k y → ((m : ℕ) → m < k → IsFor h m y → ⊥) → j ≡ k
  first_same j k i f l g =
      elim (dec_lt j k) [
        | yes m ↦ absurd (g j m i)
        | no m ↦ elim (dec_lt k j) [ yes n ↦ absurd (f k n l) | no n ↦ omega arith ]
      ]

  comes_one : {s t : Step} → Comes way place h y s → Comes way place h y t → s ≡ t
  comes_one (again j i f) (again k l g) = ap (reached h) (first_same j k i f l g)
  comes_one (again j i f) (full n l) = absurd (n j i)
  comes_one (again j i f) (over n l p) = absurd (n j i)
  comes_one (again j i f) (next n l p) = absurd (n j i)
  comes_one (full n l) (again j i f) = absurd (n j i)
  comes_one (full n l) (full m k) = refl
  comes_one (full n l) (over m k p) = absurd (omega arith)
  comes_one (full n l) (next m k p) = absurd (omega arith)
  comes_one (over n l p) (again j i f) = absurd (n j i)
  comes_one (over n l p) (full m k) = absurd (omega arith)
  comes_one (over n l p) (over m k q) = refl
  comes_one (over n l p) (next m k q) = absurd (omega arith)
  comes_one (next n l p) (again j i f) = absurd (n j i)
  comes_one (next n l p) (full m k) = absurd (omega arith)
  comes_one (next n l p) (over m k q) = absurd (omega arith)
  comes_one (next n l p) (next m k q) = refl

  module _ (f : Re → Fit) (v : List Re) where
    tries_one : {s t : Step} → Tries way place h f v y s → Tries way place h f v y t → s ≡ t
    tries_one (long l) (long k) = refl
    tries_one (long l) (comes n c) = absurd (n l)
    tries_one (comes n c) (long l) = absurd (n l)
    tries_one (comes n c) (comes m d) = comes_one c d

    -- the refusals one by one
    long_only : OwnRefusal way → {s : Step} → Tries way place h f v y s → s ≡ stopped (Long place) → SomeLong f v
    long_only o (long l) e = l
    long_only o (comes n (again j i g)) e = absurd (no_reach (sym e))
    long_only o (comes n (full m l)) e = absurd (o.not_long place place (stopped_refusal e))
    long_only o (comes n (over m l p)) e = absurd (pool_long (stopped_refusal e))
    long_only o (comes n (next m l p)) e = absurd (no_reach (sym e))

    full_only : OwnRefusal way → {s : Step} → Tries way place h f v y s → s ≡ stopped (way.full place)
        → (SomeLong f v → ⊥) × New h y × (way.limit ≤ length h.items)
    full_only o (long l) e = absurd (o.not_long place place (sym (stopped_refusal e)))
    full_only o (comes n (again j i g)) e = absurd (no_reach (sym e))
    full_only o (comes n (full m l)) e = (n, m, l)
    full_only o (comes n (over m l p)) e = absurd (o.not_pool place place (sym (stopped_refusal e)))
    full_only o (comes n (next m l p)) e = absurd (no_reach (sym e))

    pool_only : OwnRefusal way → {s : Step} → Tries way place h f v y s → s ≡ stopped (Pool place)
        → (SomeLong f v → ⊥) × New h y × (length h.items < way.limit) × (way.terms < terms_with h y)
    pool_only o (long l) e = absurd (pool_long (sym (stopped_refusal e)))
    pool_only o (comes n (again j i g)) e = absurd (no_reach (sym e))
    pool_only o (comes n (full m l)) e = absurd (o.not_pool place place (stopped_refusal e))
    pool_only o (comes n (over m l p)) e = (n, m, l, p)
    pool_only o (comes n (next m l p)) e = absurd (no_reach (sym e))

    tries_stops : OwnRefusal way → (s : Step) → Tries way place h f v y s → Stops way place h f v y s
    tries_stops o s t = record {
      is_long_lem = (long_only o t, λ l. tries_one t (long l));
      is_full = (full_only o t, λ (n, m, l). tries_one t (comes n (full m l)));
      is_pool = (pool_only o t, λ (n, m, l, p). tries_one t (comes n (over m l p)));
    }

-- what a step comes to, by its vector
step_tries : (way : Way) (i : ℕ) (h : Held) (c : ℕ) → Goes way i h c (step way i h c)
unfolding step
step_tries way i h c = go (derived c x.vector) (derived_vectors c x.vector) (derived_is c x.vector)
  where
    x : Item
    x = get_or h.items i none

    go : (v : Vector) → Vectors (deriv_fit c) x.vector v (derive_all c x.vector) → Is v (derive_all c x.vector) → Goes way i h c (come_by way i h c v)
    go TooLong q d = long (q.too_long.0 refl)
    go (Terms v) q d =
        let place = way.told h.items i in
        let y = after way x c v in
        comes (q.fits.0 (ap Terms d))
        (subst (λ (w : List Re). Comes way place h (after way x c w) (come way place h y)) d (came_comes way place h y (came way place h y)))

begin_tries : (way : Way) (rs : List Re) → Begins way rs (begin_by way (normalised rs))
begin_tries way rs = go (normalised rs) (normalised_vectors rs) (normalised_is rs)
  where
    go : (v : Vector) → Vectors normal_fit rs v (start rs) → Is v (start rs) → Begins way rs (begin_by way v)
    go TooLong q d = long (q.too_long.0 refl)
    go (Terms v) q d =
        let y : Item = record { sheet = 0; vector = v; text = [] } in
        comes (q.fits.0 (ap Terms d))
        (subst (λ (w : List Re). Comes way 0 nothing_held (record { sheet = 0; vector = w; text = [] }) (come way 0 nothing_held y)) d
        (came_comes way 0 nothing_held y (came way 0 nothing_held y)))

pub step_goes : (way : Way) (i : ℕ) (h : Held) (c : ℕ) (s : Step) → (step way i h c ≡ s) ↔ Goes way i h c s
step_goes way i h c s = (
  λ e. subst (Goes way i h c) e (step_tries way i h c),
  λ g. tries_one way _ h _ _ _ (step_tries way i h c) g,
)

pub begin_goes : (way : Way) (rs : List Re) (s : Step) → (begin_by way (normalised rs) ≡ s) ↔ Begins way rs s
begin_goes way rs s = (
  λ e. subst (Begins way rs) e (begin_tries way rs),
  λ g. tries_one way 0 nothing_held _ normal_fit rs (begin_tries way rs) g,
)

pub step_stops : (way : Way) → OwnRefusal way → (i : ℕ) (h : Held) (c : ℕ)
    → Stops way (way.told h.items i) h (deriv_fit c) (get_or h.items i none).vector (on_by way c (get_or h.items i none)) (step way i h c)
step_stops way o i h c = tries_stops way _ h _ _ _ o (step way i h c) (step_tries way i h c)

pub begin_stops : (way : Way) → OwnRefusal way → (rs : List Re)
    → Stops way 0 nothing_held normal_fit rs (record { sheet = 0; vector = start rs; text = [] }) (begin_by way (normalised rs))
begin_stops way o rs = tries_stops way 0 nothing_held _ normal_fit rs o (begin_by way (normalised rs)) (begin_tries way rs)

-- ---- the whole walk

module _ (way : Way) (rs : List Re) (h : Held) where
  items_of : Good way rs h → Pooled way.terms h → Items way rs h
  items_of g p = record {
    some = g.some;
    few = g.few;
    first = g.begins;
    is_text = λ k l. (g.led k l).text_is;
    sheet_is = λ k l. (g.led k l).sheet_is;
    vector_is = λ k l. (g.led k l).vector_is;
    apart = λ j k l m i. g.once j k l m (pair_for h (get_or h.items k none) j i);
    rising = g.rising;
    pool_few = p.low;
    pool_once = p.once;
    pool_holds = λ x. (
      λ s. p.only x (stands_held h.pool x s),
      λ (k, l, o). held_stands h.pool x (p.parts k l x o),
    );
  }

  leads_to : (w : Text) (j : ℕ) → Arrived way rs h w j → LeadsTo way rs h w j
  leads_to w j a = record {
    arrives = record { inside = a.inside; sheet_is = a.sheet_is; vector_is = a.vector_is };
    no_later = a.not_later;
  }

  pub walk_finished : (js : List ℕ) → walk_from way rs ≡ walked h js → Finished way rs h js
  walk_finished js e =
      let x = walk_explores way rs h js e in
      record {
        items = items_of x.good (walk_pooled way rs h js e);
        many = x.many;
        on = λ i c l b.
            let z = x.leads i c l b in
            record { inside = z.inside; sheet_is = z.sheet_on; vector_is = z.vector_on };
        every = λ w b. leads_to w _ (arrived way rs h js x w b);
      }

module _ (way : Way) (rs : List Re) where
  underway_halts : (h : Held) (i c : ℕ) (r : Refusal) → i < length h.items → c < bytes → Underway way rs i c h
      → step way i h c ≡ stopped r → Halts way rs r
  underway_halts h i c r l b u e =
      Halts·later h i c l b (items_of way rs h u.good u.pooled) (u.ahead l)
      (λ w k s. let (j, a) = arrived_sooner way rs i c h u l w k s in (j, leads_to way rs h w j a)) e

  halt_step : (i c : ℕ) (h : Held) → i < length h.items → c < bytes → Underway way rs i c h
      → StepIs (Underway way rs i (suc c)) (Halts way rs) (step way i h c)
  halt_step i c h l b u = go (step way i h c) refl (step_met way rs i c h l b u)
    where
      go : (s : Step) → step way i h c ≡ s → StepIs (Underway way rs i (suc c)) (Met way rs) s → StepIs (Underway way rs i (suc c)) (Halts way rs) s
      go (stopped r) e m = underway_halts h i c r l b u e
      go (reached g j) e m = m

  halt_begin : (s : Step) → begin_by way (normalised rs) ≡ s → StepIs (Underway way rs 0 0) (Met way rs) s → StepIs (Underway way rs 0 0) (Halts way rs) s
  halt_begin (stopped r) e m = at_once e
  halt_begin (reached g j) e m = m

  pub walk_halts : 0 < way.limit → (r : Refusal) → walk_from way rs ≡ halted r → Halts way rs r
  walk_halts some r e =
      subst (WalkIs (λ h. Unit {0}) (Halts way rs)) e
      (walk_is way (Underway way rs) (Halts way rs) halt_step (underway_turn way rs) (λ h. Unit {0}) (λ i h u. tt) rs
      (halt_begin (begin_by way (normalised rs)) refl (begin_met way rs some (normalised rs) refl (normalised_is rs))))
