-- A walk tells its limits as texts do: items are goals, in the order of their first texts, and steps are tried in the order of their texts.
-- So a walk that is refused has met the limit of the first text that passes one, and a walk that is finished has met none. Building and comparing follow such a walk.
use Rattle.std.specs.Prelude.{ℕ, suc, ◌+◌, ◌-◌, ◌<◌, ◌≤◌, ◌≡◌, refl, List, [], ◌∷◌, ◌++◌, length}
use Rattle.std.proofs.Common.{sym, ap, subst, ◌∙◌, inl, inr, arith}
use Rattle.std.proofs.Math.Decide.{dec_lt}
use Rattle.number.specs.declared.Refusal.{Refusal}
use Rattle.number.specs.Limits.{bytes, pool}
use Rattle.number.specs.Numbers.{Bytes}
use Rattle.number.specs.MainLaws.{bytes_none}
use Rattle.number.specs.Refused.{number, Row}
use Rattle.number.specs.Refused.{place as place_of}
use Rattle.number.specs.Refused.Row.{no_row, row}
use Rattle.meaning.specs.Re.{Re, Text}
use Rattle.meaning.specs.Rules.{start}
use Rattle.meaning.specs.Words.{reach}
use Rattle.walk.specs.Vectors.{derived, normalised}
use Rattle.walk.specs.Vectors.Vector.{Terms}
use Rattle.walk.specs.VectorLaws.{no_terms}
use Rattle.walk.specs.Parts.{with_vector, PartOf}
use Rattle.walk.specs.PartsLaws.{vector_hold, vector_once}
use Rattle.walk.specs.Walk.{Item, Held, Way, added, Walked, walk_from}
use Rattle.walk.specs.Walk.Walked.{halted, walked}
use Rattle.walk.specs.StepLaws.{item, count, Pair, number_after, added_old, added_count, each_added, pairs_added, Fits}
use Rattle.walk.specs.WalkLaws.{Led, Good, bytes_more, target}
use Rattle.walk.specs.Explored.{walk_explores, walk_fits, Arrived, arrived_added, arrived_new, arrived}
use Rattle.walk.specs.CountLaws.{at_most_by, pool_most}
use Rattle.walk.specs.KeepLaws.{WalkIs, Pooled, walk_pooled, none_held, once_none}
use Rattle.walk.specs.HaltLaws.{arrived_sooner, fits_sooner, text_before, Tried, Beyond, Met, walk_met}
use Rattle.walk.specs.HaltLaws.Met.{start_long, start_over, long, items_full, pool_full}
use Rattle.walk.specs.Texts.{Sooner, NotLater}
use Rattle.walk.specs.Texts.NotLater.{equal, sooner}
use Rattle.walk.specs.TextLaws.{snoc_some, snoc_front, snoc_last, sooner_some, none_sooner, sooner_trans, not_later_sooner}
use Rattle.walk.specs.Passing.{vector_after, NumberOf, LongAt, TermsTo, Holding, GoalsTo, Unpassed, WithinLimits, Limits}
use Rattle.walk.specs.Passing.LongAt.{rules, step}
use Rattle.walk.specs.Passing.Leaving.{nothing, goal_of}
use Rattle.walk.specs.PassingLaws.{Passed, Declined, limits_refused, limits_answered}
use Rattle.walk.specs.PassingLaws.Passed.{passed_long, passed_goals, passed_pool}

-- ---- what a way must be

-- texts that count lead to one goal exactly where the way leads to one item; and where the empty text does not count, no other text leads to its item
pub record Counts {A : Type 0} (way : Way) (x : Holding A) : Type 0 where
  pub from_few : x.from ≤ 1
  pub one_goal : (v w : Text) → x.from ≤ length v → x.from ≤ length w
      → reach way.go 0 v ≡ reach way.go 0 w → vector_after x.rules v ≡ vector_after x.rules w → x.goal v ≡ x.goal w
  pub one_sheet : (v w : Text) → x.from ≤ length v → x.from ≤ length w → x.goal v ≡ x.goal w → reach way.go 0 v ≡ reach way.go 0 w
  pub one_vector : (v w : Text) → x.goal v ≡ x.goal w → vector_after x.rules v ≡ vector_after x.rules w
  pub entry : (w : Text) → 0 < x.from → x.from ≤ length w → reach way.go 0 w ≡ 0 → ⊥

-- whatever is sooner than an item's text leads to an item before it
abbrev pub Earlier : Way → List Re → Held → Type 0
Earlier way rs h =
    (k : ℕ) → k < count h → (w : Text) → Bytes w → Sooner w (item h k).text → (j : ℕ) × (j < k) × Arrived way rs h w j

-- and its limits are those that are told, with the number of the goal as the number told for an item
pub record Follows {A : Type 0} (way : Way) (x : Holding A) : Type 0 where
  pub counts : Counts way x
  pub some : 0 < x.most
  pub limit_is : way.limit ≡ x.from + x.most
  pub terms_is : way.terms ≡ pool
  pub full_is : (place : ℕ) → row (number (way.full place)) (place_of (way.full place)) ≡ row x.full place
  pub own_row : (x.full ≡ 6 → ⊥) × (x.full ≡ 7 → ⊥)
  pub numbered : (h : Held) → Good way x.rules h → Earlier way x.rules h → (i : ℕ) → i < count h
      → NumberOf x.goal (item h i).text (way.told h.items i)

-- ---- items as goals

-- items in the order found, with one more than may be held too
pub record Listed (way : Way) (rs : List Re) (h : Held) : Type 0 where
  pub some : 0 < count h
  pub begins : (item h 0).text ≡ []
  pub led : (k : ℕ) → k < count h → Led way rs (item h k)
  pub rising : (j k : ℕ) → j < k → k < count h → Sooner (item h j).text (item h k).text
  pub once : (j k : ℕ) → j < k → k < count h → Pair (item h j) (item h k) → ⊥

module _ (way : Way) (rs : List Re) where
  pub listed : (h : Held) → Good way rs h → Listed way rs h
  listed h g = record { some = g.some; begins = g.begins; led = g.led; rising = g.rising; once = g.once }

  listed_beyond : {place : ℕ} (t : Tried way rs place) (z : Beyond t) → Listed way rs (added t.h z.y)
  listed_beyond t z =
      let g = t.underway.good in
      record {
        some = omega (arith, added_count t.h z.y);
        begins = ap (λ (y : Item). y.text) (added_old t.h z.y 0 g.some) ∙ g.begins;
        led = each_added t.h z.y (λ k. Led way rs) g.led z.led;
        rising = pairs_added t.h z.y (λ a b. Sooner a.text b.text) g.rising (λ j l. rw z.text_is (t.underway.ahead t.inside j l));
        once = pairs_added t.h z.y (λ a b. Pair a b → ⊥) g.once (λ j l. number_after t.h.items z.y z.unmet j l);
      }

  first_sheet : (h : Held) → Listed way rs h → (item h 0).sheet ≡ 0
  first_sheet h ls = (ls.led 0 ls.some).sheet_is ∙ ap (reach way.go 0) ls.begins

  -- where all texts that are sooner than the items' arrive, they do so at items before
  pub earlier : (h : Held) → Good way rs h
      → ((k : ℕ) → k < count h → (w : Text) → Bytes w → Sooner w (item h k).text → (j : ℕ) × Arrived way rs h w j) → Earlier way rs h
  earlier h g arrives k l w b s =
      let (j, a) = arrives k l w b s in
      (j, text_before way rs h g j k a.inside l (not_later_sooner a.not_later s), a)

module _ {A : Type 0} (way : Way) (x : Holding A) (c : Counts way x) (h : Held) (ls : Listed way x.rules h) where
  abbrev text_of : ℕ → Text
  text_of k = (item h k).text

  -- past the entry texts count
  pub item_enough : (k : ℕ) → x.from ≤ k → k < count h → x.from ≤ length (text_of k)
  item_enough k o l = elim (dec_lt 0 k) [
    | yes m ↦ omega (arith, c.from_few, sooner_some (rw ls.begins at (ls.rising 0 k m l)))
    | no f ↦ omega arith
  ]

  pub items_apart : (j k : ℕ) → x.from ≤ j → j < k → k < count h → x.goal (text_of j) ≡ x.goal (text_of k) → ⊥
  items_apart j k o l m e =
      let a = ls.led j (omega arith) in
      let b = ls.led k m in
      ls.once j k l m (record {
        same_sheet = a.sheet_is ∙ c.one_sheet (text_of j) (text_of k) (item_enough j o (omega arith)) (item_enough k (omega arith) m) e ∙ sym b.sheet_is;
        same_vector_lem = a.vector_is ∙ c.one_vector (text_of j) (text_of k) e ∙ sym b.vector_is;
      })

  goals_to : (n : ℕ) (last : Text) → x.from + n ≤ count h → ((k : ℕ) → k < count h → NotLater (text_of k) last) → GoalsTo x last n
  goals_to n last l soon = record {
    text = λ k. text_of (x.from + k);
    is_text = λ k m. (ls.led (x.from + k) (omega arith)).text_is;
    enough = λ k m. item_enough (x.from + k) (omega arith) (omega arith);
    soon = λ k m. soon (x.from + k) (omega arith);
    apart = λ j k m o. items_apart (x.from + j) (x.from + k) (omega arith) (omega arith) (omega arith);
  }

  -- texts that arrive lead to no more goals than there are items past the entry
  goals_most : (last : Text) (n : ℕ) → GoalsTo x last n → ((w : Text) → Bytes w → NotLater w last → (k : ℕ) × Arrived way x.rules h w k)
      → x.from + n ≤ count h
  goals_most last n m arrives =
      omega (
        arith,
        ls.some,
        c.from_few,
        at_most_by n (count h - x.from) (λ k j. Arrived way x.rules h (m.text k) (x.from + j))
            (λ k l. past (m.text k) (m.enough k l) (arrives (m.text k) (m.is_text k l) (m.soon k l)))
            (λ i k l o j a b. m.apart i k l o (c.one_goal (m.text i) (m.text k) (m.enough i (omega arith)) (m.enough k o)
            (sym a.sheet_is ∙ b.sheet_is) (sym a.vector_is ∙ b.vector_is))),
      )
    where
      past : (w : Text) → x.from ≤ length w → (k : ℕ) × Arrived way x.rules h w k → (j : ℕ) × (j < count h - x.from) × Arrived way x.rules h w (x.from + j)
      past w l (k, a) =
          elim (dec_lt k x.from) [
            | yes m ↦
                let e : k ≡ 0 = omega (arith, c.from_few) in
                absurd (c.entry w (omega arith) l (sym a.sheet_is ∙ ap (λ (j : ℕ). (item h j).sheet) e ∙ first_sheet way x.rules h ls))
            | no f ↦
                let e : k ≡ x.from + (k - x.from) = omega arith in
                (k - x.from, omega (arith, a.inside), subst (Arrived way x.rules h w) e a)
          ]

-- ---- terms

module _ (way : Way) (rs : List Re) where
  terms_most : (h : Held) → Pooled way.terms h → (last : Text) (terms : List Re) → TermsTo rs last terms
      → ((w : Text) → Bytes w → NotLater w last → (k : ℕ) × Arrived way rs h w k) → length terms ≤ way.terms
  terms_most h p last terms m arrives =
      omega (
        arith,
        pool_most terms h.pool m.once (λ y q.
            let (w, b, l, o) = m.part y q in
            let (k, a) = arrives w b l in
            p.parts k a.inside y (subst (PartOf y) (sym a.vector_is) o)),
        p.low,
      )

  terms_to : {place : ℕ} (t : Tried way rs place) (z : Beyond t) → TermsTo rs ((item t.h t.i).text ++ (t.c ∷ [])) (added t.h z.y).pool
  terms_to t z = record {
    once = vector_once t.h.pool z.y.vector t.underway.pooled.once;
    part = λ r q. elim ((vector_hold t.h.pool z.y.vector r).0 q) [
      | inl m ↦
          let (k, l, o) = t.underway.pooled.only r m in
          let led = t.underway.good.led k l in
          ((item t.h k).text, led.text_is, sooner (t.underway.ahead t.inside k l), subst (PartOf r) led.vector_is o)
      | inr o ↦ (z.y.text, z.led.text_is, equal z.text_is, subst (PartOf r) z.led.vector_is o)
    ];
  }

first_terms : (rs : List Re) → TermsTo rs [] (with_vector [] (start rs))
first_terms rs = record {
  once = vector_once [] (start rs) once_none;
  part = λ y q. elim ((vector_hold [] (start rs) y).0 q) [ inl h ↦ absurd (none_held y h) | inr p ↦ ([], bytes_none, equal refl, p) ];
}

first_short : (rs : List Re) → normalised rs ≡ Terms (start rs) → LongAt rs [] → ⊥
first_short rs e (rules f l) = no_terms (sym l ∙ e)
first_short rs e (step w c b m f l) = snoc_some w c (sym f)

-- ---- limits

module _ {A : Type 0} (way : Way) (x : Holding A) (f : Follows way x) where
  -- texts that are sooner than one arrive, by derivatives that fit: no limit is passed before it
  module _ (h : Held) (g : Good way x.rules h) (p : Pooled way.terms h) (fit : normalised x.rules ≡ Terms (start x.rules)) (last : Text)
      (arrives : (w : Text) → Bytes w → Sooner w last → (k : ℕ) × Arrived way x.rules h w k)
      (fits : (v : Text) (d : ℕ) → Bytes v → d < bytes → Sooner (v ++ (d ∷ [])) last → Fits d (vector_after x.rules v)) where
    not_long : (v : Text) → Sooner v last → LongAt x.rules v → ⊥
    not_long v s (rules e l) = no_terms (sym l ∙ fit)
    not_long v s (step w c b m e l) = no_terms (sym l ∙ fits w c b m (rw e at s))

    unpassed : Unpassed x last
    unpassed = record {
      none_long = λ v b. not_long v;
      goals_few = λ v n s m.
          omega (arith, goals_most way x f.counts h (listed way x.rules h g) v n m (λ w b q. arrives w b (not_later_sooner q s)), g.few, f.limit_is);
      terms_few = λ v terms s m. omega (arith, terms_most way x.rules h p v terms m (λ w b q. arrives w b (not_later_sooner q s)), f.terms_is);
    }

  -- ---- a refusal

  module _ {place : ℕ} (t : Tried way x.rules place) where
    abbrev left : Text
    left = (item t.h t.i).text

    abbrev next : Text
    next = left ++ (t.c ∷ [])

    left_led : Led way x.rules (item t.h t.i)
    left_led = t.underway.good.led t.i t.inside

    abbrev arrives : (w : Text) → Bytes w → Sooner w next → (k : ℕ) × Arrived way x.rules t.h w k
    arrives = arrived_sooner way x.rules t.i t.c t.h t.underway t.inside

    abbrev ahead : (k : ℕ) → k < count t.h → Sooner (item t.h k).text next
    ahead = t.underway.ahead t.inside

    left_number : NumberOf x.goal left place
    left_number =
        let g = t.underway.good in
        let e = earlier way x.rules t.h g (λ k l w b s. arrives w b (sooner_trans s (ahead k l))) in
        subst (NumberOf x.goal left) (sym t.is_place) (f.numbered t.h g e t.i t.inside)

    left_unpassed : Unpassed x next
    left_unpassed =
        unpassed t.h t.underway.good t.underway.pooled t.underway.rules_fit next arrives
        (fits_sooner way x.rules t.i t.c t.h t.underway t.inside)

    met : {n : ℕ} → Passed x next n → Declined x n place
    met p = record {
      last = next;
      first = record {
        is_text = bytes_more left t.c left_led.text_is t.byte;
        before = left_unpassed;
        leaving = goal_of left t.c refl left_number;
      };
      passed = p;
    }

    module _ (z : Beyond t) where
      abbrev more : Held
      more = added t.h z.y

      not_long_here : LongAt x.rules next → ⊥
      not_long_here (rules e l) = snoc_some left t.c e
      not_long_here (step w c b m e l) =
          let d : left ≡ w = snoc_front left w t.c c e in
          let o : t.c ≡ c = snoc_last left w t.c c e in
          no_terms (sym l ∙ ap (derived c) (ap (vector_after x.rules) (sym d) ∙ sym left_led.vector_is)
          ∙ subst (λ (b : ℕ). Fits b (item t.h t.i).vector) o z.fits)

      soon : (k : ℕ) → k < count more → NotLater (item more k).text next
      soon = each_added t.h z.y (λ k a. NotLater a.text next) (λ k l. sooner (ahead k l)) (equal z.text_is)

      -- with the new item every text up to this one arrives
      arrives_more : (w : Text) → Bytes w → NotLater w next → (k : ℕ) × Arrived way x.rules more w k
      arrives_more w b (sooner s) = let (k, a) = arrives w b s in (k, arrived_added way x.rules t.h z.y w k a)
      arrives_more w b (equal e) =
          (count t.h, rw e (subst (λ (u : Text). Arrived way x.rules more u (count t.h)) z.text_is (arrived_new way x.rules t.h z.y z.led)))

  -- vector 0
  first_met : {n : ℕ} → Passed x [] n → Declined x n 0
  first_met p = record {
    last = [];
    first = record {
      is_text = bytes_none;
      before = record {
        none_long = λ v b s. absurd (none_sooner s);
        goals_few = λ v n s. absurd (none_sooner s);
        terms_few = λ v terms s. absurd (none_sooner s);
      };
      leaving = nothing refl refl;
    };
    passed = p;
  }

  -- up to the empty text there is one goal at most
  first_goals : (n : ℕ) → GoalsTo x [] n → n ≤ x.most
  first_goals n m = elim (dec_lt 1 n) [
    | yes l ↦ absurd (m.apart 0 1 (omega arith) l (ap x.goal (none (m.soon 0 (omega arith)) ∙ sym (none (m.soon 1 l)))))
    | no g ↦ omega (arith, f.some)
  ]
    where
      none : {w : Text} → NotLater w [] → w ≡ []
      none (equal e) = e
      none (sooner s) = absurd (none_sooner s)

  refused : {r : Refusal} → Met way x.rules r → Limits x (row (number r) (place_of r))
  refused (start_long e) = limits_refused x f.own_row (first_met (passed_long (rules refl e)))
  refused (start_over e l) =
      limits_refused x f.own_row (first_met (passed_pool (first_short x.rules e) first_goals (with_vector [] (start x.rules), first_terms x.rules, omega (arith, f.terms_is))))
  refused (long place t e) =
      limits_refused x f.own_row
      (met t (passed_long (step (left t) t.c (left_led t).text_is t.byte refl (ap (derived t.c) (sym (left_led t).vector_is) ∙ e))))
  refused (items_full place t z l) =
      subst (Limits x) (sym (f.full_is place)) (limits_refused x f.own_row (met t (passed_goals (not_long_here t z)
      (goals_to way x f.counts (more t z) (listed_beyond way x.rules t z) (suc x.most) (next t)
      (omega (arith, added_count t.h z.y, f.limit_is)) (soon t z)))))
  refused (pool_full place t z m l) =
      limits_refused x f.own_row (met t (passed_pool (not_long_here t z)
      (λ n p.
      let most = goals_most way x f.counts (more t z) (listed_beyond way x.rules t z) (next t) n p (arrives_more t z) in
      omega (arith, most, added_count t.h z.y, f.limit_is))
      ((more t z).pool, terms_to way x.rules t z, omega (arith, f.terms_is))))

  -- ---- an answer

  answered : (h : Held) (js : List ℕ) → walk_from way x.rules ≡ walked h js → WithinLimits x
  answered h js e last =
      let y = walk_explores way x.rules h js e in
      unpassed h y.good (walk_pooled way x.rules h js e) (walk_fits way x.rules h js e) last
      (λ w b s. (reach (target js) 0 w, arrived way x.rules h js y w b))
      (λ v d b l s.
      let a = arrived way x.rules h js y v b in
      subst (Fits d) a.vector_is (y.leads (reach (target js) 0 v) d a.inside l).fits)

  -- ---- so an answer that tells what the walk comes to has these limits

  pub walk_limits : (answer : Walked → Row) → ((r : Refusal) → answer (halted r) ≡ row (number r) (place_of r))
      → ((h : Held) (js : List ℕ) → answer (walked h js) ≡ no_row) → Limits x (answer (walk_from way x.rules))
  walk_limits answer halts ends = go (walk_from way x.rules) refl (walk_met way x.rules (omega (arith, f.limit_is, f.some)))
    where
      go : (w : Walked) → walk_from way x.rules ≡ w → WalkIs (λ h. Unit {0}) (Met way x.rules) w → Limits x (answer w)
      go (halted r) e m = subst (Limits x) (sym (halts r)) (refused m)
      go (walked h js) e m = subst (Limits x) (sym (ends h js)) (limits_answered x (answered h js e))
