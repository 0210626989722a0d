-- The walk explores: every item is what its text leads to, texts rise in the order found, and each byte leads from item to item.
-- So every text leads to an item whose text is not later than it, which is what building and comparing rest on.
use Prim.Native.Nat.{ℕ, zero, suc, ◌+◌, ◌*◌, ◌<◌, ◌≤◌}
use Rattle.std.specs.Prelude.{◌≡◌, Bool, true, false, cond, ltb, length, get_or}
use Rattle.std.proofs.Math.Path.{refl, subst}
use Rattle.std.proofs.Common.{sym, ap, ◌∙◌, ltb-true, ltb-false, length-append, get_or-append-add}
use mathlib.Core.List.{List, [], ◌∷◌, ◌++◌}
use native.Mathlib.Omega.{arith}
use Rattle.std.proofs.Math.Decide.{dec_lt}
use Rattle.std.proofs.Math.ListN.{get_or-append}
use Rattle.std.proofs.Math.Seq.{get_or-append_seam}
use Rattle.number.specs.declared.Refusal.{Refusal}
use Rattle.number.specs.Limits.{bytes}
use Rattle.number.specs.Numbers.{Bytes}
use Rattle.meaning.specs.Re.{Re, Text}
use Rattle.meaning.specs.Rules.{derive_all, derive_by, start}
use Rattle.meaning.specs.Words.{reach}
use Rattle.walk.specs.Walk.{Item, Held, number_in, Step, Way, added, step, Walked, prepend, row, rows}
use Rattle.walk.specs.Walk.Step.{stopped, reached}
use Rattle.walk.specs.Walk.Walked.{halted, walked}
use Rattle.walk.specs.StepLaws.{item, count, Pair, added_old, added_new, added_count, each_added, pairs_added, Moved, step_moved, number_after, Fits, step_fits}
use Rattle.walk.specs.StepLaws.Moved.{again, fresh}
use Rattle.walk.specs.Texts.{Sooner, NotLater}
use Rattle.walk.specs.Texts.NotLater.{equal, sooner}
use Rattle.walk.specs.TextLaws.{sooner_trans, sooner_snoc, sooner_last, length_snoc}

-- ---- texts with one byte more

pub bytes_more : (w : Text) (c : ℕ) → Bytes w → c < bytes → Bytes (w ++ (c ∷ []))
bytes_more w c b h i k =
    elim (dec_lt i (length w)) [
      | yes l ↦ rw (get_or-append w (c ∷ []) 0 i l) (b i l)
      | no f ↦
          let e : i ≡ length w = omega (arith, length_snoc w c) in
          rw (e, get_or-append_seam w c [] 0) h
    ]

pub reach_more : {S : Type 0} (go : S → ℕ → S) (s : S) (w : Text) (c : ℕ) → reach go s (w ++ (c ∷ [])) ≡ go (reach go s w) c
reach_more go s [] c = refl
reach_more go s (b ∷ w) c = reach_more go (go s b) w c

pub derive_more : (v : List Re) (w : Text) (c : ℕ) → derive_by v (w ++ (c ∷ [])) ≡ derive_all c (derive_by v w)
derive_more v [] c = refl
derive_more v (b ∷ w) c = derive_more (derive_all b v) w c

-- ---- what is held

-- item k is what its text leads to
pub record Led (way : Way) (rs : List Re) (x : Item) : Type 0 where
  pub sheet_is : x.sheet ≡ reach way.go 0 x.text
  pub vector_is : x.vector ≡ derive_by (start rs) x.text
  pub text_is : Bytes x.text

pub record Good (way : Way) (rs : List Re) (h : Held) : Type 0 where
  pub some : 0 < count h
  pub few : count h ≤ way.limit
  pub begins : (item h 0).text ≡ []
  pub led : (k : ℕ) → k < count h → Led way rs (item h k)
  pub short : (k : ℕ) → k < count h → length (item h k).text ≤ k
  pub rising : (j k : ℕ) → j < k → k < count h → Sooner (item h j).text (item h k).text
  pub once : (j k : ℕ) → j < k → k < count h → Pair (item h j) (item h k) → ⊥

-- all texts come sooner than that of item i with byte c behind it
abbrev pub Ahead : Held → ℕ → ℕ → Type 0
Ahead h i c = (k : ℕ) → k < count h → Sooner (item h k).text ((item h i).text ++ (c ∷ []))

-- what was held is held
pub record Extends (h h' : Held) : Type 0 where
  pub up : count h ≤ count h'
  pub same : (k : ℕ) → k < count h → item h' k ≡ item h k

extends_self : (h : Held) → Extends h h
extends_self h = record { up = omega arith; same = λ k l. refl }

extends_on : {h h' h'' : Held} → Extends h h' → Extends h' h'' → Extends h h''
extends_on {h} e f = record { up = omega (arith, e.up, f.up); same = λ k l. f.same k (omega (arith, e.up)) ∙ e.same k l }

-- byte c leads from item i to item j, whose text is not later than that of i with c behind it
pub record Leads (way : Way) (h : Held) (i c j : ℕ) : Type 0 where
  pub inside : j < count h
  pub sheet_on : (item h j).sheet ≡ way.go (item h i).sheet c
  pub vector_on : (item h j).vector ≡ derive_all c (item h i).vector
  pub fits : Fits c (item h i).vector
  pub not_later : NotLater (item h j).text ((item h i).text ++ (c ∷ []))

pub leads_on : (way : Way) {h h' : Held} (i c j : ℕ) → Extends h h' → i < count h → Leads way h i c j → Leads way h' i c j
leads_on way {h} {h'} i c j e k l =
    let p = e.same j l.inside in
    let q = e.same i k in
    record {
      inside = omega (arith, e.up, l.inside);
      sheet_on = rw (p, q) l.sheet_on;
      vector_on = rw (p, q) l.vector_on;
      fits = rw q l.fits;
      not_later = rw (p, q) l.not_later;
    }

-- ---- one item more

module _ (way : Way) (rs : List Re) (h : Held) (y : Item) where
  added_extends : Extends h (added h y)
  added_extends = record { up = omega (arith, added_count h y); same = added_old h y }

  good_added : Good way rs h → Led way rs y → length y.text ≤ count h → ((j : ℕ) → j < count h → Sooner (item h j).text y.text) → count h < way.limit
      → number_in h.items y ≡ count h → Good way rs (added h y)
  good_added g l z s f n = record {
    some = omega (arith, added_count h y);
    few = omega (arith, added_count h y);
    begins = ap (λ (x : Item). x.text) (added_old h y 0 g.some) ∙ g.begins;
    led = each_added h y (λ k. Led way rs) g.led l;
    short = each_added h y (λ k x. length x.text ≤ k) g.short z;
    rising = pairs_added h y (λ x z. Sooner x.text z.text) g.rising s;
    once = pairs_added h y (λ x z. Pair x z → ⊥) g.once (λ j k p. number_after h.items y n j k p);
  }

-- ---- one step

-- the next item is what its text leads to
pub led_next : (way : Way) (rs : List Re) (x y : Item) (c : ℕ) → Led way rs x → c < bytes → y.sheet ≡ way.go x.sheet c → y.vector ≡ derive_all c x.vector
    → y.text ≡ x.text ++ (c ∷ []) → Led way rs y
led_next way rs x y c l b p q t = record {
  sheet_is = p ∙ ap (λ (s : ℕ). way.go s c) l.sheet_is ∙ sym (reach_more way.go 0 x.text c) ∙ ap (reach way.go 0) (sym t);
  vector_is = q ∙ ap (derive_all c) l.vector_is ∙ sym (derive_more (start rs) x.text c) ∙ ap (derive_by (start rs)) (sym t);
  text_is = rw t (bytes_more x.text c l.text_is b);
}

-- after the step from item i by byte c
pub record Stepped (way : Way) (rs : List Re) (i c : ℕ) (h h' : Held) (j : ℕ) : Type 0 where
  pub good : Good way rs h'
  pub extends : Extends h h'
  pub ahead : Ahead h' i (suc c)
  pub leads : Leads way h' i c j

module _ (way : Way) (rs : List Re) (i c : ℕ) where
  pub stepped : (h : Held) {h' : Held} {j : ℕ} → Good way rs h → i < count h → c < bytes → Ahead h i c → Fits c (item h i).vector → Moved way (item h i) c h h' j
      → Stepped way rs i c h h' j
  stepped h g l b a d (again j k p q) = record {
    good = g;
    extends = extends_self h;
    ahead = λ m n. sooner_trans (a m n) (sooner_last (item h i).text (omega arith));
    leads = record { inside = k; sheet_on = p; vector_on = q; fits = d; not_later = sooner (a j k) };
  }
  stepped h g l b a d (fresh y p q t f n) =
      let old = added_old h y in
      let now = added_new h y in
      let text-i : (item (added h y) i).text ≡ (item h i).text = ap (λ (x : Item). x.text) (old i l) in
      record {
        good = good_added way rs h y g (led_next way rs (item h i) y c (g.led i l) b p q t)
            (omega (arith, ap length t, length_snoc (item h i).text c, g.short i l)) (λ j k. rw t (a j k)) f n;
        extends = added_extends way rs h y;
        ahead = rw text-i (each_added h y (λ k x. Sooner x.text ((item h i).text ++ (suc c ∷ [])))
            (λ m k. sooner_trans (a m k) (sooner_last (item h i).text (omega arith))) (rw t (sooner_last (item h i).text (omega arith))));
        leads = record {
          inside = omega (arith, added_count h y);
          sheet_on = rw (now, old i l) p;
          vector_on = rw (now, old i l) q;
          fits = rw (old i l) d;
          not_later = rw (now, text-i) (equal t);
        };
      }

-- ---- one row

pub walked_held : {h h' : Held} {js js' : List ℕ} → walked h js ≡ walked h' js' → h ≡ h'
walked_held e = cc

pub walked_numbers : {h h' : Held} {js js' : List ℕ} → walked h js ≡ walked h' js' → js ≡ js'
walked_numbers e = cc

pub no_walk : {r : Refusal} {h : Held} {js : List ℕ} → halted r ≡ walked h js → ⊥
no_walk e = let z : ◌≡◌ {A = ℕ} 0 1 = cc in omega arith

pub record Rowed (way : Way) (rs : List Re) (i k c : ℕ) (h h' : Held) (js : List ℕ) : Type 0 where
  pub good : Good way rs h'
  pub extends : Extends h h'
  pub many : length js ≡ k
  pub ahead : Ahead h' i (c + k)
  pub leads : (m : ℕ) → m < k → Leads way h' i (c + m) (get_or js m 0)

module _ (way : Way) (rs : List Re) (i : ℕ) where
  -- a step, then the rest of the row
  rowed_on : (k c j : ℕ) (ks : List ℕ) {h h₁ h' : Held} → i < count h → Stepped way rs i c h h₁ j → Rowed way rs i k (suc c) h₁ h' ks → Rowed way rs i (suc k) c h h' (j ∷ ks)
  rowed_on k c j ks {h} {h₁} {h'} l s r = record {
    good = r.good;
    extends = extends_on s.extends r.extends;
    many = ap suc r.many;
    ahead = let e : suc c + k ≡ c + suc k = omega arith in subst (Ahead h' i) e r.ahead;
    leads = go;
  }
    where
      go : (m : ℕ) → m < suc k → Leads way h' i (c + m) (get_or (j ∷ ks) m 0)
      go zero n =
          let e : c ≡ c + 0 = omega arith in
          subst (λ (x : ℕ). Leads way h' i x j) e (leads_on way i c j r.extends (omega (arith, s.extends.up)) s.leads)
      go (suc m) n =
          let e : suc c + m ≡ c + suc m = omega arith in
          subst (λ (x : ℕ). Leads way h' i x (get_or ks m 0)) e (r.leads m (omega arith))

  pub row_good : (k c : ℕ) (h : Held) → Good way rs h → i < count h → c + k ≡ bytes → Ahead h i c → (h' : Held) (js : List ℕ) → row way i k c h ≡ walked h' js
      → Rowed way rs i k c h h' js
  unfolding row
  row_good zero c h g l b a h' js e =
      rw (← walked_held e, ← walked_numbers e)
      (record {
        good = g;
        extends = extends_self h;
        many = refl;
        ahead = let d : c ≡ c + 0 = omega arith in subst (Ahead h i) d a;
        leads = λ m n. absurd (omega arith);
      })
  row_good (suc k) c h g l b a h' js e = go (step way i h c) refl (row_good k (suc c)) e
    where
      Rest : Type 0
      Rest = (h₁ : Held) → Good way rs h₁ → i < count h₁ → suc c + k ≡ bytes → Ahead h₁ i (suc c) → (h'' : Held) (ks : List ℕ)
          → row way i k (suc c) h₁ ≡ walked h'' ks → Rowed way rs i k (suc c) h₁ h'' ks

      rest : (h₁ : Held) (j : ℕ) → Stepped way rs i c h h₁ j → (w : Walked)
          → ((h'' : Held) (ks : List ℕ) → w ≡ walked h'' ks → Rowed way rs i k (suc c) h₁ h'' ks) → prepend (j ∷ []) w ≡ walked h' js
          → Rowed way rs i (suc k) c h h' js
      rest h₁ j s (halted r) f d = absurd (no_walk d)
      rest h₁ j s (walked h'' ks) f d = rw (← walked_held d, ← walked_numbers d) (rowed_on k c j ks l s (f h'' ks refl))

      go : (s : Step) → step way i h c ≡ s → Rest
          → elim s as (λ _. Walked) [ stopped r ↦ halted r | reached h₁ j ↦ prepend (j ∷ []) (row way i k (suc c) h₁) ] ≡ walked h' js
          → Rowed way rs i (suc k) c h h' js
      go (stopped r) d ih f = absurd (no_walk f)
      go (reached h₁ j) d ih f =
          let s = stepped way rs i c h g l (omega arith) a (step_fits way i h c h₁ j d) (step_moved way i h c h₁ j d) in
          rest h₁ j s (row way i k (suc c) h₁) (ih h₁ s.good (omega (arith, s.extends.up)) (omega arith) s.ahead) f

-- ---- all rows

-- numbers of rows one behind the other, the first for item i
abbrev pub target : List ℕ → ℕ → ℕ → ℕ
target js i c = get_or js (i * bytes + c) 0

pub record Rows (way : Way) (rs : List Re) (i : ℕ) (h h' : Held) (js : List ℕ) : Type 0 where
  pub good : Good way rs h'
  pub extends : Extends h h'
  pub many : i * bytes + length js ≡ count h' * bytes
  pub leads : (m c : ℕ) → i + m < count h' → c < bytes → Leads way h' (i + m) c (target js m c)

module _ (way : Way) (rs : List Re) where
  -- the row of item i, then the rows behind it
  rows_on : (i : ℕ) (js ks : List ℕ) {h h₁ h' : Held} → i < count h → Rowed way rs i bytes 0 h h₁ js → Rows way rs (suc i) h₁ h' ks → Rows way rs i h h' (js ++ ks)
  rows_on i js ks {h} {h₁} {h'} l r s = record {
    good = s.good;
    extends = extends_on r.extends s.extends;
    many = let e = length-append js ks in omega (arith, s.many, r.many);
    leads = go;
  }
    where
      go : (m c : ℕ) → i + m < count h' → c < bytes → Leads way h' (i + m) c (target (js ++ ks) m c)
      go zero c n b =
          let p : i ≡ i + 0 = omega arith in
          let q : 0 * bytes + c ≡ c = omega arith in
          let t : get_or (js ++ ks) (0 * bytes + c) 0 ≡ get_or js c 0 = rw q (get_or-append js ks 0 c (omega (arith, r.many))) in
          let u : 0 + c ≡ c = omega arith in
          let v : Leads way h₁ i c (get_or js c 0) = subst (λ (x : ℕ). Leads way h₁ i x (get_or js c 0)) u (r.leads c b) in
          rw t (subst (λ (x : ℕ). Leads way h' x c (get_or js c 0)) p (leads_on way i c (get_or js c 0) s.extends (omega (arith, r.extends.up)) v))
      go (suc m) c n b =
          let p : suc i + m ≡ i + suc m = omega arith in
          let q : suc m * bytes + c ≡ length js + (m * bytes + c) = omega (arith, r.many) in
          let t : get_or (js ++ ks) (suc m * bytes + c) 0 ≡ target ks m c = rw q (get_or-append-add js ks (m * bytes + c) 0) in
          rw t (subst (λ (x : ℕ). Leads way h' x c (target ks m c)) p (s.leads m c (omega arith) b))

  -- the texts come sooner than the next item's first byte
  pub ahead_next : (i : ℕ) (h : Held) → Good way rs h → Ahead h i bytes → suc i < count h → Ahead h (suc i) 0
  ahead_next i h g a l k m = sooner_trans (a k m) (sooner_snoc bytes 0 (g.rising i (suc i) (omega arith) l))

  pub rows_good : (k i : ℕ) (h : Held) → Good way rs h → i + k ≡ way.limit → i ≤ count h → (i < count h → Ahead h i 0) → (h' : Held) (js : List ℕ)
      → rows way k i h ≡ walked h' js → Rows way rs i h h' js
  unfolding rows
  rows_good zero i h g f m a h' js e =
      rw (← walked_held e, ← walked_numbers e)
      (record {
        good = g;
        extends = extends_self h;
        many = let d : i ≡ count h = omega (arith, g.few) in rw d (omega arith);
        leads = λ m c n b. absurd (omega (arith, g.few));
      })
  rows_good (suc k) i h g f m a h' js e = go (ltb i (count h)) refl (rows_good k (suc i)) e
    where
      Rest : Type 0
      Rest = (h₁ : Held) → Good way rs h₁ → suc i + k ≡ way.limit → suc i ≤ count h₁ → (suc i < count h₁ → Ahead h₁ (suc i) 0) → (h'' : Held) (ks : List ℕ)
          → rows way k (suc i) h₁ ≡ walked h'' ks → Rows way rs (suc i) h₁ h'' ks

      rest : i < count h → (h₁ : Held) (ks : List ℕ) → Rowed way rs i bytes 0 h h₁ ks → (w : Walked)
          → ((h'' : Held) (ls : List ℕ) → w ≡ walked h'' ls → Rows way rs (suc i) h₁ h'' ls) → prepend ks w ≡ walked h' js → Rows way rs i h h' js
      rest l h₁ ks r (halted x) q d = absurd (no_walk d)
      rest l h₁ ks r (walked h'' ls) q d = rw (← walked_held d, ← walked_numbers d) (rows_on i ks ls l r (q h'' ls refl))

      first : i < count h → Rest → (w : Walked) → row way i bytes 0 h ≡ w
          → elim w as (λ _. Walked) [ halted r ↦ halted r | walked h₁ ks ↦ prepend ks (rows way k (suc i) h₁) ] ≡ walked h' js → Rows way rs i h h' js
      first l ih (halted r) d q = absurd (no_walk q)
      first l ih (walked h₁ ks) d q =
          let r = row_good way rs i bytes 0 h g l (omega arith) (a l) h₁ ks d in
          rest l h₁ ks r (rows way k (suc i) h₁)
          (ih h₁ r.good (omega arith) (omega (arith, r.extends.up)) (λ n. ahead_next i h₁ r.good r.ahead n)) q

      go : (b : Bool) → ltb i (count h) ≡ b → Rest
          → cond b (elim (row way i bytes 0 h) as (λ _. Walked) [ halted r ↦ halted r | walked h₁ ks ↦ prepend ks (rows way k (suc i) h₁) ]) (walked h []) ≡ walked h' js
          → Rows way rs i h h' js
      go true d ih q = first (ltb-true i (count h) d) ih (row way i bytes 0 h) refl q
      go false d ih q =
          rw (← walked_held q, ← walked_numbers q)
          (record {
            good = g;
            extends = extends_self h;
            many = let n : i ≡ count h = omega (arith, ltb-false i (count h) d) in rw n (omega arith);
            leads = λ m c n b. absurd (omega (arith, ltb-false i (count h) d));
          })
