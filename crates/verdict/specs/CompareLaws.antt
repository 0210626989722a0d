-- The comparison by labels: Same exactly when they agree after every non-empty text of bytes; else the shown text is the first that differs.
-- Every text leads to an item whose text is not later, and items rise, so the first pair that differs has the first text that does.
use Rattle.std.specs.Prelude.{ℕ, zero, suc, ◌+◌, ◌<◌, ◌≤◌, ◌≡◌, refl, Bool, true, false, cond, List, [], ◌∷◌, eqb, length, get_or}
use Rattle.std.proofs.Common.{sym, ap, subst, ◌∙◌, arith, eqb-true, length-drop, get_or-drop}
use Rattle.std.proofs.Math.Decide.{dec_lt}
use Rattle.std.proofs.lemmas.Bool.{eqb-false}
use Rattle.number.specs.declared.Refusal.{Refusal}
use Rattle.number.specs.Limits.{shown_text}
use Rattle.number.specs.Numbers.{Bytes}
use Rattle.number.specs.Refused.{Outcome}
use Rattle.number.specs.Refused.Outcome.{gives, refuses}
use Rattle.meaning.specs.Re.{Re, Text}
use Rattle.meaning.specs.Rules.{label, label_after}
use Rattle.meaning.specs.Words.{reach}
use Rattle.table.specs.Table.{Table}
use Rattle.cutting.specs.Steps.{step_in, label_at, label_of}
use Rattle.walk.specs.Walk.{Item, none, Held, Walked, walk_from}
use Rattle.walk.specs.Walk.Walked.{halted, walked}
use Rattle.walk.specs.StepLaws.{item, count}
use Rattle.walk.specs.WalkLaws.{target}
use Rattle.walk.specs.Explored.{Explored, walk_explores, Arrived, first_arrived, arrived}
use Rattle.walk.specs.Texts.{NotLater}
use Rattle.walk.specs.Texts.NotLater.{equal, sooner}
use Rattle.walk.specs.TextLaws.{not_later_trans, sooner_some}
use Rattle.verdict.specs.Compare.{state_of, beside, found, Verdict, book_label, table_label, first_differing, compared_by, compare_rules}
use Rattle.verdict.specs.Compare.Verdict.{Same, Differs}

-- ---- the first item whose labels differ

abbrev Agrees : Table → Item → Type 0
Agrees t x = book_label x ≡ table_label t x

-- what the search found: no item, or item k and none before it
data Sought (t : Table) (xs : List Item) : Verdict → Type 0 where
  none_differs : ((k : ℕ) → k < length xs → Agrees t (get_or xs k none)) → Sought t xs Same
  one_differs : (k : ℕ) → k < length xs → (Agrees t (get_or xs k none) → ⊥) → ((j : ℕ) → j < k → Agrees t (get_or xs j none))
      → Sought t xs (Differs (get_or xs k none).text (book_label (get_or xs k none)) (table_label t (get_or xs k none)))

module _ (t : Table) (x : Item) (xs : List Item) (a : Agrees t x) where
  agrees_more : (n : ℕ) → ((k : ℕ) → k < n → Agrees t (get_or xs k none)) → (k : ℕ) → k < suc n → Agrees t (get_or (x ∷ xs) k none)
  agrees_more n f zero l = a
  agrees_more n f (suc k) l = f k (omega arith)

  sought_more : {v : Verdict} → Sought t xs v → Sought t (x ∷ xs) v
  unfolding agrees_more
  sought_more (none_differs f) = none_differs (agrees_more (length xs) f)
  sought_more (one_differs k l d f) = one_differs (suc k) (omega arith) d (agrees_more k f)

sought : (t : Table) (xs : List Item) → Sought t xs (first_differing t xs)
unfolding first_differing
sought t [] = none_differs (λ k l. absurd (omega arith))
sought t (x ∷ xs) = go (eqb (book_label x) (table_label t x)) refl (sought t xs)
  where
    go : (b : Bool) → eqb (book_label x) (table_label t x) ≡ b → Sought t xs (first_differing t xs)
        → Sought t (x ∷ xs) (cond b (first_differing t xs) (Differs x.text (book_label x) (table_label t x)))
    go true e ih = sought_more t x xs (eqb-true (book_label x) (table_label t x) e) ih
    go false e ih = one_differs 0 (omega arith) (eqb-false (book_label x) (table_label t x) e) (λ j l. absurd (omega arith))

-- ---- the entry in front of the table

-- past the entry the walk is the table's
past_entry : (t : Table) (q : ℕ) (w : Text) → reach (beside t).go (suc q) w ≡ suc (reach (step_in t) q w)
past_entry t q [] = refl
past_entry t q (c ∷ w) = past_entry t (step_in t q c) w

pub entered : (t : Table) (w : Text) → 0 < length w → reach (beside t).go 0 w ≡ suc (reach (step_in t) 0 w)
entered t [] l = absurd (omega arith)
entered t (c ∷ w) l = past_entry t (step_in t 0 c) w

-- ---- what the answers say

-- book and table agree after every text that counts
abbrev pub Agree : List Re → Table → Type 0
Agree rs t = (w : Text) → Bytes w → 0 < length w → label_after rs w ≡ label_of t w

-- a text on which they differ, its labels, and that no text that differs comes sooner
pub record Shown (rs : List Re) (t : Table) (text : Text) (b s : ℕ) : Type 0 where
  pub is_text : Bytes text
  pub some : 0 < length text
  pub short : length text ≤ shown_text
  pub by_book : label_after rs text ≡ b
  pub by_table : label_of t text ≡ s
  pub differ : b ≡ s → ⊥
  pub first : (w : Text) → Bytes w → 0 < length w → (label_after rs w ≡ label_of t w → ⊥) → NotLater text w

abbrev pub Means : List Re → Table → Verdict → Type 0
Means rs t Same = Agree rs t
Means rs t (Differs text b s) = Shown rs t text b s

module _ (rs : List Re) (t : Table) (h : Held) (js : List ℕ) (x : Explored (beside t) rs h js) where
  -- item k past the entry
  found_item : (k : ℕ) → get_or (found h) k none ≡ item h (suc k)
  found_item k = let e : 1 + k ≡ suc k = omega arith in get_or-drop 1 h.items k none ∙ ap (λ (i : ℕ). item h i) e

  found_count : suc (length (found h)) ≡ count h
  found_count = omega (arith, length-drop 1 h.items, x.good.some)

  -- a text that counts leads past the entry, to its own labels
  record Past (w : Text) (k : ℕ) : Type 0 where
    inside : k < length (found h)
    book_label_lem : book_label (get_or (found h) k none) ≡ label_after rs w
    table_label_lem : table_label t (get_or (found h) k none) ≡ label_of t w
    not_later : NotLater (get_or (found h) k none).text w

  entry_sheet : (item h 0).sheet ≡ 0
  entry_sheet = (first_arrived (beside t) rs h x.good).sheet_is

  past_by : (w : Text) → 0 < length w → (j : ℕ) → Arrived (beside t) rs h w j → (k : ℕ) × Past w k
  past_by w l zero a = absurd (let z = sym entry_sheet ∙ a.sheet_is ∙ entered t w l in omega arith)
  past_by w l (suc k) a = (
    k,
    record {
      inside = omega (arith, a.inside, found_count);
      book_label_lem = ap (λ (y : Item). book_label y) (found_item k) ∙ ap label a.vector_is;
      table_label_lem = ap (λ (y : Item). table_label t y) (found_item k) ∙ ap (λ (q : ℕ). label_at t (state_of q)) (a.sheet_is ∙ entered t w l);
      not_later = rw (found_item k) a.not_later;
    },
  )

  past : (w : Text) → Bytes w → 0 < length w → (k : ℕ) × Past w k
  past w b l = past_by w l (reach (target js) 0 w) (arrived (beside t) rs h js x w b)

  -- items at or behind item k have texts that are not sooner than its text
  behind : (k j : ℕ) → j < length (found h) → (j < k → ⊥) → NotLater (get_or (found h) k none).text (get_or (found h) j none).text
  behind k j l f =
      elim (dec_lt k j) [
        | yes m ↦ rw (found_item k, found_item j) (sooner (x.good.rising (suc k) (suc j) (omega arith) (omega (arith, found_count))))
        | no g ↦ let e : k ≡ j = omega arith in equal (ap (λ (i : ℕ). (get_or (found h) i none).text) e)
      ]

  means : {v : Verdict} → Sought t (found h) v → Means rs t v
  means (none_differs f) = λ w b l. let p = past w b l in sym p.1.book_label_lem ∙ f p.0 p.1.inside ∙ p.1.table_label_lem
  means (one_differs k l d f) =
      let m : suc k < count h = omega (arith, found_count) in
      let led = x.good.led (suc k) m in
      let e = found_item k in
      let text : (get_or (found h) k none).text ≡ (item h (suc k)).text = ap (λ (y : Item). y.text) e in
      let some : 0 < length (item h (suc k)).text = sooner_some (rw x.good.begins at (x.good.rising 0 (suc k) (omega arith) m)) in
      record {
        is_text = rw text led.text_is;
        some = rw text some;
        short = rw text (omega (arith, x.good.short (suc k) m, x.good.few));
        by_book = rw text (ap label (sym led.vector_is) ∙ ap (λ (y : Item). book_label y) (sym e));
        by_table =
            rw text (ap (λ (q : ℕ). label_at t (state_of q)) (sym (led.sheet_is ∙ entered t (item h (suc k)).text some))
            ∙ ap (λ (y : Item). table_label t y) (sym e));
        differ = d;
        first = λ w b n g.
            let p = past w b n in
            not_later_trans (behind k p.0 p.1.inside (λ o. g (sym p.1.book_label_lem ∙ f p.0 o ∙ p.1.table_label_lem))) p.1.not_later;
      }

gives_verdict : {v u : Verdict} → ◌≡◌ {A = Outcome Verdict} (gives v) (gives u) → v ≡ u
gives_verdict e = cc

no_verdict : {r : Refusal} {v : Verdict} → ◌≡◌ {A = Outcome Verdict} (refuses r) (gives v) → ⊥
no_verdict e = let z : ◌≡◌ {A = ℕ} 0 1 = cc in omega arith

-- the theorem: whatever the comparison answers is so
pub compare_means : (rs : List Re) (t : Table) (v : Verdict) → compare_rules t rs ≡ gives v → Means rs t v
unfolding compare_rules
compare_means rs t v e = go (walk_from (beside t) rs) refl e
  where
    go : (w : Walked) → walk_from (beside t) rs ≡ w → compared_by t w ≡ gives v → Means rs t v
    go (halted r) d f = absurd (no_verdict f)
    go (walked h js) d f = subst (Means rs t) (gives_verdict f) (means rs t h js (walk_explores (beside t) rs h js d) (sought t (found h)))

-- so Same is answered exactly when they agree
pub compare_same : (rs : List Re) (t : Table) (v : Verdict) → compare_rules t rs ≡ gives v → Agree rs t → v ≡ Same
compare_same rs t Same e a = refl
compare_same rs t (Differs text b s) e a =
    let m = compare_means rs t (Differs text b s) e in
    absurd (m.differ (sym m.by_book ∙ a text m.is_text m.some ∙ m.by_table))
