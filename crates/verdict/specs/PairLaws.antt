-- The walk of a comparison follows the pairs: its items past the entry are the pairs of non-empty texts, in the order of their first texts.
-- The entry and the start's return are one pair, with number 0; the number told for an item is its pair's.
use Rattle.std.specs.Prelude.{ℕ, zero, suc, ◌-◌, ◌<◌, ◌≤◌, ◌≡◌, refl, cond, List, [], ◌∷◌, ltb}
use Rattle.std.proofs.Common.{sym, ap, subst, ◌∙◌, lt-ltb, le-ltb}
use native.Mathlib.Omega.{arith}
use Rattle.std.proofs.Math.Decide.{dec_lt}
use Rattle.number.specs.MainLaws.{bytes_none}
use Rattle.number.specs.Refused.{row_of}
use Rattle.meaning.specs.Re.{Re, Text}
use Rattle.meaning.specs.Rules.{start}
use Rattle.meaning.specs.Words.{reach}
use Rattle.table.specs.Table.{Table}
use Rattle.cutting.specs.Steps.{step_in}
use Rattle.walk.specs.Walk.{Held, number_in}
use Rattle.walk.specs.StepLaws.{item, count, Pair, number_most, number_pair, number_after}
use Rattle.walk.specs.WalkLaws.{Good}
use Rattle.walk.specs.Explored.{Arrived, first_arrived}
use Rattle.walk.specs.TextLaws.{none_sooner}
use Rattle.walk.specs.Passing.{vector_after, NumberOf, Limits}
use Rattle.walk.specs.FollowLaws.{Counts, Earlier, Follows, listed, item_enough, items_apart, walk_limits}
use Rattle.verdict.specs.Compare.{beside, start_pair, told_by, number_told, compared_by, compare_rules}
use Rattle.verdict.specs.CompareLaws.{entered}
use Rattle.verdict.specs.Demand.{Both, pair_after, held_pairs}
use Rattle.verdict.specs.NumberLaws.{at_start, behind_start, before_start}

module _ (rs : List Re) (t : Table) where
  one_pair : (v w : Text) → reach (step_in t) 0 v ≡ reach (step_in t) 0 w → vector_after rs v ≡ vector_after rs w → pair_after rs t v ≡ pair_after rs t w
  one_pair v w s e = λ i. record { state = s i; vector = e i }

  one_state : (v w : Text) → pair_after rs t v ≡ pair_after rs t w → reach (step_in t) 0 v ≡ reach (step_in t) 0 w
  one_state v w e = ap (λ (x : Both). x.state) e

  one_vector : (v w : Text) → pair_after rs t v ≡ pair_after rs t w → vector_after rs v ≡ vector_after rs w
  one_vector v w e = ap (λ (x : Both). x.vector) e

  counts : Counts (beside t) (held_pairs rs t)
  counts = record {
    from_few = omega arith;
    one_goal = λ v w l m s. one_pair v w (let z = sym (entered t v l) ∙ s ∙ entered t w m in omega arith);
    one_sheet = λ v w l m e. entered t v l ∙ ap suc (one_state v w e) ∙ sym (entered t w m);
    one_vector = one_vector;
    entry = λ w l m e. let z = sym (entered t w m) ∙ e in omega arith;
  }

  -- ---- items in the order found

  module _ (h : Held) (g : Good (beside t) rs h) where
    abbrev text_of : ℕ → Text
    text_of k = (item h k).text

    entry_sheet : (item h 0).sheet ≡ 0
    entry_sheet = (first_arrived (beside t) rs h g).sheet_is

    -- past the entry an item stands beside the state that its text leads to
    item_sheet : (k : ℕ) → 0 < k → k < count h → (item h k).sheet ≡ suc (reach (step_in t) 0 (text_of k))
    item_sheet k o l =
        (g.led k l).sheet_is ∙ entered t (text_of k) (item_enough (beside t) (held_pairs rs t) counts h (listed (beside t) rs h g) k o l)

    item_vector : (k : ℕ) → k < count h → (item h k).vector ≡ vector_after rs (text_of k)
    item_vector k l = (g.led k l).vector_is

    pairs_apart : (j k : ℕ) → 0 < j → j < k → k < count h → pair_after rs t (text_of j) ≡ pair_after rs t (text_of k) → ⊥
    pairs_apart = items_apart (beside t) (held_pairs rs t) counts h (listed (beside t) rs h g)

    -- a text that arrives at an item leads to the item's pair
    arrived_pair : (v : Text) (k : ℕ) → Arrived (beside t) rs h v k → pair_after rs t v ≡ pair_after rs t (text_of k)
    arrived_pair v zero a = go v (sym a.sheet_is ∙ entry_sheet)
      where
        go : (u : Text) → reach (beside t).go 0 u ≡ 0 → pair_after rs t u ≡ pair_after rs t (text_of 0)
        go [] e = ap (pair_after rs t) (sym g.begins)
        go (c ∷ w) e = absurd (let z = sym (entered t (c ∷ w) (omega arith)) ∙ e in omega arith)
    arrived_pair v (suc k) a = go v (sym a.sheet_is ∙ item_sheet (suc k) (omega arith) a.inside) (sym a.vector_is ∙ item_vector (suc k) a.inside)
      where
        go : (u : Text) → reach (beside t).go 0 u ≡ suc (reach (step_in t) 0 (text_of (suc k))) → vector_after rs u ≡ vector_after rs (text_of (suc k))
            → pair_after rs t u ≡ pair_after rs t (text_of (suc k))
        go [] e d = absurd (omega arith)
        go (c ∷ w) e d = one_pair (c ∷ w) (text_of (suc k)) (let z = sym (entered t (c ∷ w) (omega arith)) ∙ e in omega arith) d

    -- ---- where the start has come back

    back : ℕ
    back = number_in h.items (start_pair h.items)

    back_most : back ≤ count h
    unfolding back
    back_most = number_most h.items (start_pair h.items)

    back_pair : back < count h → Pair (item h back) (start_pair h.items)
    unfolding back
    back_pair l = number_pair h.items (start_pair h.items) l

    not_back : back ≡ count h → (k : ℕ) → k < count h → Pair (item h k) (start_pair h.items) → ⊥
    unfolding back
    not_back e = number_after h.items (start_pair h.items) e

    back_some : 0 < back
    back_some =
        elim (dec_lt 0 back) [
          | yes l ↦ l
          | no f ↦
              let e : back ≡ 0 = omega arith in
              let p = back_pair (omega (arith, g.some)) in
              absurd (let z = sym entry_sheet ∙ ap (λ (k : ℕ). (item h k).sheet) (sym e) ∙ p.same_sheet in omega arith)
        ]

    start_vector : (item h 0).vector ≡ start rs
    start_vector = item_vector 0 g.some ∙ ap (vector_after rs) g.begins

    -- the item there leads to the start, and no other does
    back_start : back < count h → pair_after rs t (text_of back) ≡ pair_after rs t []
    back_start l =
        let p = back_pair l in
        one_pair (text_of back) [] (let z = sym (item_sheet back back_some l) ∙ p.same_sheet in omega arith)
        (sym (item_vector back l) ∙ p.same_vector_lem ∙ start_vector)

    start_back : (k : ℕ) → 0 < k → k < count h → pair_after rs t [] ≡ pair_after rs t (text_of k) → k ≡ back
    start_back k o l p =
        elim (dec_lt back (count h)) [
          | yes m ↦
              let q : pair_after rs t (text_of back) ≡ pair_after rs t (text_of k) = back_start m ∙ p in
              elim (dec_lt k back) [
                | yes n ↦ absurd (pairs_apart k back o n m (sym q))
                | no f ↦ elim (dec_lt back k) [ yes n ↦ absurd (pairs_apart back k back_some n l q) | no g ↦ omega arith ]
              ]
          | no f ↦ absurd (alone (omega (arith, back_most)))
        ]
      where
        alone : back ≡ count h → ⊥
        alone e = not_back e k l (record {
          same_sheet = item_sheet k o l ∙ ap suc (sym (one_state [] (text_of k) p));
          same_vector_lem = item_vector k l ∙ sym (one_vector [] (text_of k) p) ∙ sym start_vector;
        })

    -- ---- the item with a number

    item_at : ℕ → ℕ
    item_at k = cond (ltb k back) k (suc k)

    at_before : (k : ℕ) → k < back → item_at k ≡ k
    unfolding item_at
    at_before k l = rw (lt-ltb k back l)

    at_behind : (k : ℕ) → back ≤ k → item_at k ≡ suc k
    unfolding item_at
    at_behind k l = rw (le-ltb k back l)

    data At (k : ℕ) : Type 0 where
      before : k < back → item_at k ≡ k → At k
      behind : back ≤ k → item_at k ≡ suc k → At k

    at : (k : ℕ) → At k
    at k = elim (dec_lt k back) [ yes l ↦ before l (at_before k l) | no f ↦ behind (omega arith) (at_behind k (omega arith)) ]

    at_rises : (j k : ℕ) → j < k → item_at j < item_at k
    at_rises j k l = go (at j) (at k)
      where
        go : At j → At k → item_at j < item_at k
        go (before m e) (before n f) = omega arith
        go (before m e) (behind n f) = omega arith
        go (behind m e) (before n f) = omega arith
        go (behind m e) (behind n f) = omega arith

    at_other : (k : ℕ) → item_at k ≡ back → ⊥
    at_other k z = go (at k)
      where
        go : At k → ⊥
        go (before m e) = omega arith
        go (behind m e) = omega arith

    -- the number told for an item that is not the start's return leads back to the item
    told_at : (i : ℕ) → (i ≡ back → ⊥) → item_at (told_by back i) ≡ i
    told_at i f =
        elim (dec_lt i back) [
          | yes l ↦ ap item_at (before_start back i l) ∙ at_before i l
          | no g ↦ ap item_at (behind_start back i (omega arith)) ∙ (let z = at_behind (i - 1) (omega arith) in omega (arith, back_some))
        ]

    -- ---- the number told is the pair's

    module _ (earlier : Earlier (beside t) rs h) (i : ℕ) (inside : i < count h) where
      number_start : i ≡ back → NumberOf (pair_after rs t) (text_of i) 0
      number_start e = record {
        text = λ k. [];
        firsts = record {
          is_text = λ k l. bytes_none;
          apart = λ j k l m. absurd (omega arith);
          first = λ k l v b s. absurd (none_sooner s);
        };
        is = rw e (back_start (omega arith));
      }

      -- an item before that of number k has a lower number
      at_earlier : (k : ℕ) (v : Text) → (j : ℕ) × (j < item_at k) × Arrived (beside t) rs h v j → (m : ℕ) × (m < k) × (pair_after rs t v ≡ pair_after rs t (text_of (item_at m)))
      at_earlier k v (j, l, a) =
          elim (dec_lt j back) [
            | yes o ↦ other (λ z. omega arith)
            | no f ↦ elim (dec_lt back j) [
              | yes o ↦ other (λ z. omega arith)
              | no g ↦
                  let z : j ≡ back = omega arith in
                  let p : pair_after rs t v ≡ pair_after rs t (text_of back) = subst (λ (x : ℕ). pair_after rs t v ≡ pair_after rs t (text_of x)) z (arrived_pair v j a) in
                  (0, lower 0 (at_before 0 back_some) (omega (arith, back_some)), p ∙ back_start (omega (arith, a.inside)) ∙ ap (pair_after rs t) (sym at_begins))
            ]
          ]
        where
          at_begins : text_of (item_at 0) ≡ []
          at_begins = ap text_of (at_before 0 back_some) ∙ g.begins

          lower : {x : ℕ} (m : ℕ) → item_at m ≡ x → x < item_at k → m < k
          lower m d o =
              elim (dec_lt m k) [
                | yes n ↦ n
                | no f ↦ elim (dec_lt k m) [
                  | yes n ↦ absurd (let z = at_rises k m n in omega arith)
                  | no g ↦ absurd (let z : m ≡ k = omega arith in let y = ap item_at z in omega arith)
                ]
              ]

          other : (j ≡ back → ⊥) → (m : ℕ) × (m < k) × (pair_after rs t v ≡ pair_after rs t (text_of (item_at m)))
          other f = let d = told_at j f in (told_by back j, lower (told_by back j) d l, rw d (arrived_pair v j a))

      module _ (n : ℕ) (e : item_at n ≡ i) where
        at_within : (k : ℕ) → k < suc n → item_at k < count h
        at_within k l =
            elim (dec_lt k n) [
              | yes m ↦ let z = at_rises k n m in omega arith
              | no f ↦ let d : k ≡ n = omega arith in let z = ap item_at d in omega arith
            ]

        at_apart : (j k : ℕ) → j < k → item_at k < count h → pair_after rs t (text_of (item_at j)) ≡ pair_after rs t (text_of (item_at k)) → ⊥
        at_apart j k l m p =
            let r = at_rises j k l in
            elim (dec_lt 0 (item_at j)) [
              | yes o ↦ pairs_apart (item_at j) (item_at k) o r m p
              | no f ↦
                  let d : item_at j ≡ 0 = omega arith in
                  let q : pair_after rs t [] ≡ pair_after rs t (text_of (item_at k)) = subst (λ (u : Text). pair_after rs t u ≡ pair_after rs t (text_of (item_at k))) (ap text_of d ∙ g.begins) p in
                  at_other k (start_back (item_at k) (omega arith) m q)
            ]

        number_other : NumberOf (pair_after rs t) (text_of i) n
        number_other = record {
          text = λ k. text_of (item_at k);
          firsts = record {
            is_text = λ k l. (g.led (item_at k) (at_within k l)).text_is;
            apart = λ j k l m. at_apart j k l (at_within k m);
            first = λ k l v b s. at_earlier k v (earlier (item_at k) (at_within k l) v b s);
          };
          is = ap (λ (k : ℕ). pair_after rs t (text_of k)) (sym e);
        }

      numbered : NumberOf (pair_after rs t) (text_of i) (number_told h.items i)
      unfolding back
      numbered =
          elim (dec_lt i back) [
            | yes l ↦ number_other (told_by back i) (told_at i (λ z. omega arith))
            | no f ↦ elim (dec_lt back i) [
              | yes l ↦ number_other (told_by back i) (told_at i (λ z. omega arith))
              | no g ↦
                  let e : i ≡ back = omega arith in
                  rw (at_start back i (sym e)) (number_start e)
            ]
          ]

  follows : Follows (beside t) (held_pairs rs t)
  follows = record {
    counts = counts;
    some = omega arith;
    limit_is = refl;
    terms_is = refl;
    full_is = λ place. refl;
    own_row = (λ e. omega arith, λ e. omega arith);
    numbered = numbered;
  }

  pub compare_limits : Limits (held_pairs rs t) (row_of (compare_rules t rs))
  unfolding compare_rules
  compare_limits = walk_limits (beside t) (held_pairs rs t) follows (λ w. row_of (compared_by t w)) (λ r. refl) (λ h js. refl)
