-- The readers of numbers and fields refuse exactly what is wrong, as Faults tells it: both ways, for Main.
-- Each way that reading can go, from NumberLaws, is a fault or is not.
use Rattle.std.specs.Prelude.{ℕ, zero, suc, ◌+◌, ◌<◌, ◌≤◌, ◌≡◌, refl, List, ◌∷◌, ltb, length, get_or, drop}
use Rattle.std.proofs.Common.{add-zero, arith, sym, ap, subst, ◌∙◌}
use Rattle.std.proofs.Math.Decide.{dec_lt}
use Rattle.std.proofs.Math.ListN.{get_or-eq_default}
use Rattle.number.specs.declared.Refusal.{Refusal}
use Rattle.number.specs.declared.Refusal.TheVariants.{Short, Number, Range, Padded}
use Rattle.number.specs.Limits.{group}
use Rattle.number.specs.Refused.{Answer, number as row}
use Rattle.number.specs.Refused.Answer.{got, refused}
use Rattle.number.specs.Numbers.{Bytes, several, read_number, groups_read, within, field, NumberAt}
use Rattle.number.specs.Faults.{Goes, NumberFault, RunsOn, PaddedTo, FieldFault}
use Rattle.number.specs.Faults.NumberFault.{ends, over as goes_on, nought}
use Rattle.number.specs.Faults.RunsOn.{three_on}
use Rattle.number.specs.Faults.PaddedTo.{to_two, to_three}
use Rattle.number.specs.Faults.FieldFault.{number, below, above}
use Rattle.number.specs.Branch.{by_cond}
use Rattle.number.specs.Lists.{drop_two, drop_three, drop_room, drop_at_place, drop_head}
use Rattle.number.proofs.NumberLaws.{Way, read_way, way_read, way_groups, several_none, several_some, read_written, written_read}
use Rattle.number.proofs.NumberLaws.{field_refused, field_low, field_high, field_got}
use Rattle.number.proofs.NumberLaws.Way.{none, one, half, two, most, three, over}

-- ---- bytes that go on

goes_none : (s : List ℕ) (at : ℕ) → Goes s at 0
goes_none s at i h = absurd (omega arith)

goes_more : (s : List ℕ) (at k : ℕ) → Goes s at k → group ≤ get_or s (at + k) 0 → Goes s at (suc k)
goes_more s at k all h i less =
    elim (dec_lt i k) [
      | yes low ↦ all i low
      | no high ↦
          let same : i ≡ k = omega arith in
          rw same h
    ]

goes_one : (s : List ℕ) (at : ℕ) → group ≤ get_or s at 0 → Goes s at 1
goes_one s at h = goes_more s at 0 (goes_none s at) (rw (add-zero at) h)

goes_two : (s : List ℕ) (at : ℕ) → group ≤ get_or s at 0 → group ≤ get_or s (at + 1) 0 → Goes s at 2
goes_two s at h k = goes_more s at 1 (goes_one s at h) k

-- a byte that goes on is there
goes_inside : (s : List ℕ) (i : ℕ) → group ≤ get_or s i 0 → i < length s
goes_inside s i h =
    elim (dec_lt i (length s)) [
      | yes low ↦ low
      | no high ↦
          let past : length s ≤ i = omega arith in
          absurd (omega (arith, get_or-eq_default s 0 past))
    ]

-- ---- numbers

clash : {r : Refusal} {n next : ℕ} → ◌≡◌ {A = Answer ℕ} (got n next) (refused r) → ⊥
clash e = let z : ◌≡◌ {A = ℕ} 0 1 = cc in omega arith

as_refused : (s : List ℕ) (at : ℕ) {q r : Refusal} {k : ℕ} → NumberFault s at q k → ◌≡◌ {A = Answer ℕ} (refused q) (refused r)
    → NumberFault s at r k
as_refused s at {q} {r} {k} f e =
    let same : q ≡ r = cc in
    subst (λ (p : Refusal). NumberFault s at p k) same f

-- several groups are refused as Padded, and only where the last is 0
several_nought : (at last n next : ℕ) (r : Refusal) → several at last (got n next) ≡ refused r
    → (last ≡ 0) × (◌≡◌ {A = Answer ℕ} (refused (Padded at)) (refused r))
several_nought at last n next r e =
    elim (dec_lt 0 last) [
      | yes some ↦ absurd (clash (sym (several_some at last (got n next) (λ z. omega arith)) ∙ e))
      | no few ↦
          let nil : last ≡ 0 = omega arith in
          (nil, sym (several_none at last (got n next) nil) ∙ e)
    ]

pub refused_fault : (s : List ℕ) (at : ℕ) (r : Refusal) → read_number s at ≡ refused r → NumberFault s at r (groups_read s at)
refused_fault s at r = go (read_way s at)
  where
    go : {x : Answer ℕ} {g : ℕ} → Way s at x g → x ≡ refused r → NumberFault s at r g
    go (none h) e = as_refused s at (ends 0 (omega arith) (goes_none s at) (omega arith)) e
    go (one a h f k) e = absurd (clash e)
    go (half a h f k h1) e = as_refused s at (ends 1 (omega arith) (goes_one s at (rw (← f) k)) h1) e
    go (two a b h1 f g k l) e =
        let last = several_nought at b _ _ r e in
        as_refused s at (nought 1 (omega arith) (omega arith) (goes_one s at (rw (← f) k)) h1 (sym g ∙ last.0)) last.1
    go (most a b h1 f g k l h2) e = as_refused s at (ends 2 (omega arith) (goes_two s at (rw (← f) k) (rw (← g) l)) h2) e
    go (three a b c h2 f g i k l m) e =
        let last = several_nought at c _ _ r e in
        as_refused s at (nought 2 (omega arith) (omega arith) (goes_two s at (rw (← f) k) (rw (← g) l)) h2 (sym i ∙ last.0)) last.1
    go (over a b c h2 f g i k l m) e =
        as_refused s at (goes_on (goes_more s at 2 (goes_two s at (rw (← f) k) (rw (← g) l)) (rw (← i) m))) e

-- what the number reader answers, and the groups that it tells, both at once
abbrev Tells : List ℕ → ℕ → Answer ℕ → ℕ → Type 0
Tells s at x k = (read_number s at ≡ x) × (groups_read s at ≡ k)

tells_way : (s : List ℕ) (at : ℕ) {x : Answer ℕ} {k : ℕ} → Way s at x k → Tells s at x k
tells_way s at way = (sym (way_read s at way), sym (way_groups s at way))

tells_nought : (s : List ℕ) (at last n next k : ℕ) → last ≡ 0 → Tells s at (several at last (got n next)) k → Tells s at (refused (Padded at)) k
tells_nought s at last n next k e t = (t.0 ∙ several_none at last (got n next) e, t.1)

pub fault_refused : (s : List ℕ) (at : ℕ) (r : Refusal) (k : ℕ) → NumberFault s at r k → Tells s at (refused r) k
fault_refused s at r k f = go f
  where
    first : (k : ℕ) → 1 ≤ k → Goes s at k → group ≤ get_or s at 0
    first k h all = rw (add-zero at) at (all 0 h)

    go : {q : Refusal} {k : ℕ} → NumberFault s at q k → Tells s at (refused q) k
    go (ends zero h all k) = tells_way s at (none (omega (arith, k)))
    go (ends (suc zero) h all k) =
        let a : group ≤ get_or s at 0 = first 1 (omega arith) all in
        tells_way s at (half (get_or s at 0) (goes_inside s at a) refl a k)
    go (ends (suc (suc zero)) h all k) =
        let a : group ≤ get_or s at 0 = first 2 (omega arith) all in
        let b : group ≤ get_or s (at + 1) 0 = all 1 (omega arith) in
        tells_way s at (most (get_or s at 0) (get_or s (at + 1) 0) (goes_inside s (at + 1) b) refl refl a b k)
    go (ends (suc (suc (suc n))) h all k) = absurd (omega arith)
    go (goes_on all) =
        let a : group ≤ get_or s at 0 = first 3 (omega arith) all in
        let b : group ≤ get_or s (at + 1) 0 = all 1 (omega arith) in
        let c : group ≤ get_or s (at + 2) 0 = all 2 (omega arith) in
        tells_way s at (over (get_or s at 0) (get_or s (at + 1) 0) (get_or s (at + 2) 0) (goes_inside s (at + 2) c) refl refl refl a b c)
    go (nought zero h k all i e) = absurd (omega arith)
    go (nought (suc zero) h k all i e) =
        let a : group ≤ get_or s at 0 = first 1 (omega arith) all in
        tells_nought s at _ _ _ 2 e (tells_way s at (two (get_or s at 0) (get_or s (at + 1) 0) i refl refl a (omega arith)))
    go (nought (suc (suc zero)) h k all i e) =
        let a : group ≤ get_or s at 0 = first 2 (omega arith) all in
        let b : group ≤ get_or s (at + 1) 0 = all 1 (omega arith) in
        tells_nought s at _ _ _ 3 e
        (tells_way s at (three (get_or s at 0) (get_or s (at + 1) 0) (get_or s (at + 2) 0) i refl refl refl a b (omega arith)))
    go (nought (suc (suc (suc n))) h k all i e) = absurd (omega arith)

-- ---- the two reasons, by the bytes that stand there

-- two refusals of other rows are not one
other_row : {q r : Refusal} → (row q ≡ row r → ⊥) → ◌≡◌ {A = Answer ℕ} (refused q) (refused r) → ⊥
other_row {q} {r} differ e =
    let same : q ≡ r = cc in
    differ (ap row same)

pub refused_runs_on : (s : List ℕ) (at : ℕ) → read_number s at ≡ refused (Number at) → RunsOn s at
refused_runs_on s at = go (read_way s at)
  where
    go : {x : Answer ℕ} {g : ℕ} → Way s at x g → x ≡ refused (Number at) → RunsOn s at
    go (none h) e = absurd (other_row (λ z. omega arith) e)
    go (one a h f k) e = absurd (clash e)
    go (half a h f k h1) e = absurd (other_row (λ z. omega arith) e)
    go (two a b h1 f g k l) e = absurd (other_row (λ z. omega arith) (several_nought at b _ _ _ e).1)
    go (most a b h1 f g k l h2) e = absurd (other_row (λ z. omega arith) e)
    go (three a b c h2 f g i k l m) e = absurd (other_row (λ z. omega arith) (several_nought at c _ _ _ e).1)
    go (over a b c h2 f g i k l m) e = three_on a b c (drop (at + 3) s) (cc (drop_three s at h2)) k l m

pub runs_on_refused : (s : List ℕ) (at : ℕ) → RunsOn s at → read_number s at ≡ refused (Number at)
runs_on_refused s at (three_on a b c t e k l m) =
    let room = drop_room s at a (b ∷ c ∷ t) e in
    (tells_way s at (over a b c (omega arith) (drop_head s at e) (drop_at_place s at 1 e) (drop_at_place s at 2 e) k l m)).0

pub refused_padded : (s : List ℕ) (at : ℕ) → read_number s at ≡ refused (Padded at) → PaddedTo s at (groups_read s at)
refused_padded s at = go (read_way s at)
  where
    go : {x : Answer ℕ} {g : ℕ} → Way s at x g → x ≡ refused (Padded at) → PaddedTo s at g
    go (none h) e = absurd (other_row (λ z. omega arith) e)
    go (one a h f k) e = absurd (clash e)
    go (half a h f k h1) e = absurd (other_row (λ z. omega arith) e)
    go (two a b h1 f g k l) e =
        let nil = (several_nought at b _ _ _ e).0 in
        to_two a (drop (at + 2) s) (cc (drop_two s at h1, nil)) k
    go (most a b h1 f g k l h2) e = absurd (other_row (λ z. omega arith) e)
    go (three a b c h2 f g i k l m) e =
        let nil = (several_nought at c _ _ _ e).0 in
        to_three a b (drop (at + 3) s) (cc (drop_three s at h2, nil)) k l
    go (over a b c h2 f g i k l m) e = absurd (other_row (λ z. omega arith) e)

pub padded_refused : (s : List ℕ) (at k : ℕ) → PaddedTo s at k → Tells s at (refused (Padded at)) k
padded_refused s at k p = go p
  where
    go : {k : ℕ} → PaddedTo s at k → Tells s at (refused (Padded at)) k
    go (to_two a t e h) =
        let room = drop_room s at a (0 ∷ t) e in
        tells_nought s at 0 _ _ 2 refl
        (tells_way s at (two a 0 (omega arith) (drop_head s at e) (drop_at_place s at 1 e) h (omega arith)))
    go (to_three a b t e h i) =
        let room = drop_room s at a (b ∷ 0 ∷ t) e in
        tells_nought s at 0 _ _ 3 refl
        (tells_way s at (three a b 0 (omega arith) (drop_head s at e) (drop_at_place s at 1 e) (drop_at_place s at 2 e) h i (omega arith)))

-- ---- fields

-- a number that stands somewhere is read there
pub number_read : (s : List ℕ) (at n next : ℕ) → NumberAt s at n next → read_number s at ≡ got n next
number_read s at n next a = rw a.after (read_written n s at (drop next s) a.small a.stands)

as_field : (s : List ℕ) (lo hi at : ℕ) {q r : Refusal} → FieldFault s lo hi at q → ◌≡◌ {A = Answer ℕ} (refused q) (refused r)
    → FieldFault s lo hi at r
as_field s lo hi at {q} {r} f e =
    let same : q ≡ r = cc in
    subst (FieldFault s lo hi at) same f

pub refused_field : (s : List ℕ) (lo hi at : ℕ) (r : Refusal) → Bytes s → field s lo hi at ≡ refused r → FieldFault s lo hi at r
refused_field s lo hi at r all e = go (read_number s at) refl
  where
    go : (x : Answer ℕ) → read_number s at ≡ x → FieldFault s lo hi at r
    go (refused q) f =
        as_field s lo hi at (number q _ (refused_fault s at q f)) (sym (field_refused s lo hi at q f) ∙ e)
    go (got n next) f =
        let there : NumberAt s at n next = written_read s at n next all f in
        elim (dec_lt n lo) [
          | yes low ↦ as_field s lo hi at (below n next there low) (sym (field_low s lo hi at n next f low) ∙ e)
          | no over-lo ↦
              let from : lo ≤ n = omega arith in
              elim (dec_lt hi n) [
                | yes high ↦ as_field s lo hi at (above n next there high) (sym (field_high s lo hi at n next f from high) ∙ e)
                | no under ↦
                    let upto : n ≤ hi = omega arith in
                    absurd (clash (sym (field_got s lo hi at n next f from upto) ∙ e))
              ]
        ]

pub field_fault : (s : List ℕ) (lo hi at : ℕ) (r : Refusal) → FieldFault s lo hi at r → field s lo hi at ≡ refused r
field_fault s lo hi at r f = go f
  where
    go : {q : Refusal} → FieldFault s lo hi at q → field s lo hi at ≡ refused q
    go (number q k g) = field_refused s lo hi at q (fault_refused s at q k g).0
    go (below n next there low) = field_low s lo hi at n next (number_read s at n next there) low
    go (above n next there high) =
        elim (dec_lt n lo) [
          | yes low ↦ field_low s lo hi at n next (number_read s at n next there) low
          | no over-lo ↦
              let from : lo ≤ n = omega arith in
              field_high s lo hi at n next (number_read s at n next there) from high
        ]

-- ---- a refusal is of the number's own place, whatever the file holds

-- the rows that a number and a field can be refused by
pub data OfNumber (at : ℕ) : Refusal → Type 0 where
  short : OfNumber at (Short at)
  runs_on : OfNumber at (Number at)
  padded : OfNumber at (Padded at)
  outside : OfNumber at (Range at)

pub of_fault : {s : List ℕ} {at k : ℕ} {r : Refusal} → NumberFault s at r k → OfNumber at r
of_fault (ends k h all i) = short
of_fault (goes_on all) = runs_on
of_fault (nought k h i all j e) = padded

of_range : (at : ℕ) (r : Refusal) → ◌≡◌ {A = Answer ℕ} (refused (Range at)) (refused r) → OfNumber at r
of_range at r e =
    let same : Range at ≡ r = cc in
    subst (OfNumber at) same outside

pub field_refusal : (s : List ℕ) (lo hi at : ℕ) (r : Refusal) → field s lo hi at ≡ refused r → OfNumber at r
unfolding field within
field_refusal s lo hi at r = go (read_number s at) refl
  where
    go : (x : Answer ℕ) → read_number s at ≡ x → within at lo hi x ≡ refused r → OfNumber at r
    go (refused q) f = λ e. of_fault (refused_fault s at r (f ∙ e))
    go (got m k) f =
        by_cond (λ (x : Answer ℕ). x ≡ refused r → OfNumber at r) (ltb m lo)
        (λ z e. of_range at r e)
        (λ z. by_cond (λ (x : Answer ℕ). x ≡ refused r → OfNumber at r) (ltb hi m)
        (λ y e. of_range at r e)
        (λ y e. absurd (clash e)))
