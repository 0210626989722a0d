-- Reading and writing numbers undo each other: proved, for the readers and writers of whole files to cite.
-- First the ways that reading and writing can go, each with what it met; the code's proofs cite those too.
use Rattle.std.specs.Prelude.{ℕ, suc, ◌+◌, ◌*◌, ◌/◌, ◌%◌, ◌<◌, ◌≤◌, ◌≡◌, refl, cond, List, [], ◌∷◌, ◌++◌, ltb, length, get_or, drop}
use Rattle.std.proofs.Common.{arith, sym, ap, subst, ◌∙◌, lt-ltb, le-ltb, eq-eqb, ne_eqb, ltb-true, ltb-false, drop_of_length-le}
use Rattle.number.specs.declared.Refusal.{Refusal}
use Rattle.number.specs.declared.Refusal.TheVariants.{Short, Number, Range, Padded}
use Rattle.number.specs.Limits.{group, two_groups, three_groups, bytes}
use Rattle.number.specs.Refused.{Answer}
use Rattle.number.specs.Refused.Answer.{got, refused}
use Rattle.number.specs.Numbers.{Bytes, due, several, read_number, groups_of, groups_read, within, field, write_number, NumberAt, FieldAt}
use Rattle.number.specs.Branch.{by_cond}
use Rattle.number.specs.Lists.{drop_one, drop_two, drop_three, drop_room, drop_at_place, drop_head}

-- ---- reading, way by way

-- what each of the seven ways met, answers and read groups of: a, b and c are the bytes, given with where they stand, as the code has them
pub data Way (s : List ℕ) (at : ℕ) : Answer ℕ → ℕ → Type 0 where
  none : length s ≤ at → Way s at (refused (Short at)) 0
  one : (a : ℕ) → at < length s → a ≡ get_or s at 0 → a < group → Way s at (got a (at + 1)) 1
  half : (a : ℕ) → at < length s → a ≡ get_or s at 0 → group ≤ a → length s ≤ at + 1 → Way s at (refused (Short at)) 1
  two : (a b : ℕ) → at + 1 < length s → a ≡ get_or s at 0 → b ≡ get_or s (at + 1) 0 → group ≤ a → b < group
      → Way s at (several at b (got (a % group + group * b) (at + 2))) 2
  most : (a b : ℕ) → at + 1 < length s → a ≡ get_or s at 0 → b ≡ get_or s (at + 1) 0 → group ≤ a → group ≤ b
      → length s ≤ at + 2 → Way s at (refused (Short at)) 2
  three : (a b c : ℕ) → at + 2 < length s → a ≡ get_or s at 0 → b ≡ get_or s (at + 1) 0 → c ≡ get_or s (at + 2) 0
      → group ≤ a → group ≤ b → c < group
      → Way s at (several at c (got (a % group + group * (b % group) + two_groups * c) (at + 3))) 3
  over : (a b c : ℕ) → at + 2 < length s → a ≡ get_or s at 0 → b ≡ get_or s (at + 1) 0 → c ≡ get_or s (at + 2) 0
      → group ≤ a → group ≤ b → group ≤ c → Way s at (refused (Number at)) 3

-- reading goes one of the ways
abbrev SomeWay : List ℕ → ℕ → Answer ℕ → Type 0
SomeWay s at x = (groups : ℕ) × Way s at x groups

some_way : (s : List ℕ) (at : ℕ) → SomeWay s at (read_number s at)
unfolding read_number due
some_way s at =
    let a : ℕ = get_or s at 0 in
    let b : ℕ = get_or s (at + 1) 0 in
    let c : ℕ = get_or s (at + 2) 0 in
    by_cond (SomeWay s at) (ltb at (length s))
    (λ h. by_cond (SomeWay s at) (ltb a group)
    (λ k. (1, one a (ltb-true _ _ h) refl (ltb-true _ _ k)))
    (λ k. by_cond (SomeWay s at) (ltb (at + 1) (length s))
    (λ h1. by_cond (SomeWay s at) (ltb b group)
    (λ l. (2, two a b (ltb-true _ _ h1) refl refl (ltb-false _ _ k) (ltb-true _ _ l)))
    (λ l. by_cond (SomeWay s at) (ltb (at + 2) (length s))
    (λ h2. by_cond (SomeWay s at) (ltb c group)
    (λ m. (3, three a b c (ltb-true _ _ h2) refl refl refl (ltb-false _ _ k) (ltb-false _ _ l) (ltb-true _ _ m)))
    (λ m. (3, over a b c (ltb-true _ _ h2) refl refl refl (ltb-false _ _ k) (ltb-false _ _ l) (ltb-false _ _ m))))
    (λ h2. (2, most a b (ltb-true _ _ h1) refl refl (ltb-false _ _ k) (ltb-false _ _ l) (ltb-false _ _ h2)))))
    (λ h1. (1, half a (ltb-true _ _ h) refl (ltb-false _ _ k) (ltb-false _ _ h1)))))
    (λ h. (0, none (ltb-false _ _ h)))

-- each way is what reading answers, and the groups that it reads
pub way_read : (s : List ℕ) (at : ℕ) {x : Answer ℕ} {g : ℕ} → Way s at x g → x ≡ read_number s at
unfolding read_number due
way_read s at (none h) = simp (le-ltb _ _ h)
way_read s at (one a h e k) = simp (lt-ltb _ _ h, ← e, lt-ltb _ _ k)
way_read s at (half a h e k h1) = simp (lt-ltb _ _ h, ← e, le-ltb _ _ k, le-ltb _ _ h1)
way_read s at (two a b h1 e f k l) =
    simp (lt-ltb at (length s) (omega arith), ← e, le-ltb _ _ k, lt-ltb _ _ h1, ← f, lt-ltb _ _ l)
way_read s at (most a b h1 e f k l h2) =
    simp (lt-ltb at (length s) (omega arith), ← e, le-ltb _ _ k, lt-ltb _ _ h1, ← f, le-ltb _ _ l, le-ltb _ _ h2)
way_read s at (three a b c h2 e f g k l m) =
    let h : at < length s = omega arith in
    let h1 : at + 1 < length s = omega arith in
    simp (lt-ltb _ _ h, ← e, le-ltb _ _ k, lt-ltb _ _ h1, ← f, le-ltb _ _ l, lt-ltb _ _ h2, ← g, lt-ltb _ _ m)
way_read s at (over a b c h2 e f g k l m) =
    let h : at < length s = omega arith in
    let h1 : at + 1 < length s = omega arith in
    simp (lt-ltb _ _ h, ← e, le-ltb _ _ k, lt-ltb _ _ h1, ← f, le-ltb _ _ l, lt-ltb _ _ h2, ← g, le-ltb _ _ m)

pub way_groups : (s : List ℕ) (at : ℕ) {x : Answer ℕ} {g : ℕ} → Way s at x g → g ≡ groups_read s at
unfolding groups_read groups_of
way_groups s at (none h) = simp (drop_of_length-le s h)
way_groups s at (one a h e k) = simp (drop_one s at h, ← e, lt-ltb _ _ k)
way_groups s at (half a h e k h1) = simp (drop_one s at h, ← e, le-ltb _ _ k, drop_of_length-le s h1)
way_groups s at (two a b h1 e f k l) = simp (drop_two s at h1, ← e, le-ltb _ _ k, ← f, lt-ltb _ _ l)
way_groups s at (most a b h1 e f k l h2) =
    simp (drop_two s at h1, ← e, le-ltb _ _ k, ← f, le-ltb _ _ l, drop_of_length-le s h2)
way_groups s at (three a b c h2 e f g k l m) =
    simp (drop_three s at h2, ← e, le-ltb _ _ k, ← f, le-ltb _ _ l, ← g, lt-ltb _ _ m)
way_groups s at (over a b c h2 e f g k l m) =
    simp (drop_three s at h2, ← e, le-ltb _ _ k, ← f, le-ltb _ _ l, ← g, le-ltb _ _ m)

pub read_way : (s : List ℕ) (at : ℕ) → Way s at (read_number s at) (groups_read s at)
read_way s at =
    let found = some_way s at in
    subst (Way s at (read_number s at)) (way_groups s at found.1) found.1

-- the last of several groups: 0 is refused, and what is not 0 leaves the answer as it is
pub several_none : (at last : ℕ) (x : Answer ℕ) → last ≡ 0 → several at last x ≡ refused (Padded at)
unfolding several
several_none at last x e = simp (eq-eqb _ _ e)

pub several_some : (at last : ℕ) (x : Answer ℕ) → (last ≡ 0 → ⊥) → several at last x ≡ x
unfolding several
several_some at last x n = simp (ne_eqb _ _ n)

-- ---- writing, width by width

-- the bytes of a number of one, two or three groups
pub data Written (n : ℕ) : List ℕ → Type 0 where
  one : n < group → Written n (n ∷ [])
  two : group ≤ n → n < two_groups → Written n ((group + n % group) ∷ (n / group) ∷ [])
  three : two_groups ≤ n → Written n ((group + n % group) ∷ (group + n / group % group) ∷ (n / two_groups) ∷ [])

pub write_way : (n : ℕ) → Written n (write_number n)
unfolding write_number
write_way n =
    by_cond (Written n) (ltb n group)
    (λ h. one (ltb-true _ _ h))
    (λ h. by_cond (Written n) (ltb n two_groups)
    (λ k. two (ltb-false _ _ h) (ltb-true _ _ k))
    (λ k. three (ltb-false _ _ k)))

pub way_write : (n : ℕ) {w : List ℕ} → Written n w → w ≡ write_number n
unfolding write_number
way_write n (one h) = simp (lt-ltb _ _ h)
way_write n (two h k) = simp (le-ltb _ _ h, lt-ltb _ _ k)
way_write n (three h) =
    let k : group ≤ n = omega arith in
    simp (le-ltb _ _ k, le-ltb _ _ h)

-- how many bytes a number takes
pub number_width : (n : ℕ) → length (write_number n) ≡ cond (ltb n group) 1 (cond (ltb n two_groups) 2 3)
number_width n = go (write_way n)
  where
    go : {w : List ℕ} → Written n w → length w ≡ cond (ltb n group) 1 (cond (ltb n two_groups) 2 3)
    go (one h) = simp (lt-ltb _ _ h)
    go (two h k) = simp (le-ltb _ _ h, lt-ltb _ _ k)
    go (three h) =
        let k : group ≤ n = omega arith in
        simp (le-ltb _ _ k, le-ltb _ _ h)

pub width_is : (n : ℕ) {w : List ℕ} → Written n w → length (write_number n) ≡ length w
width_is n way = sym (ap length (way_write n way))

pub width_some : (n : ℕ) → 1 ≤ length (write_number n)
width_some n = go (write_way n)
  where
    go : {w : List ℕ} → Written n w → 1 ≤ length w
    go (one h) = omega arith
    go (two h k) = omega arith
    go (three h) = omega arith

pub width_most : (n : ℕ) → length (write_number n) ≤ 3
width_most n = go (write_way n)
  where
    go : {w : List ℕ} → Written n w → length w ≤ 3
    go (one h) = omega arith
    go (two h k) = omega arith
    go (three h) = omega arith

-- ---- what was written is read

pub read_written : (n : ℕ) (s : List ℕ) (at : ℕ) (t : List ℕ) → n < three_groups → drop at s ≡ write_number n ++ t
    → read_number s at ≡ got n (at + length (write_number n))
read_written n s at t small e = sym (go (write_way n) e)
  where
    go : {w : List ℕ} → Written n w → drop at s ≡ w ++ t → got n (at + length w) ≡ read_number s at
    go (one h) f =
        let room : length s ≡ at + suc (length t) = drop_room s at n t f in
        way_read s at (one n (omega arith) (drop_head s at f) h)
    go (two h k) f =
        let a : ℕ = group + n % group in
        let b : ℕ = n / group in
        let room : length s ≡ at + suc (suc (length t)) = drop_room s at a (b ∷ t) f in
        let value : n ≡ a % group + group * b = omega arith in
        ap (λ (m : ℕ). got m (at + 2)) value
        ∙ sym (several_some at b (got (a % group + group * b) (at + 2)) (λ z. omega arith))
        ∙ way_read s at (two a b (omega arith) (drop_head s at f) (drop_at_place s at 1 f) (omega arith) (omega arith))
    go (three h) f =
        let a : ℕ = group + n % group in
        let b : ℕ = group + n / group % group in
        let c : ℕ = n / two_groups in
        let room : length s ≡ at + suc (suc (suc (length t))) = drop_room s at a (b ∷ c ∷ t) f in
        let value : n ≡ a % group + group * (b % group) + two_groups * c = omega arith in
        ap (λ (m : ℕ). got m (at + 3)) value
        ∙ sym (several_some at c (got (a % group + group * (b % group) + two_groups * c) (at + 3)) (λ z. omega arith))
        ∙ way_read s at
        (three a b c (omega arith) (drop_head s at f) (drop_at_place s at 1 f) (drop_at_place s at 2 f)
        (omega arith) (omega arith) (omega arith))

-- ---- what is read was written

-- a refusal is not an answer
clash : {r : Refusal} {n next : ℕ} → ◌≡◌ {A = Answer ℕ} (refused r) (got n next) → ⊥
clash e = let z : ◌≡◌ {A = ℕ} 0 1 = cc in omega arith

-- a byte that goes on is given back by the group that was read of it
low_group : (a n rest : ℕ) → group ≤ a → a < bytes → n ≡ a % group + group * rest → a ≡ group + n % group
low_group a n rest h k e = omega arith

-- an answer past the last group says that this group was not 0
several_got : (at last n next : ℕ) (x : Answer ℕ) → several at last x ≡ got n next → (last ≡ 0 → ⊥) × (x ≡ got n next)
several_got at last n next x e =
    let some : last ≡ 0 → ⊥ = λ z. clash (sym (several_none at last x z) ∙ e) in
    (some, sym (several_some at last x some) ∙ e)

-- from the bytes that stand there to the bytes that would be written, for all three widths at once
number_at : (s : List ℕ) (at n next : ℕ) {w : List ℕ} → Written n w → drop at s ≡ w ++ drop next s → n < three_groups
    → next ≡ at + length w → next ≤ length s → NumberAt s at n next
number_at s at n next way here small after inside =
    let same : _ ≡ write_number n = way_write n way in
    let after' : next ≡ at + length (write_number n) = rw same at after in
    record {
      stands = rw same at here;
      small = small;
      after = after';
      onward = omega (arith, width_some n);
      inside = inside;
    }

pub written_read : (s : List ℕ) (at n next : ℕ) → Bytes s → read_number s at ≡ got n next → NumberAt s at n next
written_read s at n next all r = go (read_way s at) r
  where
    go : {x : Answer ℕ} {g : ℕ} → Way s at x g → x ≡ got n next → NumberAt s at n next
    go (none h) e = absurd (clash e)
    go (one a h f k) e =
        let value : n ≡ a = cc in
        let place : next ≡ at + 1 = cc in
        number_at s at n next (one (omega arith)) (cc (drop_one s at h)) (omega arith) place (omega arith)
    go (half a h f k h1) e = absurd (clash e)
    go (two a b h1 f g k l) e =
        let got-it = several_got at b n next _ e in
        let value : n ≡ a % group + group * b = cc got-it.1 in
        let place : next ≡ at + 2 = cc got-it.1 in
        let low : a < bytes = omega (arith, all at (omega arith)) in
        let some : 1 ≤ b = omega (arith, got-it.0) in
        let first : a ≡ group + n % group = low_group a n b k low value in
        let second : b ≡ n / group = omega arith in
        number_at s at n next (two (omega arith) (omega arith)) (cc (drop_two s at h1)) (omega arith) place (omega arith)
    go (most a b h1 f g k l h2) e = absurd (clash e)
    go (three a b c h2 f g i k l m) e =
        let got-it = several_got at c n next _ e in
        let value : n ≡ a % group + group * (b % group) + two_groups * c = cc got-it.1 in
        let place : next ≡ at + 3 = cc got-it.1 in
        let low : a < bytes = omega (arith, all at (omega arith)) in
        let mid : b < bytes = omega (arith, all (at + 1) (omega arith)) in
        let some : 1 ≤ c = omega (arith, got-it.0) in
        let first : a ≡ group + n % group = low_group a n (b % group + group * c) k low (omega arith) in
        let rest : n / group ≡ b % group + group * c = omega arith in
        let second : b ≡ group + n / group % group = low_group b (n / group) c l mid rest in
        let third : c ≡ n / two_groups = omega arith in
        number_at s at n next (three (omega arith)) (cc (drop_three s at h2)) (omega arith) place (omega arith)
    go (over a b c h2 f g i k l m) e = absurd (clash e)

-- ---- the groups of a number that is read

pub groups_read_lem : (s : List ℕ) (at n next : ℕ) → read_number s at ≡ got n next
    → (next ≡ at + groups_read s at) × (groups_read s at ≡ length (write_number n))
groups_read_lem s at n next = go (read_way s at)
  where
    go : {x : Answer ℕ} {g : ℕ} → Way s at x g → x ≡ got n next → (next ≡ at + g) × (g ≡ length (write_number n))
    go (none h) e = absurd (clash e)
    go (one a h f k) e =
        let value : n ≡ a = cc in
        (cc, sym (width_is n (one (omega arith))))
    go (half a h f k h1) e = absurd (clash e)
    go (two a b h1 f g k l) e =
        let got-it = several_got at b n next _ e in
        let value : n ≡ a % group + group * b = cc got-it.1 in
        let some : 1 ≤ b = omega (arith, got-it.0) in
        (cc got-it.1, sym (width_is n (two (omega arith) (omega arith))))
    go (most a b h1 f g k l h2) e = absurd (clash e)
    go (three a b c h2 f g i k l m) e =
        let got-it = several_got at c n next _ e in
        let value : n ≡ a % group + group * (b % group) + two_groups * c = cc got-it.1 in
        let some : 1 ≤ c = omega (arith, got-it.0) in
        (cc got-it.1, sym (width_is n (three (omega arith))))
    go (over a b c h2 f g i k l m) e = absurd (clash e)

pub groups_written : (n : ℕ) (s : List ℕ) (at : ℕ) (t : List ℕ) → n < three_groups → drop at s ≡ write_number n ++ t
    → groups_read s at ≡ length (write_number n)
groups_written n s at t small e = (groups_read_lem s at n _ (read_written n s at t small e)).1

-- ---- fields

-- the code's four returns, one by one
pub field_refused : (s : List ℕ) (lo hi at : ℕ) (r : Refusal) → read_number s at ≡ refused r → field s lo hi at ≡ refused r
unfolding field within
field_refused s lo hi at r e = rw e

pub field_low : (s : List ℕ) (lo hi at n next : ℕ) → read_number s at ≡ got n next → n < lo
    → field s lo hi at ≡ refused (Range at)
unfolding field within
field_low s lo hi at n next e h = simp (e, lt-ltb _ _ h)

pub field_high : (s : List ℕ) (lo hi at n next : ℕ) → read_number s at ≡ got n next → lo ≤ n → hi < n
    → field s lo hi at ≡ refused (Range at)
unfolding field within
field_high s lo hi at n next e h k = simp (e, le-ltb _ _ h, lt-ltb _ _ k)

pub field_got : (s : List ℕ) (lo hi at n next : ℕ) → read_number s at ≡ got n next → lo ≤ n → n ≤ hi
    → field s lo hi at ≡ got n next
unfolding field within
field_got s lo hi at n next e h k = simp (e, le-ltb _ _ h, le-ltb _ _ k)

pub field_written : (n : ℕ) (s : List ℕ) (lo hi at : ℕ) (t : List ℕ) → n < three_groups → lo ≤ n → n ≤ hi
    → drop at s ≡ write_number n ++ t → field s lo hi at ≡ got n (at + length (write_number n))
field_written n s lo hi at t small low high e = field_got s lo hi at n _ (read_written n s at t small e) low high

pub field_read : (s : List ℕ) (lo hi at n next : ℕ) → field s lo hi at ≡ got n next → FieldAt s lo hi at n next
unfolding field within
field_read s lo hi at n next = go (read_number s at) refl
  where
    go : (x : Answer ℕ) → read_number s at ≡ x → within at lo hi x ≡ got n next → FieldAt s lo hi at n next
    go (refused r) f = λ e. absurd (clash e)
    go (got m k) f =
        by_cond (λ (x : Answer ℕ). x ≡ got n next → FieldAt s lo hi at n next) (ltb m lo)
        (λ z e. absurd (clash e))
        (λ z. by_cond (λ (x : Answer ℕ). x ≡ got n next → FieldAt s lo hi at n next) (ltb hi m)
        (λ y e. absurd (clash e))
        (λ y e.
        let value : n ≡ m = cc in
        record { low = omega (arith, ltb-false m lo z); high = omega (arith, ltb-false hi m y); read = f ∙ e }))
