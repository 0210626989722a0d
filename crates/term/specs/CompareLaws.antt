-- Laws for comparing two terms in step: what each return of a look at two nodes tells, and one for each place of the loop.
-- In a turn a pair of nodes is seen: where they are told equal the last pair that waits comes next, else their children do.
use Prim.Native.Nat.{ℕ, zero, suc, ◌+◌, ◌-◌, ◌<◌, ◌≤◌, Ordering, compare}
use Rattle.std.proofs.Math.ListN.{get_or-map}
use Rattle.std.proofs.lemmas.List.{map-set}
use Rattle.std.proofs.lemmas.Bool.{lt-ltb, le-ltb}
use borrow.Author.Tests.{eq-eqb, ne_eqb}
use Rattle.std.proofs.Common.{arith, sym, ap, ◌∙◌}
use Rattle.std.specs.Prelude.{◌≡◌, refl, true, false, List, length, get_or, set}
use Rattle.number.specs.Limits.{work_cells}
use Rattle.meaning.specs.Re.{sizes}
use Rattle.meaning.specs.PartLaws.{size_some}
use Rattle.meaning.specs.SizeLaws.{short_size}
use Rattle.meaning.specs.Limited.{short}
use Rattle.meaning.specs.Order.{order, also}
use Rattle.meaning.specs.OrderLaws.{Compared, compared, compare_eq, order_parts, also_assoc, also_eq}
use Rattle.meaning.specs.OrderLaws.Compared.{less, equal, more}
use Rattle.term.specs.declared.Term.{Term}
use Rattle.std.specs.declared.cmp.Ordering.{Ordering as Answer}
use Rattle.std.specs.declared.cmp.Ordering.TheVariants.{Less, Equal, Greater}
use Rattle.std.specs.Ordering.{is_ne, nat_cmp, ordering_then}
use Rattle.term.specs.declared.Glance.{Glance}
use Rattle.term.specs.declared.Glance.TheVariants.{Told, One, Two}
use Rattle.term.specs.Cells.{term, Sound}
use Rattle.term.specs.Nodes.{kind_of, first_of, second_of, arity_of, ordering, Found}
use Rattle.term.specs.Places.{terms_at, ahead, most_waiting}
use Rattle.term.specs.Compares.{decides, Only, Both, Glanced, lefts, rights, orders, Comparing}
use Rattle.term.specs.CellLaws.{sound_less}
use Rattle.term.specs.ReadLaws.{arity_same, arity_two, one_part, two_parts, one_size, two_size, ranks, order_only, order_both}
use Rattle.term.specs.PlaceLaws.{set_there, set_other, listed_less, listed_more, sizes_most, ahead_last, ahead_set}

-- ---- the library's comparisons, in the order's words

number_by : {m n : ℕ} {o : Ordering} → Compared m n o → ordering (nat_cmp m n) ≡ o
number_by {m} {n} (less h) = rw (lt-ltb m n h)
number_by {m} {n} (equal h) = rw (le-ltb m n (omega arith), eq-eqb m n h)
number_by {m} {n} (more h) = rw (le-ltb m n (omega arith), ne_eqb m n (λ e. omega arith))

pub ordering_number : (m n : ℕ) → ordering (nat_cmp m n) ≡ compare m n
ordering_number m n = number_by (compared m n)

pub ordering_also : (x y : Answer) → ordering (ordering_then x y) ≡ also (ordering x) (ordering y)
ordering_also Less y = refl
ordering_also Equal y = refl
ordering_also Greater y = refl

pub ordering_decides : (x : Answer) → is_ne x ≡ decides (ordering x)
ordering_decides Less = refl
ordering_decides Equal = refl
ordering_decides Greater = refl

-- a comparison that decides stands before any other, and one that doesn't leaves it
also_decided : (o p : Ordering) → decides o ≡ true → o ≡ also o p
also_decided Ordering.lt p e = refl
also_decided Ordering.eq p e = absurd (let z : ◌≡◌ {A = ℕ} 0 1 = cc in omega arith)
also_decided Ordering.gt p e = refl

also_first : (o p q : Ordering) → o ≡ p → decides o ≡ true → o ≡ also p q
also_first o p q e d = rw (← e) (also_decided o q d)

also_open : (o p : Ordering) → decides o ≡ false → also o p ≡ p
also_open Ordering.lt p e = absurd (let z : ◌≡◌ {A = ℕ} 0 1 = cc in omega arith)
also_open Ordering.eq p e = refl
also_open Ordering.gt p e = absurd (let z : ◌≡◌ {A = ℕ} 0 1 = cc in omega arith)

-- ---- a look at two nodes

-- of two kinds, as the library compares them
not_decided : (o : Ordering) → decides o ≡ false → o ≡ Ordering.eq
not_decided Ordering.lt d = absurd (let z : ◌≡◌ {A = ℕ} 0 1 = cc in omega arith)
not_decided Ordering.eq d = refl
not_decided Ordering.gt d = absurd (let z : ◌≡◌ {A = ℕ} 0 1 = cc in omega arith)

pub kinds_same : {m n : ℕ} {o : Ordering} → o ≡ compare m n → decides o ≡ false → m ≡ n
kinds_same {m} {n} {o} e d = compare_eq (compared m n) (sym e ∙ not_decided o d)

pub kinds_apart : {s : List ℕ} {i j : ℕ} {u v : Term} {o : Ordering} → Found s i u → Found s j v → o ≡ compare (kind_of u) (kind_of v) → decides o ≡ true
    → o ≡ order (term s i) (term s j)
kinds_apart {s} {i} {j} {u} {v} {o} x y e d =
    also_first o _ _ (e ∙ sym (ranks x y)) d ∙ sym (order_parts (term s i) (term s j))

module _ {s : List ℕ} {i j : ℕ} {u v : Term} (x : Found s i u) (y : Found s j v) (e : kind_of u ≡ kind_of v) where
  pub only : {a b : ℕ} → arity_of u ≡ 1 → a ≡ first_of u → b ≡ first_of v → Only s i j a b
  only k p q =
      let f = one_part x k p in
      let g = one_part y (arity_same u v e ∙ k) q in
      record { is = order_only x y e f g; left = f.below; right = g.below; smaller = omega (arith, one_size f) }

  pub both : {a b c d : ℕ} → (arity_of u ≡ 0 → ⊥) → (arity_of u ≡ 1 → ⊥) → a ≡ first_of u → b ≡ first_of v → c ≡ second_of u → d ≡ second_of v
      → Both s i j a b c d
  both k n p q p' q' =
      let two = arity_two u k n in
      let f = two_parts x two p p' in
      let g = two_parts y (arity_same u v e ∙ two) q q' in
      record {
        is = order_both x y e f g;
        left = f.first;
        right = g.first;
        second_left = f.second;
        second_right = g.second;
        smaller = two_size f;
      }

-- what was told, by the answer
module _ {s : List ℕ} {i j : ℕ} {r : Glance} (g : Glanced s i j r) where
  pub told : {o : Answer} → r ≡ Told o → ordering o ≡ order (term s i) (term s j)
  told e = rw e at g.shown

  pub told_one : {a b : ℕ} → r ≡ One a b → Only s i j a b
  told_one e = rw e at g.shown

  pub told_two : {a b c d : ℕ} → r ≡ Two a b c d → Both s i j a b c d
  told_two e = rw e at g.shown

-- ---- the pairs that wait

orders_none : (s l r : List ℕ) (n : ℕ) → n ≡ 0 → orders s l r n ≡ Ordering.eq
unfolding orders
orders_none s l r n e = rw (e, orders)

orders_last : (s l r : List ℕ) (n : ℕ) → 0 < n
    → orders s l r n ≡ also (order (term s (get_or l (n - 1) 0)) (term s (get_or r (n - 1) 0))) (orders s l r (n - 1))
unfolding orders
orders_last s l r n h = let one : n ≡ suc (n - 1) = omega arith in ap (orders s l r) one

orders_same : (s l r l' r' : List ℕ) (n : ℕ) → ((k : ℕ) → k < n → get_or l' k 0 ≡ get_or l k 0) → ((k : ℕ) → k < n → get_or r' k 0 ≡ get_or r k 0)
    → orders s l' r' n ≡ orders s l r n
unfolding orders
orders_same s l r l' r' zero p q = refl
orders_same s l r l' r' (suc n) p q =
    rw (p n (omega arith), q n (omega arith), orders_same s l r l' r' n (λ k h. p k (omega arith)) (λ k h. q k (omega arith)))

orders_set : (s l r : List ℕ) (n c d : ℕ) → n < length l → n < length r
    → orders s (set l n c) (set r n d) (n + 1) ≡ also (order (term s c) (term s d)) (orders s l r n)
orders_set s l r n c d h k =
    let one : n + 1 - 1 ≡ n = omega arith in
    let last = orders_last s (set l n c) (set r n d) (n + 1) (omega arith) in
    let same = orders_same s l r (set l n c) (set r n d) n (set_other l n c h) (set_other r n d k) in
    rw (one, set_there l n c h, set_there r n d k, same) at last

-- a pair is read and listed
pub left_at : (ps : List (ℕ × ℕ)) (n : ℕ) → get_or (lefts ps) n 0 ≡ (get_or ps n (0, 0)).0
left_at ps n = get_or-map (λ (p : ℕ × ℕ). p.0) ps n (0, 0)

pub right_at : (ps : List (ℕ × ℕ)) (n : ℕ) → get_or (rights ps) n 0 ≡ (get_or ps n (0, 0)).1
right_at ps n = get_or-map (λ (p : ℕ × ℕ). p.1) ps n (0, 0)

pub lefts-set : (ps : List (ℕ × ℕ)) (n c d : ℕ) → lefts (set ps n (c, d)) ≡ set (lefts ps) n c
lefts-set ps n c d = map-set (λ (p : ℕ × ℕ). p.0) ps n (c, d)

pub rights-set : (ps : List (ℕ × ℕ)) (n c d : ℕ) → rights (set ps n (c, d)) ≡ set (rights ps) n d
rights-set ps n c d = map-set (λ (p : ℕ × ℕ). p.1) ps n (c, d)

-- ---- the loop

pub comparing_first : {s : List ℕ} {i j : ℕ} {l r : List ℕ} → short (term s i) ≡ true → length l ≡ most_waiting → length r ≡ most_waiting
    → Comparing s i j l r 0 i j
unfolding terms_at sizes orders
comparing_first {s} {i} {j} {l} {r} h p q =
    record {
      left_held = omega arith;
      right_held = omega arith;
      left = record { long = p; low = λ k m. absurd (omega arith) };
      right = record { long = q; low = λ k m. absurd (omega arith) };
      few = omega (arith, short_size (term s i) h);
      is = sym (also_eq (order (term s i) (term s j)));
    }

module _ {s : List ℕ} {i j : ℕ} {l r : List ℕ} {n a b : ℕ} (t : Comparing s i j l r n a b) where
  pub nodes_asked : Sound s (i + 1) → Sound s (j + 1) → Sound s (a + 1) × Sound s (b + 1)
  nodes_asked p q = (sound_less (a + 1) p (omega (arith, t.left_held)), sound_less (b + 1) q (omega (arith, t.right_held)))

  pub few_wait : n < most_waiting
  few_wait = omega (arith, t.few, size_some (term s a), sizes_most (term s) l n)

  -- the pair at hand is told: it is the last, it decides, or the last pair that waits comes next
  module _ {o : Ordering} (e : o ≡ order (term s a) (term s b)) where
    pub told_last : n ≡ 0 → o ≡ order (term s i) (term s j)
    told_last z = e ∙ sym (t.is ∙ ap (also (order (term s a) (term s b))) (orders_none s l r n z) ∙ also_eq (order (term s a) (term s b)))

    pub told_apart : decides o ≡ true → o ≡ order (term s i) (term s j)
    told_apart d = also_decided o (orders s l r n) d ∙ sym (t.is ∙ ap (λ p. also p (orders s l r n)) (sym e))

  module _ (some : n ≡ 0 → ⊥) where
    pub last_inside : n - 1 < most_waiting
    last_inside = omega (arith, few_wait)

    pub last_held : (get_or l (n - 1) 0 ≤ i) × (get_or r (n - 1) 0 ≤ j)
    last_held = (t.left.low (n - 1) (omega arith), t.right.low (n - 1) (omega arith))

    pub last_less : ahead s l (n - 1) (get_or l (n - 1) 0) < ahead s l n a
    last_less = ahead_last s l n a (omega arith)

    pub last_next : {o : Ordering} → o ≡ order (term s a) (term s b) → decides o ≡ false
        → Comparing s i j l r (n - 1) (get_or l (n - 1) 0) (get_or r (n - 1) 0)
    last_next {o} e d =
        record {
          left_held = last_held.0;
          right_held = last_held.1;
          left = listed_less t.left;
          right = listed_less t.right;
          few = omega (arith, t.few, last_less);
          is =
              t.is ∙ ap (λ p. also p (orders s l r n)) (sym e) ∙ also_open o (orders s l r n) d
              ∙ orders_last s l r n (omega arith);
        }

  pub one_next : {c d : ℕ} → Only s a b c d → Comparing s i j l r n c d
  one_next g =
      record {
        left_held = omega (arith, t.left_held, g.left);
        right_held = omega (arith, t.right_held, g.right);
        left = t.left;
        right = t.right;
        few = omega (arith, t.few, g.smaller);
        is = t.is ∙ ap (λ p. also p (orders s l r n)) g.is;
      }

  -- two children each: the second ones wait
  module _ {c d e f : ℕ} (g : Both s a b c d e f) where
    pub two_fit : Sound s (i + 1) → Sound s (j + 1) → (e < work_cells) × (f < work_cells)
    two_fit p q = (omega (arith, p.room, p.small, t.left_held, g.second_left), omega (arith, q.room, q.small, t.right_held, g.second_right))

    pub two_less : ahead s (set l n e) (n + 1) c < ahead s l n a
    two_less = ahead_set s l n a c e (omega (arith, few_wait, t.left.long)) g.smaller

    pub two_next : Comparing s i j (set l n e) (set r n f) (n + 1) c d
    two_next =
        let h : n < length l = omega (arith, few_wait, t.left.long) in
        let k : n < length r = omega (arith, few_wait, t.right.long) in
        record {
          left_held = omega (arith, t.left_held, g.left);
          right_held = omega (arith, t.right_held, g.right);
          left = listed_more t.left few_wait (omega (arith, t.left_held, g.second_left));
          right = listed_more t.right few_wait (omega (arith, t.right_held, g.second_right));
          few = omega (arith, t.few, two_less);
          is =
              t.is ∙ ap (λ p. also p (orders s l r n)) g.is
              ∙ also_assoc (order (term s c) (term s d)) (order (term s e) (term s f)) (orders s l r n)
              ∙ ap (also (order (term s c) (term s d))) (sym (orders_set s l r n e f h k));
        }
