-- The ranges of a set, laid one by one, are the set's nodes.
-- The loop over a part of the table has laid the ranges so far; at its end the part is computed, set by set.
use Rattle.std.specs.Prelude.{ℕ, zero, suc, ◌+◌, ◌-◌, ◌<◌, ◌≤◌, ◌≡◌, refl, Bool, true, false, List, [], ◌∷◌, ◌++◌, ltb, length, get_or, take, drop}
use Rattle.std.proofs.Common.{arith, sym, ap, ◌∙◌, ltb-true, ltb-false, lt-ltb, le-ltb, length-drop, take-suc, get_or-drop, length-take-le}
use Rattle.book.specs.declared.Node.{Node}
use Rattle.book.specs.declared.Node.TheVariants.{Range, Alt}
use Rattle.typed.specs.Sets.{spans}
use Rattle.typed.specs.Exp.{postfix, ranges, joined}
use Rattle.typed.specs.Exp.Exp.{set}
use Rattle.laid.specs.declared.Span.{Span}
use Rattle.laid.specs.Laid.{pack, AddsCell, Adds}
use Rattle.laid.specs.LaidLaws.{adds_node, adds_none, adds_then, adds_as}
use Rattle.laid.specs.Tables.{set_at, table, starts, range_nodes}

-- a fact of each set's number
pub of_each : (P : ℕ → Type 0) → P 0 → P 1 → P 2 → P 3 → P 4 → P 5 → P 6 → P 7 → P 8 → P 9 → P 10 → P 11 → (k : ℕ) → k < 12 → P k
of_each P a b c d e f g h i j l m zero z = a
of_each P a b c d e f g h i j l m (suc zero) z = b
of_each P a b c d e f g h i j l m (suc (suc zero)) z = c
of_each P a b c d e f g h i j l m (suc (suc (suc zero))) z = d
of_each P a b c d e f g h i j l m (suc (suc (suc (suc zero)))) z = e
of_each P a b c d e f g h i j l m (suc (suc (suc (suc (suc zero))))) z = f
of_each P a b c d e f g h i j l m (suc (suc (suc (suc (suc (suc zero)))))) z = g
of_each P a b c d e f g h i j l m (suc (suc (suc (suc (suc (suc (suc zero))))))) z = h
of_each P a b c d e f g h i j l m (suc (suc (suc (suc (suc (suc (suc (suc zero)))))))) z = i
of_each P a b c d e f g h i j l m (suc (suc (suc (suc (suc (suc (suc (suc (suc zero))))))))) z = j
of_each P a b c d e f g h i j l m (suc (suc (suc (suc (suc (suc (suc (suc (suc (suc zero)))))))))) z = l
of_each P a b c d e f g h i j l m (suc (suc (suc (suc (suc (suc (suc (suc (suc (suc (suc zero))))))))))) z = m
of_each P a b c d e f g h i j l m (suc (suc (suc (suc (suc (suc (suc (suc (suc (suc (suc (suc k)))))))))))) z = absurd (omega arith)

-- one range
module _ (cells : List ℕ) (top x : ℕ) (r : Span) (e : x ≡ pack (Range r.lo r.hi)) (c₁ : List ℕ) (t : ℕ) (a : AddsCell cells top x c₁ t) where
  pub range_first : (j : Bool) → j ≡ false → Adds cells top (range_nodes r j) c₁ t
  range_first j z = rw z (adds_node (Range r.lo r.hi) e a)

  pub range_next : (cells' : List ℕ) (t' : ℕ) (j : Bool) → j ≡ true → AddsCell c₁ t 4 cells' t' → Adds cells top (range_nodes r j) cells' t'
  range_next cells' t' j z d = rw z (adds_then (adds_node (Range r.lo r.hi) e a) (adds_node Alt refl d))

-- ranges of the table as nodes
unfoldable pub alted : List Span → List Node
alted [] = []
alted (s ∷ more) = Range s.lo s.hi ∷ Alt ∷ alted more

unfoldable pub nodes_of : List Span → List Node
nodes_of [] = []
nodes_of (s ∷ more) = Range s.lo s.hi ∷ alted more

abbrev pub some : ℕ → ℕ → List Span
some from to = take (to - from) (drop from table)

alted_more : (xs : List Span) (s : Span) → alted (xs ++ (s ∷ [])) ≡ alted xs ++ (Range s.lo s.hi ∷ Alt ∷ [])
unfolding alted
alted_more [] s = refl
alted_more (y ∷ xs) s = ap (λ (l : List Node). Range y.lo y.hi ∷ Alt ∷ l) (alted_more xs s)

nodes_more : (xs : List Span) (s : Span) (j : Bool) → ltb 0 (length xs) ≡ j → nodes_of (xs ++ (s ∷ [])) ≡ nodes_of xs ++ range_nodes s j
unfolding nodes_of alted
nodes_more [] s true e = absurd (omega (arith, ltb-true 0 0 e))
nodes_more [] s false e = refl
nodes_more (y ∷ xs) s true e = ap (λ (l : List Node). Range y.lo y.hi ∷ l) (alted_more xs s)
nodes_more (y ∷ xs) s false e = absurd (omega (arith, ltb-false 0 (suc (length xs)) e))

some_more : (from i : ℕ) → from ≤ i → i < 23 → some from (i + 1) ≡ some from i ++ (get_or table i (record { lo = 0; hi = 0 }) ∷ [])
some_more from i l h =
    let z : i + 1 - from ≡ suc (i - from) = omega arith in
    let y : from + (i - from) ≡ i = omega arith in
    let n : length table ≡ 23 = refl in
    ap (λ (n : ℕ). take n (drop from table)) z
    ∙ take-suc (drop from table) (i - from) (record { lo = 0; hi = 0 }) (omega (arith, length-drop from table, n))
    ∙ ap (λ (s : Span). some from i ++ (s ∷ []))
    (get_or-drop from table (i - from) (record { lo = 0; hi = 0 }) ∙ ap (λ (n : ℕ). get_or table n (record { lo = 0; hi = 0 })) y)

some_length : (from i : ℕ) → from ≤ i → i < 23 → length (some from i) ≡ i - from
some_length from i l h =
    let n : length table ≡ 23 = refl in length-take-le (i - from) (drop from table) (omega (arith, length-drop from table, n))

same_test : (from i n : ℕ) → from ≤ i → n ≡ i - from → ltb 0 n ≡ ltb from i
same_test from i n l e = by_test (ltb from i) refl
  where
    by_test : (b : Bool) → ltb from i ≡ b → ltb 0 n ≡ ltb from i
    by_test true h = rw h (lt-ltb 0 n (omega (arith, ltb-true from i h)))
    by_test false h = rw h (le-ltb 0 n (omega (arith, ltb-false from i h)))

-- a set's ranges so far, up to i
pub set_none : (cells : List ℕ) (top from : ℕ) → Adds cells top (nodes_of (some from from)) cells top
unfolding nodes_of
set_none cells top from =
    let z : from - from ≡ 0 = omega arith in adds_as (sym (ap (λ (n : ℕ). nodes_of (take n (drop from table))) z)) (adds_none cells top)

pub set_more : (cells : List ℕ) (top from i : ℕ) (c₁ : List ℕ) (t : ℕ) (s : Span) (j : Bool) (cells' : List ℕ) (t' : ℕ) → from ≤ i → i < 23
    → s ≡ get_or table i (record { lo = 0; hi = 0 }) → j ≡ ltb from i
    → Adds cells top (nodes_of (some from i)) c₁ t → Adds c₁ t (range_nodes s j) cells' t' → Adds cells top (nodes_of (some from (i + 1))) cells' t'
set_more cells top from i c₁ t s j cells' t' l h e k a d =
    let g : nodes_of (some from i) ++ range_nodes s j ≡ nodes_of (some from (i + 1)) =
    sym (ap nodes_of (some_more from i l h ∙ ap (λ (y : Span). some from i ++ (y ∷ [])) (sym e))
    ∙ nodes_more (some from i) s j (same_test from i (length (some from i)) l (some_length from i l h) ∙ sym k)) in
    adds_as g (adds_then a d)

-- the part of the table that is a set's
abbrev SetIs : ℕ → Type 0
SetIs k = nodes_of (some (get_or starts k 0) (get_or starts (k + 1) 0)) ≡ postfix (set (set_at k))

set_is : (k : ℕ) → k < 12 → SetIs k
unfolding nodes_of alted postfix ranges joined spans
set_is k h = of_each SetIs refl refl refl refl refl refl refl refl refl refl refl refl k h

abbrev Rises : ℕ → Type 0
Rises k = (get_or starts k 0 ≤ get_or starts (k + 1) 0) × (get_or starts (k + 1) 0 ≤ 23)

starts_rise : (k : ℕ) → k < 12 → Rises k
starts_rise k h =
    of_each Rises (omega arith, omega arith) (omega arith, omega arith) (omega arith, omega arith) (omega arith, omega arith)
    (omega arith, omega arith) (omega arith, omega arith) (omega arith, omega arith) (omega arith, omega arith) (omega arith, omega arith)
    (omega arith, omega arith) (omega arith, omega arith) (omega arith, omega arith) k h

pub set_start : (k from end : ℕ) → k < 12 → from ≡ get_or starts k 0 → end ≡ get_or starts (k + 1) 0 → (from ≤ end) × (end ≤ 23)
set_start k from end h e f = let r = starts_rise k h in (omega (arith, e, f, r.0), omega (arith, f, r.1))

pub set_all : (k : ℕ) (cells : List ℕ) (top from end i : ℕ) (cells' : List ℕ) (t : ℕ) → k < 12 → from ≡ get_or starts k 0 → end ≡ get_or starts (k + 1) 0
    → i ≤ end → end ≤ i → Adds cells top (nodes_of (some from i)) cells' t → Adds cells top (postfix (set (set_at k))) cells' t
set_all k cells top from end i cells' t h e f l m a =
    let z : i ≡ get_or starts (k + 1) 0 = omega arith in
    adds_as (ap (λ (y : ℕ). nodes_of (some from y)) z ∙ ap (λ (y : ℕ). nodes_of (some y (get_or starts (k + 1) 0))) e ∙ set_is k h) a
