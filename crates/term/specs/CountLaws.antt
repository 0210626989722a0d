-- Laws for counting by a list, one for each place of the loop: how it begins, what a turn makes of it, and what each of its ends tells.
-- In a turn one node is counted off: a leaf makes way for the last place that waits, anything else for its children.
use Rattle.std.specs.Prelude.{ℕ, ◌+◌, ◌-◌, ◌<◌, ◌≤◌, ◌≡◌, refl, true, false, List, length, get_or, set, drop}
use native.Mathlib.Omega.{arith}
use Rattle.std.proofs.Common.{sym, ap, ◌∙◌, length-set, length-drop, get_or-set_same, get_or-set_other, get_or-drop, below_more, le-leb}
use Rattle.std.proofs.lemmas.List.{drop-set-add}
use Rattle.std.proofs.lemmas.Bool.{lt-leb}
use Rattle.number.specs.Limits.{tree_nodes}
use Rattle.meaning.specs.Re.{size, sizes}
use Rattle.meaning.specs.PartLaws.{size_some}
use Rattle.term.specs.declared.Term.{Term}
use Rattle.term.specs.Cells.{node_of, term}
use Rattle.term.specs.Nodes.{first_of, second_of, arity_of, Found}
use Rattle.term.specs.Places.{terms_at}
use Rattle.term.specs.Counts.{Countable, ShortTold, Counting}
use Rattle.term.specs.CellLaws.{found}
use Rattle.term.specs.ReadLaws.{arity_two, no_parts, one_part, two_parts, leaf_size, one_size, two_size}
use Rattle.term.specs.PlaceLaws.{sizes_last, sizes_set}

-- ---- the sizes that wait, in the cells from top to end

module _ (s l : List ℕ) (top end : ℕ) where
  sizes_none : end ≡ top → sizes (terms_at (term s) (drop top l) (end - top)) ≡ 0
  unfolding terms_at sizes
  sizes_none e = let none : end - top ≡ 0 = omega arith in rw (none, terms_at, sizes)

  sizes_end : top < end → sizes (terms_at (term s) (drop top l) (end - top))
      ≡ size (term s (get_or l (end - 1) 0)) + sizes (terms_at (term s) (drop top l) (end - 1 - top))
  sizes_end h =
      let less : end - top - 1 ≡ end - 1 - top = omega arith in
      let here : top + (end - 1 - top) ≡ end - 1 = omega arith in
      rw (less, get_or-drop top l (end - 1 - top) 0, here) at (sizes_last (term s) (drop top l) (end - top) (omega arith))

  sizes_listed : (b : ℕ) → top ≤ end → end < length l → sizes (terms_at (term s) (drop top (set l end b)) (end + 1 - top))
      ≡ size (term s b) + sizes (terms_at (term s) (drop top l) (end - top))
  sizes_listed b h k =
      let one : end + 1 - top ≡ end - top + 1 = omega arith in
      let here : top + (end - top) ≡ end = omega arith in
      let listed : drop top (set l end b) ≡ set (drop top l) (end - top) b = rw here at (drop-set-add top l (end - top) b) in
      rw (one, listed) (sizes_set (term s) (drop top l) (end - top) b (omega (arith, length-drop top l)))

-- ---- the loop

module _ {s : List ℕ} {top i : ℕ} (c : Countable s top i) where
  pub counting_first : Counting s top i s i top tree_nodes
  counting_first =
      record {
        held = c.held;
        up = omega arith;
        few = omega arith;
        wasted = record { same_length = refl; kept_below = λ j h. refl; kept_above = λ j h. refl };
        low = λ j h k. absurd (omega arith);
        counted = omega (arith, sizes_none s s top top refl);
      }

  module _ {l : List ℕ} {at end left : ℕ} (t : Counting s top i l at end left) where
    pub at_inside : at < length l
    at_inside = omega (arith, t.held, c.room, t.wasted.same_length)

    -- no node more is allowed, and the one at hand is to be counted
    pub told_long : (0 < left → ⊥) → ShortTold s top i l false
    told_long n =
        record {
          is = sym (lt-leb (size (term s i)) tree_nodes (omega (arith, t.counted, size_some (term s at))));
          wasted = t.wasted;
        }

    module _ (some : 0 < left) {u : Term} (e : u ≡ node_of (get_or l at 0)) where
      here : Found s at u
      here = found s top at u c.sound t.held (e ∙ ap node_of (t.wasted.kept_below at t.held))

      -- a leaf: it is the last, or a place that waits comes next
      module _ (leaf : arity_of u ≡ 0) where
        alone : size (term s at) ≡ 1
        alone = leaf_size (term s at) (no_parts here leaf)

        pub told_short : end ≡ top → ShortTold s top i l true
        told_short none =
            record {
              is = sym (le-leb (size (term s i)) tree_nodes
                  (omega (arith, t.counted, sizes_none s l top end none, alone)));
              wasted = t.wasted;
            }

        module _ (more : end ≡ top → ⊥) where
          waits : top < end
          waits = omega (arith, t.up)

          pub last_inside : end - 1 < length l
          last_inside = omega (arith, waits, c.room, t.wasted.same_length, t.few)

          pub leaf_next : Counting s top i l (get_or l (end - 1) 0) (end - 1) (left - 1)
          leaf_next =
              record {
                held = t.low (end - 1) (omega (arith, waits)) (omega (arith, waits));
                up = omega (arith, waits);
                few = omega (arith, t.few);
                wasted = t.wasted;
                low = λ j h k. t.low j h (omega arith);
                counted = omega (arith, t.counted, sizes_end s l top end waits, alone);
              }

      pub one_next : {a : ℕ} → arity_of u ≡ 1 → a ≡ first_of u → Counting s top i l a end (left - 1)
      one_next {a} k p =
          let f = one_part here k p in
          record {
            held = omega (arith, f.below, t.held);
            up = t.up;
            few = omega (arith, t.few);
            wasted = t.wasted;
            low = t.low;
            counted = omega (arith, t.counted, one_size f);
          }

      -- two children: the second waits
      pub end_inside : end < length l
      end_inside = omega (arith, c.room, t.wasted.same_length, t.few)

      pub two_next : {a b : ℕ} → (arity_of u ≡ 0 → ⊥) → (arity_of u ≡ 1 → ⊥) → a ≡ first_of u → b ≡ second_of u
          → Counting s top i (set l end b) a (end + 1) (left - 1)
      two_next {a} {b} k n p q =
          let f = two_parts here (arity_two u k n) p q in
          let there : get_or (set l end b) end 0 ≡ b = get_or-set_same l end b 0 end_inside in
          let other : (j : ℕ) → (j ≡ end → ⊥) → get_or (set l end b) j 0 ≡ get_or l j 0 = λ j d. get_or-set_other l end j b 0 d in
          record {
            held = omega (arith, f.first, t.held);
            up = omega (arith, t.up);
            few = omega (arith, t.few);
            wasted = record {
              same_length = length-set l end b ∙ t.wasted.same_length;
              kept_below = λ j m. other j (λ z. omega (arith, t.up)) ∙ t.wasted.kept_below j m;
              kept_above = λ j m. other j (λ z. omega (arith, t.few)) ∙ t.wasted.kept_above j m;
            };
            low = λ j h m.
                below_more (λ (x : ℕ). top ≤ x → get_or (set l end b) x 0 < top) end (λ x o g. rw (other x (λ z. omega arith)) (t.low x g o))
                (λ _. rw there (omega (arith, f.second, t.held))) j m h;
            counted = omega (arith, t.counted, sizes_listed s l top end b t.up end_inside, two_size f);
          }
