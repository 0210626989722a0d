-- Laws of the walk that finds a first word, one for each place of the code: what remains of the scan is the whole scan.
-- The code holds the best word as the place after it and its label; no label stands for no word.
use Prim.Native.Nat.{ℕ, zero, suc, ◌+◌, ◌-◌, ◌*◌, ◌<◌, ◌≤◌}
use native.Mathlib.Omega.{arith}
use Rattle.std.proofs.Math.Decide.{dec_lt}
use Rattle.std.specs.Prelude.{◌≡◌, true, List, length, drop}
use Rattle.std.proofs.Math.Path.{refl, sym}
use Rattle.std.proofs.Common.{ap, subst, ◌∙◌, length-take, drop_of_length-le, get_or-drop}
use Rattle.std.proofs.Math.ListN.{get_or}
use Rattle.std.proofs.Math.Seq.{get_or-take}
use Rattle.number.specs.Limits.{bytes}
use Rattle.number.specs.Lists.{drop_one}
use Rattle.meaning.specs.Re.{Text}
use Rattle.meaning.specs.Words.{Found, better, scan}
use Rattle.meaning.specs.Words.Found.{Stuck, Word}
use Rattle.table.specs.Table.{lent, well_formed}
use Rattle.table.specs.Formed.{Formed}
use Rattle.table.specs.SheetFormed.{well_formed_lem}
use Rattle.cutting.specs.Steps.{step_in, label_at, first_by}
use Rattle.cutting.specs.Dead.{dead_of}
use Rattle.cutting.specs.DeadLaws.{Dead, dead_of_lem, scan_dead}
use Rattle.cutting.specs.declared.Run.{Run}
use Rattle.cutting.specs.Walk.{Walkable, led, Ran}

-- a well formed table can be walked
pub well_walkable : (count : ℕ) (labels targets : List ℕ) → well_formed count labels targets ≡ true → Walkable count labels targets
well_walkable count labels targets e =
    let f : Formed (lent count labels targets) = well_formed_lem count labels targets e in
    record {
      some = f.some;
      labelled = omega (arith, length-take count labels, f.labelled);
      filled = omega (arith, length-take (count * bytes) targets, f.filled);
      target = λ i h. rw (get_or-take (count * bytes) targets i 0 h) at (f.target i (omega (arith, f.filled)));
    }

-- a new best word does not depend on the one before
pub better_new : (n label : ℕ) (best : Found) → (label ≡ 0 → ⊥) → better n label best ≡ better n label Stuck
better_new n zero best h = absurd (h refl)
better_new n (suc r) best h = refl

-- nor on the same label a little earlier
better_again : (n m label : ℕ) (best : Found) → better n label (better m label best) ≡ better n label best
better_again n m zero best = refl
better_again n m (suc r) best = refl

pub better_word : (n label : ℕ) → (label ≡ 0 → ⊥) → Word n (label - 1) ≡ better n label Stuck
better_word n zero h = absurd (h refl)
better_word n (suc r) h = let e : suc r - 1 ≡ r = omega arith in ap (Word n) e

module _ (count : ℕ) (labels targets : List ℕ) (text : Text) (at : ℕ) where
  -- what is found from a state on, where the text before i is read and `best` is the best word in it
  abbrev found : ℕ → ℕ → Found → Found
  found state i best = scan (step_in (lent count labels targets)) (label_at (lent count labels targets)) state (drop i text) (i - at) best

  -- the walk has come to i; `best` is the best word that ends before, and the label of the state is still to be taken
  pub record Along (state i : ℕ) (best : Found) : Type 0 where
    pub inside : state < count
    pub onward : at ≤ i
    pub whole : found state i (better (i - at) (get_or labels state 0) best) ≡ first_by (lent count labels targets) (drop at text)

  module _ (w : Walkable count labels targets) (fits : (j : ℕ) → get_or text j 0 < bytes) where
    marked : (s : ℕ) → s < count → label_at (lent count labels targets) s ≡ get_or labels s 0
    marked s k = get_or-take count labels s 0 k

    module _ (state i : ℕ) (inside : state < count) where
      -- the cell that the next byte leads through
      cell_in : state * bytes + get_or text i 0 < count * bytes
      cell_in = omega (arith, inside, fits i)

      led_in : led targets text state i < count
      led_in = w.target (state * bytes + get_or text i 0) cell_in

      -- one byte is read
      one_more : at ≤ i → i < length text → (best : Found)
          → found state i best ≡ found (led targets text state i) (i + 1) (better (i + 1 - at) (get_or labels (led targets text state i) 0) best)
      unfolding scan
      one_more k h best =
          let d : i + 1 - at ≡ suc (i - at) = omega arith in
          let p = get_or-take (count * bytes) targets (state * bytes + get_or text i 0) 0 cell_in in
          let q = marked (led targets text state i) led_in in
          rw (drop_one text i h, scan, d, p, q) refl

    -- past the text, and in the dead state, nothing better is found
    found_over : (state i : ℕ) (best : Found) → length text ≤ i → found state i best ≡ best
    unfolding scan
    found_over state i best h = rw (drop_of_length-le text h) refl

    found_in_dead : (state i : ℕ) (best : Found) → state < count → state ≡ dead_of count labels targets → found state i (better (i - at) (get_or labels state 0) best) ≡ best
    found_in_dead state i best inside e =
        let d : Dead labels targets state = subst (Dead labels targets) (sym e) (dead_of_lem labels targets count (omega (arith, e))) in
        let stays : (c : ℕ) → c < bytes → step_in (lent count labels targets) state c ≡ state =
        λ c k. get_or-take (count * bytes) targets (state * bytes + c) 0 (omega arith) ∙ d.stays c k in
        let unmarked : label_at (lent count labels targets) state ≡ 0 = marked state inside ∙ d.unlabelled in
        let rest : (j : ℕ) → get_or (drop i text) j 0 < bytes = λ j. rw (get_or-drop i text j 0) (fits (i + j)) in
        rw d.unlabelled
        (scan_dead (step_in (lent count labels targets)) (label_at (lent count labels targets)) state stays unmarked (drop i text) rest (i - at) best)

    -- ---- the start of a word

    pub along_none : length text ≤ at → Stuck ≡ first_by (lent count labels targets) (drop at text)
    unfolding first_by scan
    along_none h = rw (drop_of_length-le text h) refl

    pub along_start : at < length text → Along (get_or targets (get_or text at 0) 0) (at + 1) Stuck
    unfolding first_by
    along_start h =
        let z : at - at ≡ 0 = omega arith in
        let first : 0 * bytes + get_or text at 0 ≡ get_or text at 0 = omega arith in
        let begun : Along (led targets text 0 at) (at + 1) Stuck = record {
          inside = led_in 0 at w.some;
          onward = omega arith;
          whole = sym (rw z at (one_more 0 at w.some (omega arith) h Stuck));
        } in
        rw first at begun

    pub along_dead : {state i : ℕ} {best : Found} → Along state i best → state ≡ dead_of count labels targets
        → best ≡ first_by (lent count labels targets) (drop at text)
    along_dead {state} {i} {best} a e = sym (found_in_dead state i best a.inside e) ∙ a.whole

    -- ---- a run, and what comes after it

    along_stays : {state i : ℕ} {best : Found} → Along state i best → i < length text → led targets text state i ≡ state → Along state (i + 1) best
    along_stays {state} {i} {best} a h e =
        let n = i - at in
        let label = get_or labels state 0 in
        let more = rw e at (one_more state i a.inside a.onward h (better n label best)) in
        record {
          inside = a.inside;
          onward = omega (arith, a.onward);
          whole = ap (found state (i + 1)) (sym (better_again (i + 1 - at) n label best)) ∙ sym more ∙ a.whole;
        }

    along_run : {state i : ℕ} {best : Found} (m : ℕ) → Along state i best → i + m ≤ length text
        → ((j : ℕ) → i ≤ j → j < i + m → led targets text state j ≡ state) → Along state (i + m) best
    along_run {state} {i} {best} zero a h stays = let e : i ≡ i + 0 = omega arith in rw (← e) a
    along_run {state} {i} {best} (suc m) a h stays =
        let b = along_run m a (omega arith) (λ j k l. stays j k (omega arith)) in
        let e : i + m + 1 ≡ i + suc m = omega arith in
        rw (← e) (along_stays b (omega arith) (stays (i + m) (omega arith) (omega arith)))

    module _ {state i dead : ℕ} {best : Found} {r : Run} (a : Along state i best) (ran : Ran targets text state i dead r) where
      along_ran : Along state r.end best
      along_ran =
          let e : i + (r.end - i) ≡ r.end = omega (arith, ran.onward) in
          rw e at (along_run (r.end - i) a (omega (arith, e, ran.within)) (λ j h k. ran.stays j h (omega (arith, e))))

      -- no label can follow: the label of the state is the last
      pub along_ends : dead ≡ dead_of count labels targets → r.then ≡ dead
          → better (r.end - at) (get_or labels state 0) best ≡ first_by (lent count labels targets) (drop at text)
      along_ends first e =
          let b = along_ran in
          let last = better (r.end - at) (get_or labels state 0) best in
          elim (dec_lt r.end (length text)) [
            | yes h ↦
                let t = led targets text state r.end in
                let more = one_more state r.end b.inside b.onward h last in
                let none = found_in_dead t (r.end + 1) last (led_in state r.end b.inside) (sym (ran.leaves h).0 ∙ e ∙ first) in
                sym none ∙ sym more ∙ b.whole
            | no h ↦ sym (found_over state r.end last (omega arith)) ∙ b.whole
          ]

      -- the walk goes on in the next state
      pub goes_on : (r.then ≡ dead → ⊥) → r.end < length text
      goes_on n =
          elim (dec_lt r.end (length text)) [
            | yes h ↦ h
            | no h ↦ absurd (n (ran.over (omega (arith, ran.within))))
          ]

      pub along_next : (r.then ≡ dead → ⊥) → Along r.then (r.end + 1) (better (r.end - at) (get_or labels state 0) best)
      along_next n =
          let b = along_ran in
          let h = goes_on n in
          let more = one_more state r.end b.inside b.onward h (better (r.end - at) (get_or labels state 0) best) in
          rw (ran.leaves h).0
          (record {
            inside = led_in state r.end b.inside;
            onward = omega (arith, b.onward);
            whole = sym more ∙ b.whole;
          })
