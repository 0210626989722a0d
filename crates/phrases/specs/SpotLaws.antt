-- Lines, their starts and the bytes of a line, as the loops go over them from place to place.
-- One law for the loop's first turn, one for a turn that meets a newline, one for any other, and one for its end.
use Rattle.std.specs.Prelude.{ℕ, ◌+◌, ◌≤◌, ◌<◌, ◌≡◌, refl, cond, true, false, List, [], ◌∷◌, eqb, length, drop, get_or}
use Rattle.std.proofs.Common.{arith, sym, ap, ◌∙◌, drop_of_length-le, eq-eqb, ne_eqb}
use Rattle.number.specs.Lists.{drop_one}
use Rattle.advised.specs.Advice.{newline, newlines, last_start, printed, shown}
use Rattle.phrases.specs.Promises.{SpotOf}

-- one byte further
start_newline : (start q c : ℕ) (text : List ℕ) → eqb c newline ≡ true → last_start start q (c ∷ text) ≡ last_start (q + 1) (q + 1) text
unfolding last_start
start_newline start q c text n = ap (λ b. last_start (cond b (q + 1) start) (q + 1) text) n

start_other : (start q c : ℕ) (text : List ℕ) → eqb c newline ≡ false → last_start start q (c ∷ text) ≡ last_start start (q + 1) text
unfolding last_start
start_other start q c text n = ap (λ b. last_start (cond b (q + 1) start) (q + 1) text) n

-- of the bytes before a place, those up to i are looked at: line and start are those of place i
pub record SpotSoFar (before : List ℕ) (i line start : ℕ) : Type 0 where
  pub lines : line + newlines (drop i before) ≡ newlines before + 1
  pub starts : last_start start i (drop i before) ≡ last_start 0 0 before
  pub inside : start ≤ i
  pub few : line ≤ i + 1

pub spot_first : (before : List ℕ) → SpotSoFar before 0 1 0
spot_first before = record { lines = omega arith; starts = refl; inside = omega arith; few = omega arith }

pub spot_newline : (before : List ℕ) (i line start : ℕ) → i < length before → get_or before i 0 ≡ newline
    → SpotSoFar before i line start → SpotSoFar before (i + 1) (line + 1) (i + 1)
unfolding newlines
spot_newline before i line start h e s =
    let n : eqb (get_or before i 0) newline ≡ true = eq-eqb (get_or before i 0) newline e in
    record {
      lines = omega (arith, rw (drop_one before i h, n) at s.lines);
      starts = sym (start_newline start i (get_or before i 0) (drop (i + 1) before) n) ∙ rw (drop_one before i h) at s.starts;
      inside = omega arith;
      few = omega (arith, s.few);
    }

pub spot_other : (before : List ℕ) (i line start : ℕ) → i < length before → (get_or before i 0 ≡ newline → ⊥)
    → SpotSoFar before i line start → SpotSoFar before (i + 1) line start
unfolding newlines
spot_other before i line start h e s =
    let n : eqb (get_or before i 0) newline ≡ false = ne_eqb (get_or before i 0) newline e in
    record {
      lines = omega (arith, rw (drop_one before i h, n) at s.lines);
      starts = sym (start_other start i (get_or before i 0) (drop (i + 1) before) n) ∙ rw (drop_one before i h) at s.starts;
      inside = omega (arith, s.inside);
      few = omega (arith, s.few);
    }

pub spot_as : (before : List ℕ) (i : ℕ) {line line' start start' : ℕ} → line' ≡ line → start' ≡ start → SpotSoFar before i line start
    → SpotSoFar before i line' start'
spot_as before i e f s = record { lines = omega (arith, s.lines); starts = ap (λ x. last_start x i (drop i before)) f ∙ s.starts; inside = omega (arith, s.inside); few = omega (arith, s.few) }

pub spot_last : (before : List ℕ) (i line start : ℕ) → length before ≤ i → i ≤ length before → SpotSoFar before i line start
    → SpotOf before line start
unfolding newlines last_start
spot_last before i line start h g s =
    let none : drop i before ≡ [] = drop_of_length-le before h in
    record {
      lines = omega (arith, rw none at s.lines);
      starts = rw none at s.starts;
      inside = omega (arith, s.inside);
      few = omega (arith, s.few);
    }

-- ---- the bytes of a line

pub shown_newline : (text : List ℕ) (i : ℕ) → i < length text → get_or text i 0 ≡ newline → shown (drop i text) ≡ []
unfolding shown
shown_newline text i h e = rw (drop_one text i h, eq-eqb (get_or text i 0) newline e, shown) refl

pub shown_other : (text : List ℕ) (i : ℕ) → i < length text → (get_or text i 0 ≡ newline → ⊥)
    → shown (drop i text) ≡ printed (get_or text i 0) ∷ shown (drop (i + 1) text)
unfolding shown
shown_other text i h n = rw (drop_one text i h, ne_eqb (get_or text i 0) newline n, shown) refl

pub shown_end : (text : List ℕ) (i : ℕ) → length text ≤ i → shown (drop i text) ≡ []
unfolding shown
shown_end text i h = rw (drop_of_length-le text h) refl
