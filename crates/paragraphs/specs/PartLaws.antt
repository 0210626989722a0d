-- The whole text for a refusal: its parts in the order in which the code puts them, each with its room.
-- Line and start are those that the code found for the bytes before the place.
use Rattle.std.specs.Prelude.{ℕ, ◌+◌, ◌-◌, ◌≤◌, ◌≡◌, refl, List, [], ◌++◌, eqb, length, take, drop}
use Rattle.std.proofs.Common.{arith, sym, ap, ◌∙◌}
use Rattle.number.specs.declared.Refusal.{Refusal}
use Rattle.number.specs.declared.Refusal.TheVariants.{Short, Number, Range, Stack, Tail, Long, Pool, States, Runs, Loaded, Room, Pairs, Input, Typed, Padded}
use Rattle.number.specs.Lists.{Writes, writes_none}
use Rattle.meaning.specs.Re.{Text}
use Rattle.advised.specs.Advice.{newlines, line_at, last_start, start_at, column_at, shown_line, mark_line, could_stand, tested_line}
use Rattle.advised.specs.Advice.{place_words, fault_words, too_much, over_file, in_bytes, typed_advice, range_advice, unread, advice_on}
use Rattle.phrases.specs.Promises.{SpotOf}
use Rattle.phrases.specs.Left.{Left, left_all, left_as, left_room, left_step}
use Rattle.phrases.specs.WriteLaws.{writes_as}

-- the code looks at the part of the text from 0 to p
whole_part : (text : Text) (p : ℕ) → take (p - 0) (drop 0 text) ≡ take p text
whole_part text p = ap (λ n. take n text) none
  where
    none : p - 0 ≡ p
    none = omega arith

line_found : (text : Text) (p line start : ℕ) → SpotOf (take (p - 0) (drop 0 text)) line start → line_at text p ≡ line
line_found text p line start s = ap (λ w. newlines w + 1) (sym (whole_part text p)) ∙ sym s.lines

start_found : (text : Text) (p line start : ℕ) → SpotOf (take (p - 0) (drop 0 text)) line start → start_at text p ≡ start
start_found text p line start s = ap (last_start 0 0) (sym (whole_part text p)) ∙ sym s.starts

-- what is left of the advice on a wrong byte from each of its parts on
unfoldable pub mark_on : Text → ℕ → ℕ → List ℕ
mark_on text p start = mark_line (p - start) ++ tested_line (could_stand (take p text))

unfoldable pub shown_on : Text → ℕ → ℕ → List ℕ
shown_on text p start = shown_line (drop start text) ++ mark_on text p start

unfoldable pub fault_on : Text → ℕ → ℕ → List ℕ
fault_on text p start = fault_words (eqb p (length text)) ++ shown_on text p start

unfoldable pub place_on : Text → ℕ → ℕ → ℕ → List ℕ
place_on text p line start = place_words line (p - start + 1) ++ fault_on text p start

pub typed_all : (text : Text) (p line start : ℕ) (s : List ℕ) (at : ℕ) → SpotOf (take (p - 0) (drop 0 text)) line start
    → at + length (typed_advice text p) ≤ length s → Left (typed_advice text p) (place_on text p line start) s s at at
unfolding typed_advice place_on fault_on shown_on mark_on
typed_all text p line start s at f h =
    left_as
    (ap (λ l. place_on text p l (start_at text p)) (line_found text p line start f) ∙ ap (place_on text p line) (start_found text p line start f))
    (left_all (typed_advice text p) s at h)

-- each part has room, and is followed by the next
module _ (text : Text) (p start : ℕ) {whole s t : List ℕ} {at₀ at : ℕ} where
  pub place_room : (line : ℕ) → Left whole (place_on text p line start) s t at₀ at → at + length (place_words line (p - start + 1)) ≤ length t
  unfolding place_on
  place_room line l = left_room (place_words line (p - start + 1)) (fault_on text p start) l

  pub place_on_lem : (line : ℕ) → {u : List ℕ} {mid : ℕ} → Left whole (place_on text p line start) s t at₀ at
      → Writes (place_words line (p - start + 1)) t u at mid → Left whole (fault_on text p start) s u at₀ mid
  unfolding place_on
  place_on_lem line l a = left_step (place_words line (p - start + 1)) (fault_on text p start) l a

  pub fault_room : Left whole (fault_on text p start) s t at₀ at → at + length (fault_words (eqb p (length text))) ≤ length t
  unfolding fault_on
  fault_room l = left_room (fault_words (eqb p (length text))) (shown_on text p start) l

  pub fault_on_lem : {u : List ℕ} {mid : ℕ} → Left whole (fault_on text p start) s t at₀ at → Writes (fault_words (eqb p (length text))) t u at mid
      → Left whole (shown_on text p start) s u at₀ mid
  unfolding fault_on
  fault_on_lem l a = left_step (fault_words (eqb p (length text))) (shown_on text p start) l a

  pub shown_room : Left whole (shown_on text p start) s t at₀ at → at + length (shown_line (drop start text)) ≤ length t
  unfolding shown_on
  shown_room l = left_room (shown_line (drop start text)) (mark_on text p start) l

  pub shown_on_lem : {u : List ℕ} {mid : ℕ} → Left whole (shown_on text p start) s t at₀ at → Writes (shown_line (drop start text)) t u at mid
      → Left whole (mark_on text p start) s u at₀ mid
  unfolding shown_on
  shown_on_lem l a = left_step (shown_line (drop start text)) (mark_on text p start) l a

  pub mark_room : Left whole (mark_on text p start) s t at₀ at → at + length (mark_line (p - start)) ≤ length t
  unfolding mark_on
  mark_room l = left_room (mark_line (p - start)) (tested_line (could_stand (take p text))) l

  pub mark_on_lem : {u : List ℕ} {mid : ℕ} → Left whole (mark_on text p start) s t at₀ at → Writes (mark_line (p - start)) t u at mid
      → Left whole (tested_line (could_stand (take p text))) s u at₀ mid
  unfolding mark_on
  mark_on_lem l a = left_step (mark_line (p - start)) (tested_line (could_stand (take p text))) l a

pub range_all : (text : Text) (p line start : ℕ) (s : List ℕ) (at : ℕ) → SpotOf (take (p - 0) (drop 0 text)) line start
    → at + length (range_advice text p) ≤ length s
    → Left (range_advice text p) (place_words line (p - start + 1) ++ (too_much ++ shown_line (drop start text))) s s at at
unfolding range_advice
range_all text p line start s at f h =
    left_as
    (ap (λ l. place_words l (column_at text p) ++ (too_much ++ shown_line (drop (start_at text p) text))) (line_found text p line start f) ∙
    ap (λ k. place_words line (p - k + 1) ++ (too_much ++ shown_line (drop k text))) (start_found text p line start f))
    (left_all (range_advice text p) s at h)

-- a file that is not read
pub unread_all : (s : List ℕ) (at : ℕ) → at + length unread ≤ length s → Left unread (over_file ++ in_bytes) s s at at
unfolding unread
unread_all s at h = record { room = h; same = refl; ends = λ u end x. x }

-- refusals that typing never answers, and places outside the text
pub nothing_told : {w : List ℕ} (s : List ℕ) → w ≡ [] → Writes w s s 0 0
nothing_told s e = writes_as (sym e) (writes_none s 0)

pub other_told : (text : Text) (r : Refusal) → ((p : ℕ) → r ≡ Typed p → ⊥) → ((p : ℕ) → r ≡ Range p → ⊥) → advice_on text r ≡ []
unfolding advice_on
other_told text (Typed p) h g = absurd (h p refl)
other_told text (Range p) h g = absurd (g p refl)
other_told text Input h g = refl
other_told text (Short p) h g = refl
other_told text (Number p) h g = refl
other_told text (Padded p) h g = refl
other_told text (Stack p) h g = refl
other_told text (Tail p) h g = refl
other_told text (Long p) h g = refl
other_told text (Pool p) h g = refl
other_told text (States p) h g = refl
other_told text (Runs p) h g = refl
other_told text Loaded h g = refl
other_told text Room h g = refl
other_told text (Pairs p) h g = refl
