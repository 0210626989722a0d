-- What is left after each turn of the loop that writes a shown line, and behind the spaces before the mark; then names and sentences.
-- Each law is one turn or one end of a loop, or one way through a writer; specs/Left.antt says what it is to be left.
use Rattle.std.specs.Prelude.{ℕ, ◌+◌, ◌≤◌, ◌<◌, ◌≡◌, refl, Bool, true, false, List, [], ◌∷◌, ◌++◌, length, take, drop, get_or, replicate}
use Rattle.std.proofs.Common.{arith, sym, ap, ◌∙◌, length-append, eq-eqb, ne_eqb}
use Rattle.std.proofs.lemmas.List.{length-replicate}
use Rattle.number.specs.Lists.{Writes}
use Rattle.lines.specs.Digits.{decimal}
use Rattle.lines.specs.LineLaws.{copied}
pub use Rattle.lines.specs.LineLaws.{writes_as}
use Rattle.number.specs.Quoted.{quoted}
use Rattle.advised.specs.Advice.{newline, space, printed, shown, shown_line, mark_line, byte_name}
use Rattle.advised.specs.Advice.{phrase, place_words, fault_words, over_rules, over_kinds, over_nodes, in_all, too_much}
use Rattle.phrases.specs.SpotLaws.{shown_newline, shown_other, shown_end}
use Rattle.phrases.specs.Left.{Left, left_all, left_as, left_byte, left_step, left_last}

-- ---- a line that is shown

module _ (text : List ℕ) (i : ℕ) {whole s t : List ℕ} {at₀ at : ℕ} where
  pub shown_some : Left whole (shown_line (drop i text)) s t at₀ at → at < length t
  shown_some l = omega (arith, l.room, length-append (shown (drop i text)) (newline ∷ []))

  pub shown_more : {u : List ℕ} {mid c : ℕ} → i < length text → (get_or text i 0 ≡ newline → ⊥) → c ≡ printed (get_or text i 0)
      → Left whole (shown_line (drop i text)) s t at₀ at → Writes (c ∷ []) t u at mid
      → Left whole (shown_line (drop (i + 1) text)) s u at₀ mid
  shown_more h n e l a =
      left_byte (left_as (ap (λ x. x ++ (newline ∷ [])) (shown_other text i h n)) l) (writes_as (ap (λ x. x ∷ []) e) a)

  pub shown_to_newline : {u : List ℕ} {end : ℕ} → i < length text → get_or text i 0 ≡ newline → Left whole (shown_line (drop i text)) s t at₀ at
      → Writes (newline ∷ []) t u at end → Writes whole s u at₀ end
  shown_to_newline h n l a = left_last (left_as (ap (λ x. x ++ (newline ∷ [])) (shown_newline text i h n)) l) a

  pub shown_to_end : {u : List ℕ} {end : ℕ} → length text ≤ i → Left whole (shown_line (drop i text)) s t at₀ at
      → Writes (newline ∷ []) t u at end → Writes whole s u at₀ end
  shown_to_end h l a = left_last (left_as (ap (λ x. x ++ (newline ∷ [])) (shown_end text i h)) l) a

-- ---- the mark

pub mark_length : (n : ℕ) → length (mark_line n) ≡ n + 2
unfolding mark_line
mark_length n = omega (arith, length-append (replicate n space) (94 ∷ newline ∷ []), length-replicate n space)

pub mark_all : (n : ℕ) (s : List ℕ) (at : ℕ) → at + length (mark_line n) ≤ length s
    → Left (mark_line n) (replicate n space ++ (94 ∷ newline ∷ [])) s s at at
unfolding mark_line
mark_all n s at h = left_all (mark_line n) s at h

-- spaces that were filled in are a run of them
pub mark_spaces : (n k m : ℕ) (now : List ℕ) {whole s t : List ℕ} {at₀ at : ℕ} → Left whole (replicate n space ++ (94 ∷ newline ∷ [])) s t at₀ at
    → k ≡ n → now ≡ replicate m space → m ≡ n
    → Left whole (94 ∷ newline ∷ []) s (take at t ++ (now ++ drop k (drop at t))) at₀ (at + n)
mark_spaces n k m now {t = t} {at = at} l e f g =
    let many : length (replicate n space) ≡ n = length-replicate n space in
    left_step (replicate n space) (94 ∷ newline ∷ []) l
    (rw many at (copied (replicate n space) now t at k (e ∙ sym many) (f ∙ ap (λ x. replicate x space) g)))

-- ---- names of bytes

pub room_as : {v w : List ℕ} (at : ℕ) {n : ℕ} → v ≡ w → at + length w ≤ n → at + length v ≤ n
room_as at e h = omega (arith, ap length e)

pub name_space : {w : List ℕ} (c : ℕ) → c ≡ space → w ≡ quoted "space" → w ≡ byte_name c
unfolding byte_name
name_space c e f = f ∙ sym (rw (eq-eqb c space e) refl)

pub name_newline : {w : List ℕ} (c : ℕ) → (c ≡ space → ⊥) → c ≡ newline → w ≡ quoted "newline" → w ≡ byte_name c
unfolding byte_name
name_newline c n e f = f ∙ sym (rw (ne_eqb c space n, eq-eqb c newline e) refl)

pub name_other : (c d : ℕ) → (c ≡ space → ⊥) → (c ≡ newline → ⊥) → d ≡ printed c → d ∷ [] ≡ byte_name c
unfolding byte_name
name_other c d n m e = ap (λ x. x ∷ []) e ∙ sym (rw (ne_eqb c space n, ne_eqb c newline m) refl)

-- ---- the first line and the sentences

pub phrase_all : (words : List ℕ) (n : ℕ) (s : List ℕ) (at : ℕ) → at + length (phrase words n) ≤ length s → Left (phrase words n) (words ++ decimal n) s s at at
unfolding phrase
phrase_all words n s at h = record { room = h; same = refl; ends = λ u end x. x }

pub place_all : (line column : ℕ) (s : List ℕ) (at : ℕ) → at + length (place_words line column) ≤ length s
    → Left (place_words line column) (phrase (quoted "words.rules, line ") line ++ phrase (quoted ", column ") column) s s at at
unfolding place_words
place_all line column s at h = record { room = h; same = refl; ends = λ u end x. x }

pub fault_end : {w : List ℕ} {b : Bool} → b ≡ true → w ≡ quoted ": the text ends here, but the rule does not.\n" → w ≡ fault_words b
unfolding fault_words
fault_end e f = f ∙ ap fault_words (sym e)

pub fault_byte : {w : List ℕ} {b : Bool} → b ≡ false → w ≡ quoted ": no rule goes on with this byte.\n" → w ≡ fault_words b
unfolding fault_words
fault_byte e f = f ∙ ap fault_words (sym e)

pub too_much_lem : (s : List ℕ) (at : ℕ) → at + length too_much ≤ length s
    → Left too_much (over_rules ++ (over_kinds ++ (over_nodes ++ in_all))) s s at at
unfolding too_much
too_much_lem s at h = record { room = h; same = refl; ends = λ u end x. x }
