-- How long a line can get, so that room can be planned: 32 bytes at most for numbers below 2^20; twenty digits for any number of 64 bits.
-- Then one law a writer: what its calls add, one after another, is the line.
use Rattle.std.specs.Prelude.{ℕ, suc, ◌+◌, ◌*◌, ◌/◌, ◌%◌, ◌^◌, ◌<◌, ◌≤◌, ◌≡◌, refl, List, [], ◌∷◌, ◌++◌, length, take, drop, get_or}
use Rattle.std.proofs.Common.{arith, sym, ap, subst, ◌∙◌, append_assoc, length-append, drop-drop, drop_of_length-le}
use Rattle.number.specs.declared.Refusal.{Refusal}
use Rattle.number.specs.Lists.{drop_one, written, Writes, writes_then}
use Rattle.number.specs.Refused.{number, place}
use Rattle.lines.specs.Digits.{digit, decimal, hex}
use Rattle.lines.specs.Lines.{space, newline, done_word, stuck_word, refused_word, differs_word}
use Rattle.lines.specs.Lines.{item, word_line, done_line, stuck_line, refused_line, differs_line, hex_line, item_room}
use Rattle.lines.specs.DigitLaws.{decimal_most}

-- ---- lengths: numbers of so many digits

module _ (k : ℕ) where
  pub item_most : (n end : ℕ) → n < 10 ^ suc k → length (item n end) ≤ k + 2
  unfolding item
  item_most n end h = simp length-append (omega (arith, decimal_most k n h))

  pub word_most : (a b c d : ℕ) → a < 10 ^ suc k → b < 10 ^ suc k → c < 10 ^ suc k → d < 10 ^ suc k
      → length (word_line a b c d) ≤ 4 * (k + 2)
  unfolding word_line
  word_most a b c d ha hb hc hd =
      simp length-append
      (omega (arith, item_most a space ha, item_most b space hb, item_most c space hc, item_most d newline hd))

  pub done_most : (n : ℕ) → n < 10 ^ suc k → length (done_line n) ≤ 5 + (k + 2)
  unfolding done_line
  done_most n h = simp length-append (omega (arith, item_most n newline h))

  pub stuck_most : (n : ℕ) → n < 10 ^ suc k → length (stuck_line n) ≤ 6 + (k + 2)
  unfolding stuck_line
  stuck_most n h = simp length-append (omega (arith, item_most n newline h))

  pub refused_most : (r : Refusal) → number r < 10 ^ suc k → place r < 10 ^ suc k → length (refused_line r) ≤ 8 + 2 * (k + 2)
  unfolding refused_line
  refused_most r h g = simp length-append (omega (arith, item_most (number r) space h, item_most (place r) newline g))

  pub differs_most : (a b c : ℕ) → a < 10 ^ suc k → b < 10 ^ suc k → c < 10 ^ suc k
      → length (differs_line a b c) ≤ 8 + 3 * (k + 2)
  unfolding differs_line
  differs_most a b c ha hb hc =
      simp length-append (omega (arith, item_most a space ha, item_most b space hb, item_most c newline hc))

-- ---- what any number of 64 bits takes

pub decimal_fits : (n : ℕ) → n < 2 ^ 64 → length (decimal n) + 1 ≤ item_room
decimal_fits n h = omega (arith, decimal_most 19 n (omega arith))

-- a byte takes two digits
pub hex_length : (text : List ℕ) → length (hex_line text) ≡ 2 * length text + 1
unfolding hex_line
hex_length [] = omega arith
hex_length (b ∷ text) = simp length-append (omega (arith, hex_length text))

-- ---- a byte in two digits, as the code puts them

pub hex_written : (byte x y : ℕ) {s t u : List ℕ} {at mid end : ℕ} → x ≡ digit (byte / 16) → y ≡ digit (byte % 16) → at ≤ length s
    → Writes (x ∷ []) s t at mid → Writes (y ∷ []) t u mid end → Writes (hex byte) s u at end
hex_written byte x y e f room a b = writes_then room (rw e at a) (rw f at b)

-- ---- text and hex, from a place on

-- a writer that has come so far: what writes the rest from here on has written the whole from the start on
abbrev pub Leads : List ℕ → List ℕ → ℕ → List ℕ → List ℕ → ℕ → Type 0
Leads whole o₀ at rest o end = (s : List ℕ) (next : ℕ) → Writes rest o s end next → Writes whole o₀ s at next

-- a copied text is a run of its bytes
pub copied : (text now s : List ℕ) (at k : ℕ) → k ≡ length text → now ≡ text
    → Writes text s (take at s ++ (now ++ drop k (drop at s))) at (at + length text)
unfolding written
copied text now s at k e f =
    record {
      place = refl;
      out = ap (λ l. take at s ++ (l ++ drop k (drop at s))) f ∙ ap (λ l. take at s ++ (text ++ l)) (drop-drop k at s ∙ ap (λ n. drop (at + n) s) e)
          ∙ sym (append_assoc (take at s) text (drop (at + length text) s));
    }

pub hex_none : (text : List ℕ) (from : ℕ) {s t : List ℕ} {at end : ℕ} → length text ≤ from → Writes (newline ∷ []) s t at end
    → Writes (hex_line (drop from text)) s t at end
unfolding hex_line
hex_none text from h a = rw (drop_of_length-le text h) a

pub hex_more : (text : List ℕ) (from : ℕ) {s t u : List ℕ} {at mid end : ℕ} → from < length text → at ≤ length s
    → Writes (hex (get_or text from 0)) s t at mid → Writes (hex_line (drop (from + 1) text)) t u mid end
    → Writes (hex_line (drop from text)) s u at end
unfolding hex_line
hex_more text from h room a b = rw (drop_one text from h) (writes_then room a b)

-- ---- lines, as the code puts their parts

-- numbers, each behind a space, and the line's end; and such a line from its first number on
unfoldable pub more_line : List ℕ → List ℕ
more_line [] = newline ∷ []
more_line (n ∷ more) = space ∷ (decimal n ++ more_line more)

abbrev pub numbers_line : ℕ → List ℕ → List ℕ
numbers_line first more = decimal first ++ more_line more

pub more_none : (numbers : List ℕ) (from : ℕ) {s t : List ℕ} {at end : ℕ} → length numbers ≤ from → Writes (newline ∷ []) s t at end
    → Writes (more_line (drop from numbers)) s t at end
unfolding more_line
more_none numbers from h a = rw (drop_of_length-le numbers h) a

pub more_more : (numbers : List ℕ) (from : ℕ) {s t u v : List ℕ} {at p q end : ℕ} → from < length numbers → at ≤ length s → p ≤ length t
    → Writes (space ∷ []) s t at p → Writes (decimal (get_or numbers from 0)) t u p q → Writes (more_line (drop (from + 1) numbers)) u v q end
    → Writes (more_line (drop from numbers)) s v at end
unfolding more_line
more_more numbers from h i j a b c = rw (drop_one numbers from h) (writes_then i a (writes_then j b c))

-- each line is its word, if it has one, and then such numbers
pub word_numbers : (a b c d : ℕ) → numbers_line a (b ∷ c ∷ d ∷ []) ≡ word_line a b c d
unfolding word_line item more_line
word_numbers a b c d = simp append_assoc

pub done_numbers : (n : ℕ) → done_word ++ numbers_line n [] ≡ done_line n
unfolding done_line item more_line
done_numbers n = refl

pub stuck_numbers : (n : ℕ) → stuck_word ++ numbers_line n [] ≡ stuck_line n
unfolding stuck_line item more_line
stuck_numbers n = refl

pub refused_numbers : (r : Refusal) (x y : ℕ) → x ≡ number r → y ≡ place r → refused_word ++ numbers_line x (y ∷ []) ≡ refused_line r
unfolding refused_line item more_line
refused_numbers r x y e f = rw (e, f) (simp append_assoc)

pub differs_numbers : (a b c : ℕ) → differs_word ++ numbers_line a (b ∷ c ∷ []) ≡ differs_line a b c
unfolding differs_line item more_line
differs_numbers a b c = simp append_assoc

-- a run told in another way, and two runs one after the other
pub writes_as : {v w s t : List ℕ} {at end : ℕ} → v ≡ w → Writes v s t at end → Writes w s t at end
writes_as {s = s} {t = t} {at = at} {end = end} e a = subst (λ x. Writes x s t at end) e a

pub writes_parts : {v w line s t u : List ℕ} {at mid end : ℕ} → v ++ w ≡ line → at ≤ length s → Writes v s t at mid → Writes w t u mid end
    → Writes line s u at end
writes_parts e h a b = writes_as e (writes_then h a b)
