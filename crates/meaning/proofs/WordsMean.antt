-- A text has exactly one first word, and the walk finds it: for derivatives, and for whatever else says what label a text has.
-- The walk's best word is the first word of what it has read; one more byte keeps that so.
use Rattle.std.specs.Prelude.{ℕ, zero, suc, ◌<◌, ◌≤◌, ◌≡◌, refl, length, take}
use Rattle.std.proofs.Common.{subst, ◌∙◌, arith, length-append, take_all}
use mathlib.Core.List.{List, [], ◌∷◌, ◌++◌, append_assoc, append-nil}
use Rattle.std.proofs.Math.Decide.{dec_lt}
use Rattle.std.proofs.lemmas.List.{take-append-le}
use Rattle.meaning.specs.Re.{Re, Text}
use Rattle.meaning.specs.Rules.{Names, label, derive_all, derive_by, start}
use Rattle.meaning.proofs.RulesMean.{names_after, names_one}
use Rattle.meaning.specs.Words.{Found, First, FirstWord, NoneLonger, better, scan, reach, first_word}
use Rattle.meaning.specs.Words.Found.{Stuck, Word}

-- one answer, where a text has one label
module _ (N : Text → ℕ → Type 0) (only : (w : Text) (l m : ℕ) → N w l → N w m → l ≡ m) (text : Text) where
  labelled_not : (n r : ℕ) → N (take n text) (suc r) → N (take n text) 0 → ⊥
  labelled_not n r p q = let e = only (take n text) (suc r) 0 p q in omega arith

  pub first_one : (f g : Found) → First N text f → First N text g → f ≡ g
  first_one Stuck Stuck p q = refl
  first_one Stuck (Word m r) p q = absurd (labelled_not m r q.2 (p m q.0 q.1))
  first_one (Word n r) Stuck p q = absurd (labelled_not n r p.2 (q n p.0 p.1))
  first_one (Word n r) (Word m s) p q =
      elim (dec_lt n m) [
        | yes h ↦ absurd (labelled_not m s q.2 (p.3 m h q.1))
        | no f ↦ elim (dec_lt m n) [
          | yes h ↦ absurd (labelled_not n r p.2 (q.3 n h p.1))
          | no g ↦
              let e : n ≡ m = omega arith in
              let d : suc r ≡ suc s = only (take m text) (suc r) (suc s) (subst (λ (k : ℕ). N (take k text) (suc r)) e p.2) q.2 in
              cc
        ]
      ]

-- labels that are alike on every non-empty prefix give alike words
module _ (N M : Text → ℕ → Type 0) (text : Text) (same : (m l : ℕ) → 0 < m → m ≤ length text → N (take m text) l → M (take m text) l) where
  pub first_alike : (f : Found) → First N text f → First M text f
  first_alike Stuck p = λ m h k. same m 0 h k (p m h k)
  first_alike (Word n r) p = (p.0, p.1, same n (suc r) p.0 p.1 p.2, λ m h k. same m 0 (omega (arith, p.0)) k (p.3 m h k))

-- a non-empty text with a label is its own first word
pub first_whole : (N : Text → ℕ → Type 0) (text : Text) (r : ℕ) → 0 < length text → N text (suc r) → First N text (Word (length text) r)
first_whole N text r l p = (l, omega arith, rw (take_all (length text) text (omega arith)) p, λ m h k. absurd (omega arith))

-- one more byte
length_more : (p : Text) (c : ℕ) → length (p ++ (c ∷ [])) ≡ suc (length p)
length_more p c = length-append p (c ∷ []) ∙ (omega arith)

module _ (N : Text → ℕ → Type 0) (p : Text) (c : ℕ) where
  take_whole : take (suc (length p)) (p ++ (c ∷ [])) ≡ p ++ (c ∷ [])
  take_whole = take_all (suc (length p)) (p ++ (c ∷ [])) (omega (arith, length_more p c))

  -- a prefix of what was read is one of the longer text
  kept_label : (l n : ℕ) → n ≤ length p → N (take n p) l → N (take n (p ++ (c ∷ []))) l
  kept_label l n h m = rw (take-append-le n p (c ∷ []) h) m

  last_label : (l : ℕ) → N (p ++ (c ∷ [])) l → N (take (suc (length p)) (p ++ (c ∷ []))) l
  last_label l m = rw take_whole m

  none_more : (n : ℕ) → N (p ++ (c ∷ [])) 0 → NoneLonger N p n → NoneLonger N (p ++ (c ∷ [])) n
  none_more n e f m h k =
      elim (dec_lt (length p) m) [
        | yes g ↦ let e' : suc (length p) ≡ m = omega (arith, length_more p c) in subst (λ (x : ℕ). N (take x (p ++ (c ∷ []))) 0) e' (last_label 0 e)
        | no g ↦ kept_label 0 m (omega arith) (f m h (omega arith))
      ]

  first_more : (l : ℕ) (best : Found) → N (p ++ (c ∷ [])) l → First N p best → First N (p ++ (c ∷ [])) (better (suc (length p)) l best)
  first_more zero Stuck e f = none_more 0 e f
  first_more zero (Word n r) e f =
      (f.0, omega (arith, f.1, length_more p c), kept_label (suc r) n f.1 f.2, none_more n e f.3)
  first_more (suc r) best e f =
      (omega arith, omega (arith, length_more p c), last_label (suc r) e, λ m h k. absurd (omega (arith, length_more p c)))

-- a walk whose states' marks are the labels of what was read finds the first word
module _ {S : Type 0} (go : S → ℕ → S) (mark : S → ℕ) (N : Text → ℕ → Type 0) where
  pub scan_first : (w p : Text) (s : S) (best : Found) → ((v : Text) → N (p ++ v) (mark (reach go s v))) → First N p best
      → First N (p ++ w) (scan go mark s w (length p) best)
  unfolding scan
  scan_first [] p s best f b = rw (append-nil p) b
  scan_first (c ∷ w) p s best f b =
      let q = p ++ (c ∷ []) in
      let marked : (v : Text) → N (q ++ v) (mark (reach go (go s c) v)) = λ v. rw (append_assoc p (c ∷ []) v) (f (c ∷ v)) in
      let now : N q (mark (go s c)) = f (c ∷ []) in
      let more = scan_first w q (go s c) (better (suc (length p)) (mark (go s c)) best) marked (first_more N p c (mark (go s c)) best now b) in
      rw (length_more p c) at (rw (append_assoc p (c ∷ []) w) at more)

  pub scan_finds : (w : Text) (s : S) → ((v : Text) → N v (mark (reach go s v))) → First N w (scan go mark s w 0 Stuck)
  scan_finds w s f = scan_first w [] s Stuck f (λ m h k. absurd (omega arith))

-- for derivatives
reach_derive : (rs : List Re) (w : Text) → reach (λ v c. derive_all c v) rs w ≡ derive_by rs w
reach_derive rs [] = refl
reach_derive rs (c ∷ w) = reach_derive (derive_all c rs) w

pub first_word_lem : (rs : List Re) (text : Text) → FirstWord rs text (first_word rs text)
first_word_lem rs text =
    scan_finds (λ v c. derive_all c v) label (Names rs) text (start rs)
    (λ w. rw (reach_derive (start rs) w) (names_after rs w))

pub one_first_word : (rs : List Re) (text : Text) (f g : Found) → FirstWord rs text f → FirstWord rs text g → f ≡ g
one_first_word rs text = first_one (Names rs) (names_one rs) text
