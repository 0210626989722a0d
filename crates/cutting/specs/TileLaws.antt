-- There are no more words than records and than bytes; cutting on from a full list is cutting the rest, and a cut that was not full needs no more records.
-- With a record for each byte no cut is full. For whatever finds the first word.
use Rattle.std.specs.Prelude.{ℕ, suc, ◌+◌, ◌-◌, ◌<◌, ◌≤◌, ◌≡◌, refl, List, ◌∷◌, length, drop}
use Rattle.std.proofs.Common.{add_comm, arith, sym, ap, ◌∙◌, length-drop, drop-drop}
use Rattle.meaning.specs.Re.{Text}
use Rattle.meaning.specs.Words.{Found}
use Rattle.cutting.specs.declared.Word.{Word}
use Rattle.cutting.specs.Cut.{Ending, Cut, Cuts, cut_by}
use Rattle.cutting.specs.Cut.Ending.{Done, StuckAt, FullAt}
use Rattle.cutting.specs.Cut.Cuts.{done, stuck, full, word}
use Rattle.cutting.specs.CutLaws.{Finds, cut_is, cut_one}
use Rattle.cutting.specs.Tiles.{Finished, then, On}

-- ---- endings

-- finished is not full
pub not_full : (e : Ending) → ((p : ℕ) → e ≡ FullAt p → ⊥) → Finished e
not_full Done n = tt
not_full (StuckAt p) n = tt
not_full (FullAt p) n = n p refl

full_place : {p q : ℕ} → FullAt p ≡ FullAt q → p ≡ q
full_place e = cc

finished_not : (e : Ending) → Finished e → (p : ℕ) → e ≡ FullAt p → ⊥
finished_not e f p d = rw d at f

-- ---- how far a cut comes

-- no more words than records
pub cut_few : {F : Text → Found → Type 0} {room at : ℕ} {text : Text} {x : Cut} → Cuts F room at text x → length x.words ≤ room
cut_few (done room at) = omega arith
cut_few (stuck room at c w p) = omega arith
cut_few (full at c w n r p) = omega arith
cut_few (word room at c w n r x p d) = let h = cut_few d in omega arith

-- a full cut has come to a place within the text, past a byte for each record and for each word
pub record Further (at room : ℕ) (text : Text) (ws : List Word) (p : ℕ) : Type 0 where
  pub records : at + room ≤ p
  pub words : at + length ws ≤ p
  pub within : p < at + length text

module _ {F : Text → Found → Type 0} {first : Text → Found} (by : Finds F first) where
  -- no more words than bytes
  pub words_few : {room at : ℕ} {text : Text} {x : Cut} → Cuts F room at text x → length x.words ≤ length text
  words_few (done room at) = omega arith
  words_few (stuck room at c w p) = omega arith
  words_few (full at c w n r p) = omega arith
  words_few (word room at c w n r x p d) = omega (arith, words_few d, length-drop n (c ∷ w), (by.proper (c ∷ w) n r p).0)

  pub full_on : {room at : ℕ} {text : Text} {x : Cut} → Cuts F room at text x → (p : ℕ) → x.ending ≡ FullAt p → Further at room text x.words p
  full_on (done room at) p e = absurd (finished_not Done tt p e)
  full_on (stuck room at c w q) p e = absurd (finished_not (StuckAt at) tt p e)
  full_on (full at c w n r q) p e =
      let z = full_place e in
      record { records = omega (arith, z); words = omega (arith, z); within = omega (arith, z) }
  full_on (word room at c w n r x q d) p e =
      let f = full_on d p e in
      let b = by.proper (c ∷ w) n r q in
      let l = length-drop n (c ∷ w) in
      record {
        records = omega (arith, f.records, b.0);
        words = omega (arith, f.words, b.0);
        within = omega (arith, f.within, b.1, l);
      }

  -- ---- more records

  more : (k : ℕ) {room at : ℕ} {text : Text} {x : Cut} → Cuts F room at text x → Finished x.ending → Cuts F (room + k) at text x
  more k (done room at) f = done (room + k) at
  more k (stuck room at c w p) f = stuck (room + k) at c w p
  more k (full at c w n r p) f = absurd f
  more k (word room at c w n r x p d) f =
      let s : suc room + k ≡ suc (room + k) = omega arith in
      rw s (word (room + k) at c w n r x p (more k d f))

  -- a cut that is not full is the same with more records
  pub cut_enough : (m k at : ℕ) (text : Text) → Finished (cut_by first m at text).ending → cut_by first (m + k) at text ≡ cut_by first m at text
  cut_enough m k at text f = cut_one by (cut_is by (m + k) at text) (more k (cut_is by m at text) f)

  -- behind a full one stands what is left at its place
  behind : (k p : ℕ) (y : Cut) {room at : ℕ} {text : Text} {x : Cut} → Cuts F room at text x → x.ending ≡ FullAt p
      → Cuts F k p (drop (p - at) text) y → Cuts F (room + k) at text (then x y)
  behind k p y (done room at) e rest = absurd (finished_not Done tt p e)
  behind k p y (stuck room at c w q) e rest = absurd (finished_not (StuckAt at) tt p e)
  behind k p y (full at c w n r q) e rest =
      let z : p - at ≡ 0 = omega (arith, full_place e) in
      let s : 0 + k ≡ k = omega arith in
      rw (s, full_place e) (rw z at rest)
  behind k p y (word room at c w n r x q d) e rest =
      let s : suc room + k ≡ suc (room + k) = omega arith in
      let far : p - at ≡ n + (p - (at + n)) = omega (arith, (full_on d p e).records) in
      let there : drop (p - at) (c ∷ w) ≡ drop (p - (at + n)) (drop n (c ∷ w)) = ap (λ (i : ℕ). drop i (c ∷ w)) far ∙ sym (drop-drop _ n (c ∷ w)) in
      rw s (word (room + k) at c w n r (then x y) q (behind k p y d e (rw there at rest)))

  -- so a full one goes on from there
  pub cut_on : (m k at : ℕ) (text : Text) (p : ℕ) → (cut_by first m at text).ending ≡ FullAt p → On first m k at text p
  cut_on m k at text p e =
      let c = cut_is by m at text in
      let rest = cut_is by k p (drop (p - at) text) in
      record {
        onward = omega (arith, (full_on c p e).records);
        goes_on = cut_one by (cut_is by (m + k) at text) (behind k p (cut_by first k p (drop (p - at) text)) c e rest);
      }

  -- ---- a record for each byte

  module _ (k at : ℕ) (text : Text) (enough : length text ≤ k) where
    pub never_full : (p : ℕ) → (cut_by first k at text).ending ≡ FullAt p → ⊥
    never_full p e = let f = full_on (cut_is by k at text) p e in omega (arith, f.records, f.within)

    -- more records change nothing
    pub cut_ample : (m : ℕ) → cut_by first (m + k) at text ≡ cut_by first k at text
    cut_ample m =
        ap (λ (j : ℕ). cut_by first j at text) (add_comm m k) ∙ cut_enough k m at text (not_full (cut_by first k at text).ending never_full)

    pub cut_over : (m : ℕ) → Finished (cut_by first m at text).ending → cut_by first m at text ≡ cut_by first k at text
    cut_over m f = sym (cut_enough m k at text f) ∙ cut_ample m
