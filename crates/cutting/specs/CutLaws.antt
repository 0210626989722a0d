-- What finds a first word, and that a text has exactly one cut by it, which cut_by works out.
-- All for any first-word relation with one answer, so for tables and for the textbook alike.
use Prim.Native.Nat.{ℕ, zero, suc, ◌+◌, ◌-◌, ◌<◌, ◌≤◌}
use Rattle.std.proofs.Common.{arith, sym, subst, ◌∙◌, length-take, length-drop, get_or-take, get_or-drop}
use Rattle.std.specs.Prelude.{◌≡◌, refl, ◌↔◌, length, take, drop}
use mathlib.Core.List.{List, [], ◌∷◌}
use Rattle.number.specs.Numbers.{Bytes}
use Rattle.meaning.specs.Re.{Re, Text}
use Rattle.meaning.specs.Words.{Found, FirstWord, first_word}
use Rattle.meaning.specs.Words.Found.{Stuck, Word as Found·word}
use Rattle.meaning.proofs.WordsMean.{first_one, scan_finds, first_word_lem, one_first_word}
use Rattle.table.specs.Table.{Table}
use Rattle.cutting.specs.Steps.{step_in, label_at, Labels, FirstBy, first_by}
use Rattle.cutting.specs.Cut.{Cut, word_at, ends, before, Cuts, cut_by}
use Rattle.cutting.specs.Cut.Ending.{StuckAt, FullAt}
use Rattle.cutting.specs.Cut.Cuts.{done, stuck, full, word}

-- ---- what finds a first word

-- F says of a text what its first word is: one answer, which `first` works out; a word has bytes and lies in the text
pub record Finds (F : Text → Found → Type 0) (first : Text → Found) : Type 0 where
  pub found : (text : Text) → F text (first text)
  pub one : (text : Text) (f g : Found) → F text f → F text g → f ≡ g
  pub proper : (text : Text) (n r : ℕ) → F text (Found·word n r) → (0 < n) × (n ≤ length text)

-- a table does, and so does the textbook
pub by_table : (t : Table) → Finds (FirstBy t) (first_by t)
unfolding first_by
by_table t = record {
  found = λ text. scan_finds (step_in t) (label_at t) (Labels t) text 0 (λ w. refl);
  one = first_one (Labels t) (λ w l m p q. sym p ∙ q);
  proper = λ text n r p. (p.0, p.1);
}

pub by_rules : (rs : List Re) → Finds (FirstWord rs) (first_word rs)
by_rules rs = record { found = first_word_lem rs; one = one_first_word rs; proper = λ text n r p. (p.0, p.1) }

-- a word that was found lies in the text
pub found_fits : {F : Text → Found → Type 0} {first : Text → Found} → Finds F first → (text : Text) (at n r : ℕ)
    → Found·word n r ≡ first (drop at text) → n ≤ length text - at
found_fits by text at n r e = omega (arith, (by.proper (drop at text) n r (rw (← e) at (by.found (drop at text)))).1, length-drop at text)

-- ---- one cut, and it is cut_by

no_word : {n r : ℕ} → ◌≡◌ {A = Found} Stuck (Found·word n r) → ⊥
no_word e = let z : ◌≡◌ {A = ℕ} 0 1 = cc in omega arith

word_length : {n m r s : ℕ} → ◌≡◌ {A = Found} (Found·word n r) (Found·word m s) → n ≡ m
word_length e = cc

word_rule : {n m r s : ℕ} → ◌≡◌ {A = Found} (Found·word n r) (Found·word m s) → r ≡ s
word_rule e = cc

module _ {F : Text → Found → Type 0} {first : Text → Found} (by : Finds F first) where
  pub cut_is : (room at : ℕ) (text : Text) → Cuts F room at text (cut_by first room at text)
  unfolding cut_by
  cut_is zero at [] = done zero at
  cut_is zero at (c ∷ w) = go (first (c ∷ w)) (by.found (c ∷ w))
    where
      go : (f : Found) → F (c ∷ w) f → Cuts F zero at (c ∷ w) (elim f as (λ _. Cut) [ Stuck ↦ ends (StuckAt at) | Found·word n r ↦ ends (FullAt at) ])
      go Stuck p = stuck zero at c w p
      go (Found·word n r) p = full at c w n r p
  cut_is (suc room) at [] = done (suc room) at
  cut_is (suc room) at (c ∷ w) = go (first (c ∷ w)) (by.found (c ∷ w)) (cut_is room)
    where
      go : (f : Found) → F (c ∷ w) f → ((at : ℕ) (text : Text) → Cuts F room at text (cut_by first room at text))
          → Cuts F (suc room) at (c ∷ w)
          (elim f as (λ _. Cut) [ Stuck ↦ ends (StuckAt at) | Found·word n r ↦ before (word_at at n r) (cut_by first room (at + n) (drop n (c ∷ w))) ])
      go Stuck p ih = stuck (suc room) at c w p
      go (Found·word n r) p ih = word room at c w n r (cut_by first room (at + n) (drop n (c ∷ w))) p (ih (at + n) (drop n (c ∷ w)))

  pub cut_one : {room at : ℕ} {text : Text} {x y : Cut} → Cuts F room at text x → Cuts F room at text y → x ≡ y
  cut_one (done room at) (done _ _) = refl
  cut_one (stuck room at c w p) (stuck _ _ _ _ q) = refl
  cut_one (stuck room at c w p) (full _ _ _ n r q) = absurd (no_word (by.one (c ∷ w) Stuck (Found·word n r) p q))
  cut_one (stuck room at c w p) (word _ _ _ _ n r x q d) = absurd (no_word (by.one (c ∷ w) Stuck (Found·word n r) p q))
  cut_one (full at c w n r p) (stuck _ _ _ _ q) = absurd (no_word (by.one (c ∷ w) Stuck (Found·word n r) q p))
  cut_one (full at c w n r p) (full _ _ _ m s q) = refl
  cut_one (word room at c w n r x p d) (stuck _ _ _ _ q) = absurd (no_word (by.one (c ∷ w) Stuck (Found·word n r) q p))
  cut_one (word room at c w n r x p d) (word _ _ _ _ m s y q e) =
      let f = by.one (c ∷ w) (Found·word n r) (Found·word m s) p q in
      let l : n ≡ m = word_length f in
      let k : r ≡ s = word_rule f in
      let e' : Cuts F room (at + n) (drop n (c ∷ w)) y = subst (λ (i : ℕ). Cuts F room (at + i) (drop i (c ∷ w)) y) (sym l) e in
      let z : x ≡ y = cut_one d e' in
      λ i. before (word_at at (l i) (k i)) (z i)

  pub cut_exactly : (room at : ℕ) (text : Text) (x : Cut) → Cuts F room at text x ↔ (cut_by first room at text ≡ x)
  cut_exactly room at text x = let c = cut_is room at text in (λ d. cut_one c d, λ e. rw (← e) c)

-- first words that are alike, on texts of a kind that dropping keeps, give alike cuts
module _ (F G : Text → Found → Type 0) (P : Text → Type 0) (dropped : (n : ℕ) (text : Text) → P text → P (drop n text))
    (alike : (text : Text) → P text → (f : Found) → F text f → G text f) where
  pub cut_alike : {room at : ℕ} {text : Text} {x : Cut} → P text → Cuts F room at text x → Cuts G room at text x
  cut_alike b (done room at) = done room at
  cut_alike b (stuck room at c w p) = stuck room at c w (alike (c ∷ w) b Stuck p)
  cut_alike b (full at c w n r p) = full at c w n r (alike (c ∷ w) b (Found·word n r) p)
  cut_alike b (word room at c w n r x p d) =
      word room at c w n r x (alike (c ∷ w) b (Found·word n r) p) (cut_alike (dropped n (c ∷ w) b) d)

-- bytes are such a kind
pub bytes_take : (m : ℕ) (w : Text) → Bytes w → Bytes (take m w)
bytes_take m w b i l =
    let n = length-take m w in
    rw (get_or-take m w i 0 (omega arith)) (b i (omega arith))

pub bytes_drop : (n : ℕ) (w : Text) → Bytes w → Bytes (drop n w)
bytes_drop n w b i l =
    let m = length-drop n w in
    rw (get_or-drop n w i 0) (b (n + i) (omega arith))
