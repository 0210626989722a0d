-- The comparison by cuts: where the labels of all non-empty texts agree, book and table cut every text alike; and a non-empty text whose labels
-- differ they cut differently, since the side that labels it takes all of it for its first word. So all texts before the shown one are cut alike.
use Rattle.std.specs.Prelude.{ℕ, zero, suc, ◌<◌, ◌≤◌, ◌≡◌, refl, Bool, true, false, List, [], ◌∷◌, eqb, length, take, drop}
use Rattle.std.proofs.Common.{sym, ap, subst, ◌∙◌, arith, eqb-true, length-take, take_all}
use Rattle.std.proofs.lemmas.Bool.{eqb-false}
use Rattle.number.specs.Numbers.{Bytes}
use Rattle.meaning.specs.Re.{Re, Text}
use Rattle.meaning.specs.Rules.{Names, label_after}
use Rattle.meaning.proofs.RulesMean.{names_after, names_one}
use Rattle.meaning.specs.Words.{Found, First, FirstWord}
use Rattle.meaning.specs.Words.Found.{Stuck, Word as Found·word}
use Rattle.meaning.proofs.WordsMean.{first_one, first_alike, first_whole}
use Rattle.table.specs.Table.{Table}
use Rattle.cutting.specs.declared.Word.{Word}
use Rattle.cutting.specs.Steps.{label_of, Labels, FirstBy, first_by}
use Rattle.cutting.specs.Cut.{Cut, word_at, Cuts, cut_by}
use Rattle.cutting.specs.Cut.Cuts.{stuck, word}
use Rattle.cutting.specs.CutLaws.{by_table, cut_is, cut_alike, bytes_take, bytes_drop}
use Rattle.walk.specs.Texts.{Sooner}
use Rattle.walk.specs.TextLaws.{sooner_self, not_later_sooner, sooner_drop, sooner_take}
use Rattle.verdict.specs.Demand.{CutAlike, WholeAlike}
use Rattle.verdict.specs.CompareLaws.{Agree, Shown}

-- ---- the first word of a cut

-- the words begin with this one
abbrev BeginsWith : Word → List Word → Type 0
BeginsWith y [] = ⊥
BeginsWith y (z ∷ zs) = z ≡ y

no_word : {n r : ℕ} → ◌≡◌ {A = Found} Stuck (Found·word n r) → ⊥
no_word e = let z : ◌≡◌ {A = ℕ} 0 1 = cc in omega arith

word_at_lem : {n m r s : ℕ} (at : ℕ) → ◌≡◌ {A = Found} (Found·word n r) (Found·word m s) → word_at at n r ≡ word_at at m s
word_at_lem {n} {m} {r} {s} at e =
    let l : n ≡ m = cc in
    let k : r ≡ s = cc in
    λ i. word_at at (l i) (k i)

module _ (F : Text → Found → Type 0) where
  -- a cut begins with the first word, and what it begins with is the first word
  word_first : (one : (text : Text) (f g : Found) → F text f → F text g → f ≡ g) {k at c : ℕ} {w : Text} {x : Cut} (n r : ℕ) → F (c ∷ w) (Found·word n r)
      → Cuts F (suc k) at (c ∷ w) x → BeginsWith (word_at at n r) x.words
  word_first one n r p (stuck room at c w q) = no_word (one (c ∷ w) Stuck (Found·word n r) q p)
  word_first one n r p (word room at c w m s rest q d) = word_at_lem at (one (c ∷ w) (Found·word m s) (Found·word n r) q p)

  first_of_cut : {k at c : ℕ} {w : Text} {x : Cut} (n r : ℕ) → Cuts F (suc k) at (c ∷ w) x → BeginsWith (word_at at n r) x.words → F (c ∷ w) (Found·word n r)
  first_of_cut n r (stuck room at c w q) h = absurd h
  first_of_cut n r (word room at c w m s rest q d) h =
      let l : m ≡ n = ap (λ (y : Word). y.len) h in
      let k : s ≡ r = ap (λ (y : Word). y.rule) h in
      subst (λ (i : ℕ). F (c ∷ w) (Found·word i r)) l (subst (λ (i : ℕ). F (c ∷ w) (Found·word m i)) k q)

-- a cut that both have: what one labels, the other labels so
module _ (N M : Text → ℕ → Type 0) (only : (w : Text) (l m : ℕ) → N w l → N w m → l ≡ m) where
  label_shared : (text : Text) (r : ℕ) → 0 < length text → N text (suc r) → (x : Cut) → Cuts (First N) (length text) 0 text x
      → Cuts (First M) (length text) 0 text x → M text (suc r)
  label_shared [] r l p x a b = absurd (omega arith)
  label_shared (c ∷ w) r l p x a b =
      let n = length (c ∷ w) in
      let h = word_first (First N) (first_one N only) n r (first_whole N (c ∷ w) r l p) a in
      let f = first_of_cut (First M) n r b h in
      rw (take_whole (c ∷ w)) at f.2
    where
      take_whole : (u : Text) → take (length u) u ≡ u
      take_whole u = take_all (length u) u (omega arith)

module _ (rs : List Re) (t : Table) where
  -- ---- from labels to cuts

  module _ (P : Text → Type 0) (dropped : (n : ℕ) (text : Text) → P text → P (drop n text))
      (agree : (text : Text) → P text → (m : ℕ) → 0 < m → m ≤ length text → label_after rs (take m text) ≡ label_of t (take m text)) where
    to_book : (text : Text) → P text → (f : Found) → FirstBy t text f → FirstWord rs text f
    to_book text p =
        first_alike (Labels t) (Names rs) text
        (λ m l h k q. subst (Names rs (take m text)) (agree text p m h k ∙ q) (names_after rs (take m text)))

    alike_on : (room at : ℕ) (text : Text) → P text → CutAlike rs t room at text
    alike_on room at text p =
        let c = cut_is (by_table t) room at text in
        (cut_by (first_by t) room at text, cut_alike (FirstBy t) (FirstWord rs) P dropped to_book p c, c)

  pub cuts_agree : Agree rs t → (room at : ℕ) (text : Text) → Bytes text → CutAlike rs t room at text
  cuts_agree a =
      alike_on Bytes bytes_drop (λ text b m l k. a (take m text) (bytes_take m text b) (omega (arith, length-take m text)))

  -- ---- from cuts to labels

  pub cuts_label : (text : Text) → 0 < length text → WholeAlike rs t text → label_after rs text ≡ label_of t text
  cuts_label text l (x, by_book, by_table) = go (label_after rs text) refl (label_of t text) refl
    where
      only : (w : Text) (l m : ℕ) → Labels t w l → Labels t w m → l ≡ m
      only w l m p q = sym p ∙ q

      go : (i : ℕ) → label_after rs text ≡ i → (j : ℕ) → label_of t text ≡ j → i ≡ j
      go zero e zero d = refl
      go (suc r) e j d =
          sym (label_shared (Names rs) (Labels t) (names_one rs) text r l (subst (Names rs text) e (names_after rs text)) x by_book by_table) ∙ d
      go zero e (suc r) d =
          names_one rs text 0 (suc r) (subst (Names rs text) e (names_after rs text)) (label_shared (Labels t) (Names rs) only text r l d x by_table by_book)

  -- ---- the shown text

  module _ (text : Text) (b s : ℕ) (shown : Shown rs t text b s) where
    pub shown_cuts : WholeAlike rs t text → ⊥
    shown_cuts a = shown.differ (sym shown.by_book ∙ cuts_label text shown.some a ∙ shown.by_table)

    -- texts sooner than it
    record Before (w : Text) : Type 0 where
      is_text : Bytes w
      before : Sooner w text

    before_drop : (n : ℕ) (w : Text) → Before w → Before (drop n w)
    before_drop n w p = record { is_text = bytes_drop n w p.is_text; before = sooner_drop n w p.before }

    before_agree : (w : Text) → Before w → (m : ℕ) → 0 < m → m ≤ length w → label_after rs (take m w) ≡ label_of t (take m w)
    before_agree w p m l k = go (eqb (label_after rs u) (label_of t u)) refl
      where
        u : Text
        u = take m w

        go : (e : Bool) → eqb (label_after rs u) (label_of t u) ≡ e → label_after rs u ≡ label_of t u
        go true e = eqb-true (label_after rs u) (label_of t u) e
        go false e =
            let f = shown.first u (bytes_take m w p.is_text) (omega (arith, length-take m w)) (eqb-false (label_after rs u) (label_of t u) e) in
            absurd (sooner_self (not_later_sooner f (sooner_take m w p.before)))

    -- they are cut alike
    pub shown_first : (w : Text) → Bytes w → Sooner w text → (room at : ℕ) → CutAlike rs t room at w
    shown_first w k q room at = alike_on Before before_drop before_agree room at w (record { is_text = k; before = q })
