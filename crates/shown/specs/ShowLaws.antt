-- Laws of what is shown once the walk is finished: the search for the first item whose labels differ, and the text of that item.
-- What remains to be searched has the same answer as the whole; a text is that of the item it was found from, and one byte.
use Rattle.std.specs.Prelude.{ℕ, zero, suc, ◌+◌, ◌-◌, ◌<◌, ◌≤◌, ◌≡◌, refl, Bool, true, false, cond, eqb, drop, set, replicate, Some, None}
use Rattle.std.proofs.Math.Path.{sym, ap}
use Rattle.std.proofs.Common.{◌∙◌, add-one, zero-add, arith, eq-eqb, ne_eqb, length-append, length-set, drop_of_length-le, drop-cons}
use mathlib.Core.List.{List, [], ◌∷◌, ◌++◌, append_assoc}
use Rattle.std.proofs.Math.ListN.{length, get_or}
use Rattle.number.specs.Lists.{written, drop_written, stored_one, Writes, writes_none}
use Rattle.meaning.specs.Re.{Text}
use Rattle.meaning.specs.Rules.{label}
use Rattle.table.specs.Table.{Table}
use Rattle.table.specs.Calls.{padded}
use Rattle.walk.specs.Walk.{none}
use Rattle.walk.specs.TextLaws.{length_snoc}
use Rattle.vector.specs.Layout.{sheets_at, parents_at, bytes_at}
use Rattle.vector.specs.Vectors.{vector_of}
use Rattle.vector.specs.Memory.{numbers_at, text_by, text_of, items_of}
use Rattle.vector.specs.MemoryLaws.{items_length, items_at}
use Rattle.vector.specs.MemoryLaws.{first_text}
use Rattle.shown.specs.declared.Seen.{Seen}
use Rattle.verdict.specs.Compare.{state_of, first_differing}
use Rattle.verdict.specs.Compare.Verdict.{Differs as Verdict·differs}
use Rattle.shown.specs.Promises.{Sees, Traced, Blank, Shows}

-- ---- the search

-- the first k items agree, so the answer is that of the others
abbrev pub Left : List ℕ → ℕ → ℕ → List ℕ → ℕ → Type 0
Left s n count labels k = (t : Table) → t.labels ≡ labels → first_differing t (drop 1 (items_of s n count)) ≡ first_differing t (drop k (items_of s n count))

module _ (s : List ℕ) (n count : ℕ) (labels : List ℕ) where
  pub left_first : Left s n count labels 1
  left_first t e = refl

  pub left_none : (k : ℕ) → count ≤ k → Left s n count labels k → Sees s n count labels None
  unfolding first_differing
  left_none k l f t e =
      let over : length (items_of s n count) ≤ k = omega (arith, items_length s n count) in
      f t e ∙ ap (first_differing t) (drop_of_length-le (items_of s n count) over)

  module _ (k : ℕ) (inside : k < count) (left : Left s n count labels k) (book : ℕ) (by_book : book ≡ label (vector_of s n (numbers_at s k)))
      (sheet : ℕ) (by_table : sheet ≡ get_or labels (state_of (get_or s (sheets_at + k) 0)) 0) where
    -- item k comes next, with these labels
    next : (t : Table) → t.labels ≡ labels
        → first_differing t (drop 1 (items_of s n count))
        ≡ cond (eqb book sheet) (first_differing t (drop (suc k) (items_of s n count))) (Verdict·differs (text_of s k) book sheet)
    unfolding first_differing
    next t e =
        let l : k < length (items_of s n count) = omega (arith, items_length s n count) in
        let q : get_or t.labels (state_of (get_or s (sheets_at + k) 0)) 0 ≡ sheet = ap (λ (xs : List ℕ). get_or xs (state_of (get_or s (sheets_at + k) 0)) 0) e ∙ sym by_table in
        left t e ∙ rw (drop-cons (items_of s n count) k none l, items_at s n count k inside, first_differing, q, ← by_book)

    pub left_next : book ≡ sheet → Left s n count labels (k + 1)
    left_next e t q = next t q ∙ rw (eq-eqb book sheet e, add-one)

    pub left_found : (book ≡ sheet → ⊥) → Sees s n count labels (Some (record { item = k; by_book = book; by_table = sheet }))
    left_found d = (inside, λ t q. next t q ∙ rw (ne_eqb book sheet d))

-- ---- the text

-- a text is no longer than the steps back that were allowed for it
pub text_short : (f : ℕ) (s : List ℕ) (k : ℕ) → length (text_by f s k) ≤ f
unfolding text_by
text_short zero s k = omega arith
text_short (suc f) s k = go (eqb k 0) (text_short f s (get_or s (parents_at + k) 0))
  where
    go : (b : Bool) → length (text_by f s (get_or s (parents_at + k) 0)) ≤ f
        → length (cond b [] (text_by f s (get_or s (parents_at + k) 0) ++ (get_or s (bytes_at + k) 0 ∷ []))) ≤ suc f
    go true h = omega arith
    go false h = omega (arith, length_snoc (text_by f s (get_or s (parents_at + k) 0)) (get_or s (bytes_at + k) 0))

-- the first item has the empty text, any other that of its parent and its byte
text_step : (f : ℕ) (s : List ℕ) (k : ℕ) → (k ≡ 0 → ⊥) → text_by (suc f) s k ≡ text_by f s (get_or s (parents_at + k) 0) ++ (get_or s (bytes_at + k) 0 ∷ [])
unfolding text_by
text_step f s k d = rw (ne_eqb k 0 d)

text_cases : (f g : ℕ) (s : List ℕ) (k : ℕ) → (0 < k → get_or s (parents_at + k) 0 < k) → ((j : ℕ) → j < k → text_by f s j ≡ text_by g s j)
    → text_by (suc f) s k ≡ text_by (suc g) s k
text_cases f g s zero p ih = first_text (suc f) s ∙ sym (first_text (suc g) s)
text_cases f g s (suc k) p ih =
    text_step f s (suc k) (λ z. omega arith)
    ∙ ap (λ (u : Text). u ++ (get_or s (bytes_at + suc k) 0 ∷ [])) (ih (get_or s (parents_at + suc k) 0) (p (omega arith)))
    ∙ sym (text_step g s (suc k) (λ z. omega arith))

-- steps enough are enough
text_enough : (f g : ℕ) (s : List ℕ) (count k : ℕ) → Traced s count → k < count → k ≤ f → k ≤ g → text_by f s k ≡ text_by g s k
text_enough zero g s count k ok h l m = let e : k ≡ 0 = omega arith in rw e (first_text 0 s ∙ sym (first_text g s))
text_enough (suc f) zero s count k ok h l m = let e : k ≡ 0 = omega arith in rw e (first_text (suc f) s ∙ sym (first_text 0 s))
text_enough (suc f) (suc g) s count k ok h l m =
    text_cases f g s k (λ o. ok.parents k o h) (λ j o. text_enough f g s count j ok (omega arith) (omega arith) (omega arith))

text_next : {s : List ℕ} {count : ℕ} (k : ℕ) → Traced s count → 0 < k → k < count
    → text_of s k ≡ text_of s (get_or s (parents_at + k) 0) ++ (get_or s (bytes_at + k) 0 ∷ [])
text_next zero ok some inside = absurd (omega arith)
text_next {s} {count} (suc k) ok some inside =
    let p = ok.parents (suc k) some inside in
    text_step k s (suc k) (λ z. omega arith)
    ∙ ap (λ (u : Text). u ++ (get_or s (bytes_at + suc k) 0 ∷ []))
    (text_enough k (get_or s (parents_at + suc k) 0) s count (get_or s (parents_at + suc k) 0) ok (omega arith) (omega arith) (omega arith))

-- a step back is a byte
pub text_longer : {s : List ℕ} {count : ℕ} (k : ℕ) → Traced s count → 0 < k → k < count
    → length (text_of s k) ≡ suc (length (text_of s (get_or s (parents_at + k) 0)))
text_longer {s} k ok some inside =
    ap length (text_next k ok some inside) ∙ length_snoc (text_of s (get_or s (parents_at + k) 0)) (get_or s (bytes_at + k) 0)

pub traced_less : {s : List ℕ} {count : ℕ} (count' : ℕ) → Traced s count → count' ≤ count → Traced s count'
traced_less count' ok h = record {
  long = ok.long;
  few = omega (arith, ok.few);
  parents = λ k l m. ok.parents k l (omega arith);
  text_bytes = λ k l. ok.text_bytes k (omega arith);
}

-- a run of bytes in front of one that was written before it
written_back : (s v w : List ℕ) → length v ≤ length s → written (written s (length v) w) 0 v ≡ written s 0 (v ++ w)
unfolding written
written_back s v w h =
    ap (λ (n : ℕ). v ++ drop n (written s (length v) w)) (zero-add (length v))
    ∙ ap (λ (l : List ℕ). v ++ l) (drop_written s (length v) w h)
    ∙ simp (length-append, append_assoc, zero-add)

-- as a text is written from its end to its front: the area lacks the text of an item, of so many bytes, and with it has what was asked
pub record Lacks (s : List ℕ) (k : ℕ) (asked area : List ℕ) (item left : ℕ) : Type 0 where
  pub before : item ≤ k
  pub text : left ≡ length (text_of s item)
  pub same : length area ≡ length asked
  pub whole : written area 0 (text_of s item) ≡ written asked 0 (text_of s k)

pub lacks_all : (s : List ℕ) (k : ℕ) (area : List ℕ) (len : ℕ) → len ≡ length (text_of s k) → Lacks s k area area k len
lacks_all s k area len e = record { before = omega arith; text = e; same = refl; whole = refl }

module _ {s : List ℕ} {k : ℕ} {asked area : List ℕ} {item left : ℕ} (l : Lacks s k asked area item left) where
  pub lacks_none : (len : ℕ) → item ≡ 0 → len ≡ length (text_of s k) → Writes (text_of s k) asked area 0 len
  lacks_none len e size =
      let last : written area 0 (text_of s item) ≡ area = rw (e, first_text 0 s) (sym (writes_none area 0).out) in
      record { place = omega (arith, size); out = sym last ∙ l.whole }

  module _ (ok : Traced s (k + 1)) (enough : k ≤ length asked) (some : 0 < item) where
    abbrev parent : ℕ
    parent = get_or s (parents_at + item) 0

    shorter : left ≡ suc (length (text_of s parent))
    shorter = l.text ∙ text_longer item ok some (omega (arith, l.before))

    -- there is a last byte, and a place for it
    pub lacks_place : (0 < left) × (left ≤ length area)
    lacks_place = (omega (arith, shorter), omega (arith, l.text, l.before, l.same, text_short item s item))

    pub lacks_next : Lacks s k asked (set area (left - 1) (get_or s (bytes_at + item) 0)) parent (left - 1)
    lacks_next =
        let byte : ℕ = get_or s (bytes_at + item) 0 in
        let place : left - 1 ≡ length (text_of s parent) = omega (arith, shorter) in
        let stored : set area (left - 1) byte ≡ written area (length (text_of s parent)) (byte ∷ []) =
        stored_one area (left - 1) byte (omega (arith, lacks_place)) ∙ ap (λ (n : ℕ). written area n (byte ∷ [])) place in
        record {
          before = omega (arith, ok.parents item some (omega (arith, l.before)), l.before);
          text = place;
          same = simp length-set l.same;
          whole =
              ap (λ (t : List ℕ). written t 0 (text_of s parent)) stored
              ∙ written_back area (text_of s parent) (byte ∷ []) (omega (arith, place, lacks_place))
              ∙ ap (written area 0) (sym (text_next item ok some (omega (arith, l.before)))) ∙ l.whole;
        }

-- ---- the answer

drop_zeros : (m k : ℕ) → ◌≡◌ {A = List ℕ} (drop k (replicate m 0)) (replicate (m - k) 0)
drop_zeros m zero = ap (λ (x : ℕ). replicate x 0) (let e : m ≡ m - 0 = omega arith in e)
drop_zeros zero (suc k) = ap (λ (x : ℕ). replicate x 0) (let e : 0 ≡ 0 - suc k = omega arith in e)
drop_zeros (suc m) (suc k) = drop_zeros m k ∙ ap (λ (x : ℕ). replicate x 0) (let e : m - k ≡ suc m - suc k = omega arith in e)

-- a text written to a blank area is the text, and the rest of the area 0
written_padded : (area w : List ℕ) → Blank area → written area 0 w ≡ padded (length area) w
unfolding written
written_padded area w b =
    ap (λ (l : List ℕ). w ++ l)
    (ap (drop (0 + length w)) b.clear ∙ ap (λ (x : ℕ). drop x (replicate (length area) 0)) (zero-add (length w)) ∙ drop_zeros (length area) (length w))

module _ (s : List ℕ) (n count : ℕ) (labels area : List ℕ) (blank : Blank area) where
  pub shows_same : Sees s n count labels None → Shows s n count labels area area None
  shows_same sees = record { shows = λ t q. record { answer = rw (sees t q) refl; text = rw (sees t q) blank.clear } }

  module _ (x : Seen) (sees : Sees s n count labels (Some x)) where
    pub shows_inside : x.item < count
    shows_inside = sees.0

    pub shows_differs : (area' : List ℕ) (len : ℕ) → Writes (text_of s x.item) area area' 0 len
        → Shows s n count labels area area' (Some (record { len = len; by_book = x.by_book; by_table = x.by_table }))
    shows_differs area' len w = record {
      shows = λ t q.
          let v = sees.1 t q in
          let m : len ≡ length (text_of s x.item) = omega (arith, w.place) in
          record { answer = rw (v, m) refl; text = w.out ∙ written_padded area (text_of s x.item) blank ∙ rw v refl };
    }
