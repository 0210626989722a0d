-- Laws of what the work area holds: items by number, and that they stay what they are while the pool grows above its top or another item is stored.
-- In a pool no two terms are equal, so equal vectors have equal numbers and `find` answers the number that walk means.
use Rattle.std.specs.Prelude.{ℕ, zero, suc, ◌+◌, ◌*◌, ◌-◌, ◌<◌, ◌≤◌, ◌≡◌, refl, ◌≢◌, Bool, true, false, cond, Option, Some, None, unwrap_or, List, [], ◌∷◌, ◌++◌, length, get_or, take, drop}
use Rattle.std.proofs.Common.{add-one, arith, sym, ap, ◌∙◌, append_assoc, below_more, length-append, length-take, length-drop, ext_get_or, get_or-take, get_or-drop, length-take-le, drop_at, take_at, take_all}
use Rattle.std.proofs.Math.Decide.{dec_lt}
use Rattle.std.proofs.Math.Dec.{eqb-suc-zero}
use Rattle.std.proofs.Math.ListN.{length-set, get_or-append}
use Rattle.std.proofs.Math.Seq.{paste, get_or-set_same, get_or-set_other, length_paste_head}
use Rattle.std.proofs.lemmas.List.{get_or_at}
use Rattle.std.proofs.lemmas.List.Edits.{drop-paste, length-paste}
use Rattle.number.specs.Limits.{rules, bytes}
use Rattle.meaning.specs.Re.{Re, Text}
use Rattle.meaning.specs.Re.Re.{Nothing}
use Rattle.term.specs.Cells.{term, Sound}
use Rattle.term.specs.CellLaws.{Same, frame, sound_less}
use Rattle.pool.specs.Pooled.{terms_of, Pooled}
use Rattle.pool.specs.PoolLaws.{terms_frame, same_number, pooled, pool_same}
use Rattle.walk.specs.Walk.{Item, none, same_pair, number_in}
use Rattle.walk.specs.StepLaws.{Pair, pair_same, same_pair_lem}
use Rattle.pool.specs.Index.{pool_cells}
use Rattle.vector.specs.Layout.{items, nothing_cell, vectors_at, sheets_at, parents_at, bytes_at}
use Rattle.vector.specs.Vectors.{vector_of, Numbers}
use Rattle.vector.specs.Memory.{numbers_at, text_by, text_of, item_of, items_of, Shaped, Kept}
use Rattle.vector.specs.Promises.{Reads, Spared, Finds, vector_stored, sheet_stored, parent_stored, item_stored}
use Rattle.vector.specs.PlaceLaws.{vector_length, vector_at}

-- ---- vectors

-- numbers of a pool can be read
pub reads : {s : List ℕ} {top n : ℕ} {v : List ℕ} → Sound s top → n ≤ rules → Numbers n top v → Reads s n v
reads ok h m = record { few_rules = h; whole = m.whole; sound = λ i k. sound_less _ ok (omega (arith, m.inside i k)) }

pub numbers_more : {n top : ℕ} {v : List ℕ} (top' : ℕ) → Numbers n top v → top ≤ top' → Numbers n top' v
numbers_more top' m h = record { whole = m.whole; inside = λ i k. omega (arith, m.inside i k); past = m.past }

-- equal vectors of pool terms have equal numbers
pub numbers_equal : (s : List ℕ) (top n : ℕ) (v w : List ℕ) → Pooled s top → n ≤ rules → Numbers n top v → Numbers n top w
    → vector_of s n v ≡ vector_of s n w → v ≡ w
numbers_equal s top n v w p h m o e = ext_get_or 0 v w (m.whole ∙ sym o.whole) (λ i k. at i (omega (arith, m.whole)))
  where
    at : (i : ℕ) → i < rules → get_or v i 0 ≡ get_or w i 0
    at i k = elim (dec_lt i n) [
      | yes l ↦
          let f : term s (get_or v i 0) ≡ term s (get_or w i 0) =
          sym (vector_at s n v i (omega (arith, m.whole)) l) ∙ ap (λ (x : List Re). get_or x i Nothing) e ∙ vector_at s n w i (omega (arith, o.whole)) l in
          same_number s top (get_or v i 0) (get_or w i 0) p (m.inside i l) (o.inside i l) f
      | no l ↦ m.past i (omega arith) k ∙ sym (o.past i (omega arith) k)
    ]

-- the terms of numbers below top are those of the cells below top
pub vector_same_cells : (s s' : List ℕ) (top n : ℕ) (v : List ℕ) → Sound s top → Same s s' top → n ≤ rules → Numbers n top v
    → vector_of s' n v ≡ vector_of s n v
vector_same_cells s s' top n v ok same h m =
    let l : n ≤ length v = omega (arith, m.whole) in
    ext_get_or Nothing (vector_of s' n v) (vector_of s n v) (vector_length s' n v l ∙ sym (vector_length s n v l))
    (λ i k.
    let j : i < n = omega (arith, vector_length s' n v l) in
    vector_at s' n v i l j ∙ frame s s' top (get_or v i 0) ok same (m.inside i j) ∙ sym (vector_at s n v i l j))

-- ---- items by number

pub items_length : (s : List ℕ) (n count : ℕ) → length (items_of s n count) ≡ count
unfolding items_of
items_length s n zero = refl
items_length s n (suc count) = omega (arith, length-append (items_of s n count) (item_of s n count ∷ []), items_length s n count)

pub items_at : (s : List ℕ) (n count k : ℕ) → k < count → get_or (items_of s n count) k none ≡ item_of s n k
unfolding items_of
items_at s n zero k h = absurd (omega arith)
items_at s n (suc count) k h = elim (dec_lt k count) [
  | yes l ↦ get_or-append (items_of s n count) (item_of s n count ∷ []) none k (omega (arith, items_length s n count)) ∙ items_at s n count k l
  | no l ↦
      let e : count ≡ k = omega arith in
      get_or_at (items_of s n count) (item_of s n count) [] none k (items_length s n count ∙ e) ∙ ap (item_of s n) e
]

pub items_next : (s : List ℕ) (n count : ℕ) → items_of s n (count + 1) ≡ items_of s n count ++ (item_of s n count ∷ [])
unfolding items_of
items_next s n count = rw (add-one, items_of)

items_same : (s s' : List ℕ) (n count : ℕ) → ((k : ℕ) → k < count → item_of s' n k ≡ item_of s n k) → items_of s' n count ≡ items_of s n count
unfolding items_of
items_same s s' n zero h = refl
items_same s s' n (suc count) h = rw (items_same s s' n count (λ k l. h k (omega arith)), h count (omega arith))

-- ---- items that stay as they are

-- the cells of the first `count` items are the same
pub record Unmoved (s s' : List ℕ) (count : ℕ) : Type 0 where
  pub numbers : (k : ℕ) → k < count → numbers_at s' k ≡ numbers_at s k
  pub sheets : (k : ℕ) → k < count → get_or s' (sheets_at + k) 0 ≡ get_or s (sheets_at + k) 0
  pub parents : (k : ℕ) → k < count → get_or s' (parents_at + k) 0 ≡ get_or s (parents_at + k) 0
  pub text_bytes : (k : ℕ) → k < count → get_or s' (bytes_at + k) 0 ≡ get_or s (bytes_at + k) 0

-- parents come before
abbrev pub Parents : List ℕ → ℕ → Type 0
Parents s count = (k : ℕ) → 0 < k → k < count → get_or s (parents_at + k) 0 < k

pub first_text : (f : ℕ) (s : List ℕ) → text_by f s 0 ≡ []
unfolding text_by
first_text zero s = refl
first_text (suc f) s = refl

next_text : (f : ℕ) (s : List ℕ) (k : ℕ)
    → text_by (suc f) s (suc k) ≡ text_by f s (get_or s (parents_at + suc k) 0) ++ (get_or s (bytes_at + suc k) 0 ∷ [])
unfolding text_by
next_text f s k = rw (eqb-suc-zero k)

text_step : (f g : ℕ) (s s' : List ℕ) (count k : ℕ) → Unmoved s s' count → k < count → (0 < k → get_or s (parents_at + k) 0 < k)
    → ((j : ℕ) → j < k → text_by f s' j ≡ text_by g s j) → text_by (suc f) s' k ≡ text_by (suc g) s k
text_step f g s s' count zero u h b ih = first_text (suc f) s' ∙ sym (first_text (suc g) s)
text_step f g s s' count (suc k) u h b ih =
    next_text f s' k
    ∙ rw (u.parents (suc k) h, u.text_bytes (suc k) h)
    (ap (λ (t : Text). t ++ (get_or s (bytes_at + suc k) 0 ∷ [])) (ih (get_or s (parents_at + suc k) 0) (b (omega arith))))
    ∙ sym (next_text g s k)

-- steps enough are enough
text_agree : (f g : ℕ) (s s' : List ℕ) (count k : ℕ) → Parents s count → Unmoved s s' count → k ≤ f → k ≤ g → k < count
    → text_by f s' k ≡ text_by g s k
text_agree zero g s s' count k p u h l m = let e : k ≡ 0 = omega arith in rw e (first_text 0 s' ∙ sym (first_text g s))
text_agree (suc f) zero s s' count k p u h l m = let e : k ≡ 0 = omega arith in rw e (first_text (suc f) s' ∙ sym (first_text 0 s))
text_agree (suc f) (suc g) s s' count k p u h l m =
    text_step f g s s' count k u m (λ o. p k o m) (λ j o. text_agree f g s s' count j p u (omega arith) (omega arith) (omega arith))

item_as : (x : Item) (sheet : ℕ) (vector : List Re) (text : Text) → x.sheet ≡ sheet → x.vector ≡ vector → x.text ≡ text
    → x ≡ record { sheet = sheet; vector = vector; text = text }
item_as x sheet vector text p q r = λ i. record { sheet = p i; vector = q i; text = r i }

module _ (s s' : List ℕ) (n top count : ℕ) (kept : Kept s n top count) (same : Same s s' top) (u : Unmoved s s' count) where
  pub item_unmoved : (k : ℕ) → k < count → item_of s' n k ≡ item_of s n k
  item_unmoved k h =
      item_as (item_of s' n k) (get_or s (sheets_at + k) 0) (vector_of s n (numbers_at s k)) (text_of s k) (u.sheets k h)
      (ap (vector_of s' n) (u.numbers k h) ∙ vector_same_cells s s' top n (numbers_at s k) kept.pooled.sound same kept.few_rules (kept.numbers k h))
      (text_agree k k s s' count k kept.parents u (omega arith) (omega arith) h)

  pub items_unmoved : items_of s' n count ≡ items_of s n count
  items_unmoved = items_same s s' n count item_unmoved

  pub kept_unmoved : (top' : ℕ) → length s' ≡ length s → get_or s' nothing_cell 0 ≡ get_or s nothing_cell 0 → Pooled s' top' → Shaped s' top'
      → top ≤ top' → top' ≤ pool_cells → Kept s' n top' count
  kept_unmoved top' e z p o h l = record {
    long = omega (arith, kept.long);
    small = omega (arith, kept.small);
    few_rules = kept.few_rules;
    pooled = p;
    top_fits = l;
    shaped = o;
    nothing = z ∙ kept.nothing;
    numbers = λ k m. numbers_more top' (rw (u.numbers k m) (kept.numbers k m)) h;
    parents = λ k m j. rw (u.parents k j) (kept.parents k m j);
    text_bytes = λ k m. rw (u.text_bytes k m) (kept.text_bytes k m);
  }

  shaped_same : Shaped s' top
  shaped_same i h = rw (frame s s' top i kept.pooled.sound same h) (kept.shaped i h)

  pub kept_here : length s' ≡ length s → get_or s' nothing_cell 0 ≡ get_or s nothing_cell 0 → Kept s' n top count
  kept_here e z = kept_unmoved top e z (pooled (pool_same s' kept.pooled same e)) shaped_same (omega arith) kept.top_fits

-- a part of memory by its cells
part_same : (s s' : List ℕ) (at m : ℕ) → length s' ≡ length s → ((i : ℕ) → i < m → get_or s' (at + i) 0 ≡ get_or s (at + i) 0)
    → take m (drop at s') ≡ take m (drop at s)
part_same s s' at m e h =
    ext_get_or 0 (take m (drop at s')) (take m (drop at s)) (simp (length-take, length-drop, e))
    (λ i k.
    let l : i < m = omega (arith, length-take m (drop at s')) in
    get_or-take m (drop at s') i 0 l ∙ get_or-drop at s' i 0 ∙ h i l ∙ sym (get_or-take m (drop at s) i 0 l ∙ get_or-drop at s i 0))

-- ---- the pool grows

module _ (s : List ℕ) (n top count : ℕ) (s' : List ℕ) (kept : Kept s n top count) (few : count ≤ items) (x : Spared s top s') where
  spared_unmoved : Unmoved s s' count
  spared_unmoved = record {
    numbers = λ k h. part_same s s' (vectors_at + k * rules) rules x.same_length (λ i l. x.kept_above (vectors_at + k * rules + i) (omega arith));
    sheets = λ k h. x.kept_above (sheets_at + k) (omega arith);
    parents = λ k h. x.kept_above (parents_at + k) (omega arith);
    text_bytes = λ k h. x.kept_above (bytes_at + k) (omega arith);
  }

  pub items_spared : items_of s' n count ≡ items_of s n count
  items_spared = items_unmoved s s' n top count kept x.kept_below spared_unmoved

  pub terms_spared : terms_of s' top ≡ terms_of s top
  terms_spared = terms_frame s s' top kept.pooled.sound x.kept_below

  -- back to the old top
  pub kept_spared : Kept s' n top count
  kept_spared = kept_here s s' n top count kept x.kept_below spared_unmoved x.same_length (x.kept_above nothing_cell (omega arith))

  -- up to a new top
  pub kept_grown : (top' : ℕ) → Pooled s' top' → Shaped s' top' → top ≤ top' → top' ≤ pool_cells → Kept s' n top' count
  kept_grown top' p o h l =
      kept_unmoved s s' n top count kept x.kept_below spared_unmoved top' x.same_length (x.kept_above nothing_cell (omega arith)) p o h l

-- ---- an item is found

-- the first item for a pair is the one that walk numbers
number_is : (ys : List Item) (x : Item) (r : ℕ) → r ≤ length ys → (r < length ys → Pair (get_or ys r none) x)
    → ((k : ℕ) → k < r → Pair (get_or ys k none) x → ⊥) → r ≡ number_in ys x
unfolding number_in
number_is [] x r h p b = omega arith
number_is (y ∷ ys) x zero h p b = rw (same_pair_lem y x (p (omega arith)))
number_is (y ∷ ys) x (suc r) h p b =
    go (same_pair y x) refl (number_is ys x r (omega arith) (λ l. p (omega arith)) (λ k l. b (suc k) (omega arith)))
  where
    go : (d : Bool) → same_pair y x ≡ d → r ≡ number_in ys x → suc r ≡ cond d 0 (suc (number_in ys x))
    go true e ih = absurd (b 0 (omega arith) (pair_same y x e))
    go false e ih = ap suc ih

pub found_number : (s : List ℕ) (n top count sheet : ℕ) (v : List ℕ) (r : Option ℕ) → Kept s n top count → Numbers n top v → Finds s count sheet v r
    → (x : Item) → x.sheet ≡ sheet → x.vector ≡ vector_of s n v → unwrap_or r count ≡ number_in (items_of s n count) x
found_number s n top count sheet v r kept m f x p q =
    number_is (items_of s n count) x (unwrap_or r count) (omega (arith, items_length s n count, most r f))
    (λ h. there r f (omega (arith, items_length s n count))) (before r f)
  where
    most : (r : Option ℕ) → Finds s count sheet v r → unwrap_or r count ≤ count
    most None f = omega arith
    most (Some k) f = omega (arith, f.within)

    there : (r : Option ℕ) → Finds s count sheet v r → unwrap_or r count < count → Pair (get_or (items_of s n count) (unwrap_or r count) none) x
    there None f h = absurd (omega arith)
    there (Some k) f h =
        let i = f.there in
        rw (items_at s n count k h) (record { same_sheet = i.same_sheet ∙ sym p; same_vector_lem = ap (vector_of s n) i.same_numbers ∙ sym q })

    before : (r : Option ℕ) → Finds s count sheet v r → (k : ℕ) → k < unwrap_or r count → Pair (get_or (items_of s n count) k none) x → ⊥
    before r f k h o =
        let l : k < count = omega (arith, most r f) in
        let o' : Pair (item_of s n k) x = rw (items_at s n count k l) at o in
        f.before k h (record {
          same_sheet = o'.same_sheet ∙ p;
          same_numbers = numbers_equal s top n (numbers_at s k) v kept.pooled kept.few_rules (kept.numbers k l) m (o'.same_vector_lem ∙ q);
        })

-- ---- an item is stored

paste_below : (s : List ℕ) (at : ℕ) (v : List ℕ) (m i : ℕ) → at ≤ length s → m ≤ length v → i < at → get_or (paste s at v m) i 0 ≡ get_or s i 0
paste_below s at v m i h k l =
    get_or-append (take at s ++ take m v) (drop (at + m) s) 0 i (omega (arith, length_paste_head s at v m h k))
    ∙ get_or-append (take at s) (take m v) 0 i (omega (arith, length-take-le at s h)) ∙ get_or-take at s i 0 l

paste_above : (s : List ℕ) (at : ℕ) (v : List ℕ) (m i : ℕ) → at ≤ length s → m ≤ length v
    → get_or (paste s at v m) (at + m + i) 0 ≡ get_or s (at + m + i) 0
paste_above s at v m i h k =
    sym (get_or-drop (at + m) (paste s at v m) i 0) ∙ ap (λ (l : List ℕ). get_or l i 0) (drop-paste s at v m h k) ∙ get_or-drop (at + m) s i 0

paste_part : (s : List ℕ) (at : ℕ) (v : List ℕ) (m : ℕ) → at ≤ length s → length v ≡ m → take m (drop at (paste s at v m)) ≡ v
paste_part s at v m h e =
    let t : take m v ≡ v = take_all m v (omega arith) in
    rw (t, append_assoc, drop_at (take at s) (v ++ drop (at + m) s) at (length-take-le at s h)) (take_at v (drop (at + m) s) m e)

module _ (s : List ℕ) (n top k : ℕ) (v : List ℕ) (sheet parent byte : ℕ) (s' : List ℕ) (kept : Kept s n top k) (few : k < items) (m : Numbers n top v)
    (e : s' ≡ item_stored s k v sheet parent byte) where
  long : length (vector_stored s k v) ≡ length s
  long = length-paste s (vectors_at + k * rules) v rules (omega (arith, kept.long)) (omega (arith, m.whole))

  pub stored_length : length s' ≡ length s
  unfolding item_stored
  stored_length = rw e (simp length-set long)

  stored_other : (i : ℕ) → i ≢ sheets_at + k → i ≢ parents_at + k → i ≢ bytes_at + k → get_or s' i 0 ≡ get_or (vector_stored s k v) i 0
  unfolding item_stored
  stored_other i p q r =
      rw e (get_or-set_other (parent_stored s k v sheet parent) (bytes_at + k) i byte 0 r
      ∙ get_or-set_other (sheet_stored s k v sheet) (parents_at + k) i parent 0 q ∙ get_or-set_other (vector_stored s k v) (sheets_at + k) i sheet 0 p)

  stored_before : (i : ℕ) → i < vectors_at + k * rules → get_or s' i 0 ≡ get_or s i 0
  stored_before i h =
      stored_other i (λ z. omega arith) (λ z. omega arith) (λ z. omega arith)
      ∙ paste_below s (vectors_at + k * rules) v rules i (omega (arith, kept.long)) (omega (arith, m.whole)) h

  stored_after : (i : ℕ) → i ≢ sheets_at + k → i ≢ parents_at + k → i ≢ bytes_at + k → vectors_at + k * rules + rules ≤ i → get_or s' i 0 ≡ get_or s i 0
  stored_after i p q r h =
      let j : vectors_at + k * rules + rules + (i - (vectors_at + k * rules + rules)) ≡ i = omega arith in
      stored_other i p q r
      ∙ (rw j at (paste_above s (vectors_at + k * rules) v rules (i - (vectors_at + k * rules + rules)) (omega (arith, kept.long)) (omega (arith, m.whole))))

  stored_unmoved : Unmoved s s' k
  stored_unmoved = record {
    numbers = λ j h. part_same s s' (vectors_at + j * rules) rules stored_length (λ i l. stored_before (vectors_at + j * rules + i) (omega arith));
    sheets = λ j h. stored_after (sheets_at + j) (λ z. omega arith) (λ z. omega arith) (λ z. omega arith) (omega arith);
    parents = λ j h. stored_after (parents_at + j) (λ z. omega arith) (λ z. omega arith) (λ z. omega arith) (omega arith);
    text_bytes = λ j h. stored_after (bytes_at + j) (λ z. omega arith) (λ z. omega arith) (λ z. omega arith) (omega arith);
  }

  -- the cells of the pool, and Nothing's
  pub stored_low : Same s s' top
  stored_low i h = stored_before i (omega (arith, kept.top_fits))

  pub stored_terms : terms_of s' top ≡ terms_of s top
  stored_terms = terms_frame s s' top kept.pooled.sound stored_low

  -- what item k is now
  stored_numbers : numbers_at s' k ≡ v
  stored_numbers =
      part_same (vector_stored s k v) s' (vectors_at + k * rules) rules (stored_length ∙ sym long)
      (λ i h. stored_other (vectors_at + k * rules + i) (λ z. omega arith) (λ z. omega arith) (λ z. omega arith))
      ∙ paste_part s (vectors_at + k * rules) v rules (omega (arith, kept.long)) m.whole

  stored_sheet : get_or s' (sheets_at + k) 0 ≡ sheet
  unfolding item_stored
  stored_sheet =
      rw e (get_or-set_other (parent_stored s k v sheet parent) (bytes_at + k) (sheets_at + k) byte 0 (λ z. omega arith)
      ∙ get_or-set_other (sheet_stored s k v sheet) (parents_at + k) (sheets_at + k) parent 0 (λ z. omega arith)
      ∙ get_or-set_same (vector_stored s k v) (sheets_at + k) sheet 0 (omega (arith, long, kept.long)))

  stored_parent : get_or s' (parents_at + k) 0 ≡ parent
  unfolding item_stored
  stored_parent =
      rw e (get_or-set_other (parent_stored s k v sheet parent) (bytes_at + k) (parents_at + k) byte 0 (λ z. omega arith)
      ∙ get_or-set_same (sheet_stored s k v sheet) (parents_at + k) parent 0 (simp length-set (omega (arith, long, kept.long))))

  stored_byte : get_or s' (bytes_at + k) 0 ≡ byte
  unfolding item_stored
  stored_byte = rw e (get_or-set_same (parent_stored s k v sheet parent) (bytes_at + k) byte 0 (simp length-set (omega (arith, long, kept.long))))

  stored_vector : vector_of s' n (numbers_at s' k) ≡ vector_of s n v
  stored_vector = ap (vector_of s' n) stored_numbers ∙ vector_same_cells s s' top n v kept.pooled.sound stored_low kept.few_rules m

  kept_old : Kept s' n top k
  kept_old = kept_here s s' n top k kept stored_low stored_unmoved stored_length (stored_before nothing_cell (omega arith))

  -- with item k the cells are in order for one item more
  pub stored_kept : (0 < k → parent < k) → byte < bytes → Kept s' n top (k + 1)
  stored_kept p b = record {
    long = kept_old.long;
    small = kept_old.small;
    few_rules = kept_old.few_rules;
    pooled = kept_old.pooled;
    top_fits = kept_old.top_fits;
    shaped = kept_old.shaped;
    nothing = kept_old.nothing;
    numbers = below_more (λ j. Numbers n top (numbers_at s' j)) k kept_old.numbers (rw stored_numbers m);
    parents = λ j l h.
        below_more (λ i. 0 < i → get_or s' (parents_at + i) 0 < i) k (λ i h l. kept_old.parents i l h) (λ l. rw stored_parent (p l)) j h l;
    text_bytes = below_more (λ j. get_or s' (bytes_at + j) 0 < bytes) k kept_old.text_bytes (rw stored_byte b);
  }

  stored_items : (text : Text) → text_of s' k ≡ text
      → items_of s' n (k + 1) ≡ items_of s n k ++ (record { sheet = sheet; vector = vector_of s n v; text = text } ∷ [])
  stored_items text t =
      items_next s' n k
      ∙ rw (
        items_unmoved s s' n top k kept stored_low stored_unmoved,
        item_as (item_of s' n k) sheet (vector_of s n v) text stored_sheet stored_vector t,
      )

  -- item 0 has the empty text, any other that of its parent and the byte
  pub stored_first : k ≡ 0 → items_of s' n (k + 1) ≡ items_of s n k ++ (record { sheet = sheet; vector = vector_of s n v; text = [] } ∷ [])
  stored_first z = stored_items [] (rw z (first_text 0 s'))

  pub stored_next : parent < k
      → items_of s' n (k + 1) ≡ items_of s n k ++ (record { sheet = sheet; vector = vector_of s n v; text = text_of s parent ++ (byte ∷ []) } ∷ [])
  stored_next p = stored_items (text_of s parent ++ (byte ∷ [])) (text k refl)
    where
      text : (j : ℕ) → k ≡ j → text_by j s' k ≡ text_of s parent ++ (byte ∷ [])
      text zero z = absurd (omega arith)
      text (suc j) z =
          let q : get_or s' (parents_at + suc j) 0 ≡ parent = rw z at stored_parent in
          let r : get_or s' (bytes_at + suc j) 0 ≡ byte = rw z at stored_byte in
          rw (z, next_text j s' j, q, r)
          (ap (λ (t : Text). t ++ (byte ∷ []))
          (text_agree j parent s s' k parent kept.parents stored_unmoved (omega arith) (omega arith) p))
