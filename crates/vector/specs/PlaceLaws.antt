-- Laws for loops that go over a vector place by place: what held of the places passed holds of one more.
-- The terms of a vector by place, its label and its next edge too.
use Rattle.std.specs.Prelude.{ℕ, suc, ◌+◌, ◌-◌, ◌<◌, ◌≤◌, min, ◌≡◌, Bool, true, false, cond, List, get_or, take, drop, set}
use Rattle.std.proofs.Common.{add-one, arith, subst, ◌∙◌, below_more, length-drop, take-suc, take-suc-set, get_or-drop, get_or-take, drop-cons, length-take-le, get_or-set_same, get_or-set_other}
use Rattle.std.proofs.lemmas.List.{length-map, get_or-map}
use Rattle.std.proofs.Math.Path.{sym, ap}
use Rattle.std.proofs.Math.ListN.{length, drop_of_length-le}
use Rattle.std.proofs.Math.Seq.{paste, paste-suc}
use Rattle.number.specs.Limits.{bytes}
use Rattle.meaning.specs.Re.{Re}
use Rattle.meaning.specs.Re.Re.{Nothing}
use Rattle.meaning.specs.Derive.{nullable}
use Rattle.meaning.specs.Rules.{label, label_from}
use Rattle.meaning.specs.Edges.{next_edge, next_edge_all}
use Rattle.meaning.proofs.EdgeLaws.{edge_none, edge_more, edge_all_within}
use Rattle.term.specs.Cells.{term}
use Rattle.vector.specs.Vectors.{vector_of}
use Rattle.vector.specs.Promises.{Reads}

-- ---- lists

-- one place more of which P holds, once v is stored there
pub all_more : (P : ℕ → ℕ → Type 0) (y : List ℕ) (i v : ℕ) → i < length y → ((k : ℕ) → k < i → P k (get_or y k 0)) → P i v
    → (k : ℕ) → k < i + 1 → P k (get_or (set y i v) k 0)
all_more P y i v h f p =
    below_more (λ k. P k (get_or (set y i v) k 0)) i
    (λ k l. subst (P k) (sym (get_or-set_other y i k v 0 (λ e. omega arith))) (f k l))
    (subst (P i) (sym (get_or-set_same y i v 0 h)) p)

-- one place more that is read from a place of memory
pub copied_more : (y s : List ℕ) (at i : ℕ) → i < length y → at + i < length s → take i y ≡ take i (drop at s)
    → take (i + 1) (set y i (get_or s (at + i) 0)) ≡ take (i + 1) (drop at s)
copied_more y s at i h k e =
    let l : i < length (drop at s) = simp length-drop (omega arith) in
    rw (add-one, take-suc-set y i (get_or s (at + i) 0), take-suc (drop at s) i 0, get_or-drop, e)

-- one place more that is stored
pub pasted_more : (s y s' : List ℕ) (at i : ℕ) → at + i < length s → i < length y → s' ≡ paste s at y i
    → set s' (at + i) (get_or y i 0) ≡ paste s at y (i + 1)
pasted_more s y s' at i h k e = rw (e, add-one, paste-suc s at y i 0 h k)

-- ---- terms of a vector

pub vector_length : (s : List ℕ) (n : ℕ) (v : List ℕ) → n ≤ length v → length (vector_of s n v) ≡ n
vector_length s n v h = length-map (take n v) (term s) ∙ length-take-le n v h

pub vector_at : (s : List ℕ) (n : ℕ) (v : List ℕ) (i : ℕ) → n ≤ length v → i < n → get_or (vector_of s n v) i Nothing ≡ term s (get_or v i 0)
vector_at s n v i h k = get_or-map (term s) (take n v) i 0 Nothing (omega (arith, length-take-le n v h)) ∙ ap (term s) (get_or-take n v i 0 k)

-- ---- the label of a part: that of what remains is that of the whole part, until a term matches the empty text

module _ (s : List ℕ) (from to : ℕ) (v : List ℕ) where
  abbrev terms : List Re
  terms = vector_of s to v

  -- the label of what remains from place i on
  abbrev pub LabelLeft : ℕ → Type 0
  LabelLeft i = label (drop from terms) ≡ label_from (i - from) (drop i terms)

  pub label_first : LabelLeft from
  label_first = let e : from - from ≡ 0 = omega arith in rw e

  module _ (ok : Reads s to v) where
    long : to ≤ length v
    long = omega (arith, ok.whole, ok.few_rules)

    module _ (i : ℕ) (b : Bool) (h : i < to) (l : LabelLeft i) (e : b ≡ nullable (term s (get_or v i 0))) where
      here : label_from (i - from) (drop i terms) ≡ cond b (suc (i - from)) (label_from (suc (i - from)) (drop (suc i) terms))
      unfolding label_from
      here =
          let k : i < length terms = omega (arith, vector_length s to v long) in
          let f : nullable (get_or terms i Nothing) ≡ b = ap nullable (vector_at s to v i long h) ∙ sym e in
          rw (drop-cons terms i Nothing k, label_from, f)

      pub label_found : b ≡ true → i - from + 1 ≡ label (drop from terms)
      label_found t = add-one (i - from) ∙ sym (l ∙ here ∙ rw t)

      pub label_next : b ≡ false → from ≤ i → LabelLeft (i + 1)
      label_next t m = let j : suc (i - from) ≡ i + 1 - from = omega arith in l ∙ here ∙ rw (t, j, add-one)

    pub label_none : LabelLeft to → 0 ≡ label (drop from terms)
    unfolding label_from
    label_none l =
        let e : length terms ≡ to = vector_length s to v long in
        sym (l ∙ rw (drop_of_length-le terms {i = to} (omega arith), label_from))

-- ---- its next edge: the least of those passed and those that remain

-- `least` is the least edge of the first i terms
pub record Least (s : List ℕ) (n : ℕ) (v : List ℕ) (byte i least : ℕ) : Type 0 where
  pub most : least ≤ bytes
  pub whole : min least (next_edge_all byte (drop i (vector_of s n v))) ≡ next_edge_all byte (vector_of s n v)

pub least_first : (s : List ℕ) (n : ℕ) (v : List ℕ) (byte : ℕ) → Least s n v byte 0 bytes
least_first s n v byte = record { most = omega arith; whole = omega (arith, edge_all_within byte (vector_of s n v)) }

module _ (s : List ℕ) (n : ℕ) (v : List ℕ) (byte i least edge : ℕ) (ok : Reads s n v) (h : i < n) (e : edge ≡ next_edge byte (term s (get_or v i 0)))
    (l : Least s n v byte i least) where
  least_split : next_edge_all byte (drop i (vector_of s n v)) ≡ min edge (next_edge_all byte (drop (i + 1) (vector_of s n v)))
  least_split =
      let m : n ≤ length v = omega (arith, ok.whole, ok.few_rules) in
      ap (next_edge_all byte) (drop-cons (vector_of s n v) i Nothing (omega (arith, vector_length s n v m)))
      ∙ edge_more byte (get_or (vector_of s n v) i Nothing) (drop (suc i) (vector_of s n v)) ∙ rw (add-one, vector_at s n v i m h, e)

  pub least_more : Least s n v byte (i + 1) (min least edge)
  least_more = record { most = omega (arith, l.most); whole = omega (arith, l.whole, least_split) }

pub least_last : (s : List ℕ) (n : ℕ) (v : List ℕ) (byte least : ℕ) → Reads s n v → Least s n v byte n least → least ≡ next_edge_all byte (vector_of s n v)
least_last s n v byte least ok l =
    let k : length (vector_of s n v) ≡ n = vector_length s n v (omega (arith, ok.whole, ok.few_rules)) in
    let e : next_edge_all byte (drop n (vector_of s n v)) ≡ bytes = rw (drop_of_length-le (vector_of s n v) {i = n} (omega arith)) (edge_none byte) in
    omega (arith, l.whole, l.most)
