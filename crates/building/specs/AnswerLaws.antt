-- Laws from vector 0 to the table of a book's rules, and from a book to what build leaves.
-- One law for each return of the code.
use Rattle.std.specs.Result.{result_unwrap_or}
use Rattle.std.specs.Prelude.{ℕ, ◌+◌, ◌*◌, ◌-◌, ◌^◌, ◌<◌, ◌≤◌, ◌≡◌, List, [], length, take, replicate, Result, Ok, Err}
use Rattle.std.proofs.Math.Nat.{sub-zero}
use Rattle.std.proofs.Common.{arith, subst, ◌∙◌, append-nil, lt-ltb, le-ltb, drop_of_length-le, length-take-le}
use Rattle.std.proofs.Math.Path.{refl, sym, ap}
use Rattle.std.proofs.lemmas.List.{length-replicate}
use Rattle.number.specs.declared.Refusal.{Refusal}
use Rattle.number.specs.declared.Refusal.TheVariants.{Room}
use Rattle.number.specs.Limits.{bytes, states, table_cells}
use Rattle.number.specs.Lists.{written}
use Rattle.number.specs.Refused.{Outcome, row_of}
use Rattle.number.specs.Refused.Outcome.{gives, refuses}
use Rattle.book.specs.Calls.{checked, check_of}
use Rattle.book.specs.AnswerLaws.{counts_told, check_refusal_told}
use Rattle.book.specs.PlaceLaws.{checked_counts, checked_refused}
use Rattle.table.specs.Table.{Table}
use Rattle.table.specs.Calls.{padded, Filled, filled_with}
use Rattle.walk.specs.Vectors.{normalised}
use Rattle.walk.specs.Walk.{rows, on_from, walk_from}
use Rattle.vector.specs.Layout.{work_length}
use Rattle.vector.specs.Memory.{held_of}
use Rattle.steps.specs.declared.Reached.{Reached}
use Rattle.steps.specs.CallLaws.{went, halts}
use Rattle.start.specs.Start.{rules_in, Opened, Enters}
use Rattle.built.specs.Build.{alone, built_of, build_rules}
use Rattle.built.specs.Calls.{build_read, build_book, filled_by, Building, build_of}
use Rattle.row.specs.Fill.{Fillable}
use Rattle.filled.specs.Tabled.{Fronted, TableComes, Tabled}
use Rattle.building.specs.Promises.{Builds}

-- an outcome by another name
pub tabled_as : {o : Outcome Table} {l t : List ℕ} {r : Result ℕ Refusal} (p : Outcome Table) → Tabled o l t r → o ≡ p → Tabled p l t r
tabled_as {o} {l} {t} {r} p x e = subst (λ (q : Outcome Table). Tabled q l t r) e x

-- a table was answered
pub fronted : {o : Outcome Table} {l t : List ℕ} {r : Result ℕ Refusal} {m : ℕ} → Tabled o l t r → r ≡ Ok m → Fronted o l t m
fronted {o} {l} {t} x e = subst (TableComes o l t) e x.comes

-- ---- from vector 0 to the table of the rules

module _ (file : List ℕ) where
  module _ {n : ℕ} {s s₁ : List ℕ} {r : Result Reached Refusal} (x : Enters (normalised (rules_in file)) n s s₁ r) where
    pub rules_stop : {q : Refusal} {l t : List ℕ} → r ≡ Err q → Tabled (build_rules (rules_in file)) l t (Err q)
    unfolding build_rules walk_from
    rules_stop e = record { comes = ap (λ w. built_of (on_from alone w)) (halts (x.enters alone (omega arith) refl) e) }

    module _ {y : Reached} (e : r ≡ Ok y) where
      pub rules_fillable : {t : List ℕ} → table_cells ≤ length t → Fillable s₁ n y.held.top y.held.count t
      rules_fillable room =
          let m = went (x.enters alone (omega arith) refl) e in
          record { kept = m.kept; low = m.low; few = m.few; room = room }

      pub rules_table : built_of (rows alone states 0 (held_of s₁ n y.held.top y.held.count)) ≡ build_rules (rules_in file)
      unfolding build_rules walk_from
      rules_table =
          let m = went (x.enters alone (omega arith) refl) e in
          sym (ap (λ w. built_of (on_from alone w)) m.goes)

-- ---- from a book to the table of its rules

module _ (file : List ℕ) {r : Result (ℕ × ℕ) Refusal} (x : checked r ≡ check_of file) where
  pub book_refused : {q : Refusal} {l t : List ℕ} → r ≡ Err q → Tabled (build_book file) l t (Err q)
  book_refused {q} e = record { comes = ap build_read (checked_refused file q (check_refusal_told x e)) }

  module _ {n sum : ℕ} (e : r ≡ Ok (n, sum)) where
    pub book_opened : Opened file n
    book_opened = let c = checked_counts file n sum (counts_told x e) in record { book = c.b; after = c.after; read = c.read; many = c.many }

    pub book_table : build_rules (rules_in file) ≡ build_book file
    book_table = let c = checked_counts file n sum (counts_told x e) in rw c.read

-- ---- what build asks on the way

-- what is filled with 0: the labels and the targets past a table, and all of an area
module _ {o : Outcome Table} {l₁ t₁ : List ℕ} {m : ℕ} (a : Fronted o l₁ t₁ m) where
  pub past_labels : {n : ℕ} → states ≤ n → length l₁ ≡ n → (m ≤ n) × (n ≤ length l₁)
  past_labels h e = (omega (arith, a.few), omega arith)

  pub past_targets : {n : ℕ} → table_cells ≤ n → length t₁ ≡ n → (m * bytes ≤ n) × (n ≤ length t₁)
  past_targets h e = (omega (arith, a.few), omega arith)

  pub past_fits : m * bytes < 2 ^ 64
  past_fits = omega (arith, a.few)

-- what is behind the table of an answer; behind a refusal all of the area
module _ {o : Outcome Table} {l₁ t₁ : List ℕ} where
  pub behind_labels : (r : Result ℕ Refusal) → Tabled o l₁ t₁ r → {n : ℕ} → states ≤ n → length l₁ ≡ n
      → (result_unwrap_or r 0 ≤ n) × (n ≤ length l₁)
  behind_labels (Ok m) x h e = past_labels x.comes h e
  behind_labels (Err q) x h e = (omega arith, omega arith)

  pub behind_targets : (r : Result ℕ Refusal) → Tabled o l₁ t₁ r → {n : ℕ} → table_cells ≤ n → length t₁ ≡ n
      → (result_unwrap_or r 0 * bytes ≤ n) × (n ≤ length t₁)
  behind_targets (Ok m) x h e = past_targets x.comes h e
  behind_targets (Err q) x h e = (omega arith, omega arith)

  pub behind_fits : (r : Result ℕ Refusal) → Tabled o l₁ t₁ r → result_unwrap_or r 0 * bytes < 2 ^ 64
  behind_fits (Ok m) x = past_fits x.comes
  behind_fits (Err q) x = omega arith

-- ---- what build leaves

-- an area filled up with 0 behind its front
padded_front : (s s' cells : List ℕ) (n m : ℕ) → length s ≡ n → m ≤ n → take m s ≡ cells → s' ≡ written s m (replicate (n - m) 0)
    → s' ≡ padded n cells
unfolding written
padded_front s s' cells n m e h p f =
    let size = length-replicate {A = ℕ} (n - m) 0 in
    let over : length s ≤ m + length {A = ℕ} (replicate (n - m) 0) = omega arith in
    let many : length cells ≡ m = sym (ap length p) ∙ length-take-le m s (omega arith) in
    f ∙ rw (drop_of_length-le s over, append-nil, p, many)

cleared_all : (s s' : List ℕ) (n : ℕ) → length s ≡ n → s' ≡ written s 0 (replicate (n - 0) 0) → s' ≡ replicate n 0
cleared_all s s' n e f = padded_front s s' [] n 0 e (omega arith) refl f ∙ rw sub-zero

module _ (file l t s : List ℕ) where
  pub room_labels : length l < states → Builds file l t s l t s (Err Room)
  room_labels h =
      record {
        answer = simp (lt-ltb _ _ h);
        row = simp (lt-ltb _ _ h);
        labels = simp (lt-ltb _ _ h);
        targets = simp (lt-ltb _ _ h);
        work = simp (lt-ltb _ _ h);
      }

  pub room_targets : states ≤ length l → length t < table_cells → Builds file l t s l t s (Err Room)
  room_targets h k =
      record {
        answer = simp (le-ltb _ _ h, lt-ltb _ _ k);
        row = simp (le-ltb _ _ h, lt-ltb _ _ k);
        labels = simp (le-ltb _ _ h, lt-ltb _ _ k);
        targets = simp (le-ltb _ _ h, lt-ltb _ _ k);
        work = simp (le-ltb _ _ h, lt-ltb _ _ k);
      }

  pub room_work : states ≤ length l → table_cells ≤ length t → length s < work_length → Builds file l t s l t s (Err Room)
  room_work h k m =
      record {
        answer = simp (le-ltb _ _ h, le-ltb _ _ k, lt-ltb _ _ m);
        row = simp (le-ltb _ _ h, le-ltb _ _ k, lt-ltb _ _ m);
        labels = simp (le-ltb _ _ h, le-ltb _ _ k, lt-ltb _ _ m);
        targets = simp (le-ltb _ _ h, le-ltb _ _ k, lt-ltb _ _ m);
        work = simp (le-ltb _ _ h, le-ltb _ _ k, lt-ltb _ _ m);
      }

  module _ (h : states ≤ length l) (k : table_cells ≤ length t) (m : work_length ≤ length s) where
    -- with room, the book decides
    build_is : build_of file l t s ≡ record { table = filled_by l t (build_book file); work = replicate (length s) 0 }
    build_is = simp (le-ltb _ _ h, le-ltb _ _ k, le-ltb _ _ m)

    module _ {l₁ t₁ s₁ : List ℕ} {r : Result ℕ Refusal} (x : Tabled (build_book file) l₁ t₁ r) (p : length l₁ ≡ length l) (q : length t₁ ≡ length t)
        (e : s₁ ≡ replicate (length s) 0) where
      pub build_refused : {z : Refusal} {l₂ t₂ : List ℕ} → r ≡ Err z → l₂ ≡ written l₁ 0 (replicate (length l - 0) 0)
          → t₂ ≡ written t₁ 0 (replicate (length t - 0) 0) → Builds file l t s l₂ t₂ s₁ (Err z)
      build_refused {z} {l₂} {t₂} y f g =
          let why : build_book file ≡ refuses z = rw y at x.comes in
          record {
            answer = rw (build_is, why);
            row = rw (build_is, why);
            labels = cleared_all l₁ l₂ (length l) p f ∙ rw (build_is, why);
            targets = cleared_all t₁ t₂ (length t) q g ∙ rw (build_is, why);
            work = e ∙ rw build_is;
          }

      pub build_done : {count : ℕ} {l₂ t₂ : List ℕ} → r ≡ Ok count → l₂ ≡ written l₁ count (replicate (length l - count) 0)
          → t₂ ≡ written t₁ (count * bytes) (replicate (length t - count * bytes) 0) → Builds file l t s l₂ t₂ s₁ (Ok count)
      build_done {count} {l₂} {t₂} y f g =
          let a = fronted x y in
          let is : (build_of file l t s).table ≡ filled_with l t a.table =
          ap (λ (b : Building). b.table) build_is ∙ ap (filled_by l t) a.built in
          record {
            answer = ap gives (sym a.many) ∙ sym (ap (λ (b : Filled). b.answer) is);
            row = sym (ap (λ (b : Filled). row_of b.answer) is);
            labels =
                padded_front l₁ l₂ a.table.labels (length l) count p (omega (arith, a.few)) a.labels f
                ∙ sym (ap (λ (b : Filled). b.labels) is);
            targets =
                padded_front t₁ t₂ a.table.targets (length t) (count * bytes) q (omega (arith, a.few)) a.targets g
                ∙ sym (ap (λ (b : Filled). b.targets) is);
            work = e ∙ rw build_is;
          }

    pub build_leaves : (r : Result ℕ Refusal) {l₁ t₁ s₁ l₂ t₂ : List ℕ} → Tabled (build_book file) l₁ t₁ r → length l₁ ≡ length l → length t₁ ≡ length t
        → s₁ ≡ replicate (length s) 0 → l₂ ≡ written l₁ (result_unwrap_or r 0) (replicate (length l - result_unwrap_or r 0) 0)
        → t₂ ≡ written t₁ (result_unwrap_or r 0 * bytes) (replicate (length t - result_unwrap_or r 0 * bytes) 0) → Builds file l t s l₂ t₂ s₁ r
    build_leaves (Ok count) x p q e f g = build_done x p q e refl f g
    build_leaves (Err z) x p q e f g = build_refused x p q e refl f g
