-- The two calls on books, for every file: what check_book and rule_kind answer, as the code answers it, and that they answer nothing else.
-- A book that is read is told by its rules, a file that is refused by that refusal.
use Rattle.std.specs.Prelude.{ℕ, ◌≤◌, ◌<◌, ◌≡◌, refl, ◌↔◌, length, get_or, Option, Some, None, Result, Ok, Err}
use Rattle.std.proofs.Common.{arith, sym, ap, ◌∙◌, lt-ltb, le-ltb, length-append}
use mathlib.Core.List.{List, ◌∷◌, ◌++◌, map, flatten}
use Rattle.std.proofs.Math.Seq.{get_or-append_seam}
use Rattle.number.specs.declared.Refusal.{Refusal}
use Rattle.number.specs.Refused.{Answer, Outcome, row_of, row_read}
use Rattle.number.specs.Refused.Answer.{got, refused}
use Rattle.number.specs.Refused.Outcome.{gives, refuses}
use Rattle.book.specs.Book.{Rule, Book}
use Rattle.book.specs.Reads.{read_book}
use Rattle.book.specs.Places.{no_rule, rule_of}
use Rattle.book.specs.Calls.{Size, checked, size_of, check_of, Told, kind_told, kind_in, kind_of}
use Rattle.book.specs.Calls.Told.{kind as tell_kind, none as tell_none}
use Rattle.book.specs.PostfixLaws.{total_nodes}

-- ---- the code's answers are told apart

no_gift : {A : Type 0} {x : A} {r : Refusal} → ◌≡◌ {A = Outcome A} (gives x) (refuses r) → ⊥
no_gift e = let z : ◌≡◌ {A = ℕ} 0 1 = cc in omega arith

given : {A : Type 0} {x y : A} → ◌≡◌ {A = Outcome A} (gives x) (gives y) → x ≡ y
given e = cc

no_kind : {n : ℕ} → ◌≡◌ {A = Told} (tell_kind n) tell_none → ⊥
no_kind e = let z : ◌≡◌ {A = ℕ} 0 1 = cc in omega arith

checked_apart : (r s : Result (ℕ × ℕ) Refusal) → checked r ≡ checked s → r ≡ s
checked_apart (Ok (n, m)) (Ok (k, l)) e =
    let same : n ≡ k = ap (λ (x : Size). x.rules) (given e) in
    let total-same : m ≡ l = ap (λ (x : Size). x.nodes) (given e) in
    cc
checked_apart (Ok (n, m)) (Err q) e = absurd (no_gift e)
checked_apart (Err p) (Ok (k, l)) e = absurd (no_gift (sym e))
checked_apart (Err p) (Err q) e = cc

kind_apart : (r s : Result (Option ℕ) Refusal) → kind_told r ≡ kind_told s → r ≡ s
kind_apart (Ok (Some n)) (Ok (Some m)) e = cc
kind_apart (Ok (Some n)) (Ok None) e = absurd (no_kind (given e))
kind_apart (Ok (Some n)) (Err q) e = absurd (no_gift e)
kind_apart (Ok None) (Ok (Some m)) e = absurd (no_kind (sym (given e)))
kind_apart (Ok None) (Ok None) e = refl
kind_apart (Ok None) (Err q) e = absurd (no_gift e)
kind_apart (Err p) (Ok (Some m)) e = absurd (no_gift (sym e))
kind_apart (Err p) (Ok None) e = absurd (no_gift (sym e))
kind_apart (Err p) (Err q) e = cc

-- an answer is what was asked for exactly if it is this one
checked_is : (file : List ℕ) (s : Result (ℕ × ℕ) Refusal) → check_of file ≡ checked s → (r : Result (ℕ × ℕ) Refusal) → (checked r ≡ check_of file) ↔ (r ≡ s)
checked_is file s e r = (λ h. checked_apart r s (h ∙ e), λ h. ap checked h ∙ sym e)

kind_is : (file : List ℕ) (i : ℕ) (s : Result (Option ℕ) Refusal) → kind_of file i ≡ kind_told s → (k : Result (Option ℕ) Refusal) → (kind_told k ≡ kind_of file i) ↔ (k ≡ s)
kind_is file i s e k = (λ h. kind_apart k s (h ∙ e), λ h. ap kind_told h ∙ sym e)

-- ---- a file that is read as this book

pub check_read : (file : List ℕ) (b : Book) (after : ℕ) → read_book file ≡ got b after → (r : Result (ℕ × ℕ) Refusal)
    → (checked r ≡ check_of file) ↔ (r ≡ Ok (length b.rules, length (flatten (map (λ (q : Rule). q.nodes) b.rules))))
check_read file b after e = checked_is file _ (rw (e, ← total_nodes b.rules) refl)

pub kind_read : (file : List ℕ) (b : Book) (after : ℕ) → read_book file ≡ got b after → (before behind : List Rule) (r : Rule)
    → b.rules ≡ before ++ (r ∷ behind) → (k : Result (Option ℕ) Refusal) → (kind_told k ≡ kind_of file (length before)) ↔ (k ≡ Ok (Some r.kind))
kind_read file b after e before behind r s =
    let there : length before < length b.rules = omega (arith, ap length s, length-append before (r ∷ behind)) in
    let same : rule_of b (length before) ≡ r = ap (λ (rs : List Rule). get_or rs (length before) no_rule) s ∙ get_or-append_seam before r behind no_rule in
    kind_is file (length before) _ (rw (e, lt-ltb _ _ there, same) refl)

pub kind_past : (file : List ℕ) (b : Book) (after : ℕ) → read_book file ≡ got b after → (i : ℕ) → length b.rules ≤ i → (k : Result (Option ℕ) Refusal)
    → (kind_told k ≡ kind_of file i) ↔ (k ≡ Ok None)
kind_past file b after e i h = kind_is file i (Ok None) (rw (e, le-ltb _ _ h) refl)

-- ---- a file that is refused

pub check_refused : (file : List ℕ) (q : Refusal) → read_book file ≡ refused q → (r : Result (ℕ × ℕ) Refusal) → (checked r ≡ check_of file) ↔ (r ≡ Err q)
check_refused file q e = checked_is file (Err q) (rw e refl)

pub kind_refused : (file : List ℕ) (q : Refusal) → read_book file ≡ refused q → (i : ℕ) (k : Result (Option ℕ) Refusal)
    → (kind_told k ≡ kind_of file i) ↔ (k ≡ Err q)
kind_refused file q e i = kind_is file i (Err q) (rw e refl)

-- ---- number and place are those that reading the file comes to

pub check_row : (file : List ℕ) → row_of (check_of file) ≡ row_read (read_book file)
check_row file = go (read_book file)
  where
    go : (x : Answer Book) → row_of (size_of x) ≡ row_read x
    go (got b after) = refl
    go (refused q) = refl

pub kind_row : (file : List ℕ) (i : ℕ) → row_of (kind_of file i) ≡ row_read (read_book file)
kind_row file i = go (read_book file)
  where
    go : (x : Answer Book) → row_of (kind_in x i) ≡ row_read x
    go (got b after) = refl
    go (refused q) = refl
