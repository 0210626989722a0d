-- Laws of the lines of a comparison, one for each step of the code that puts them.
-- What compare_book left in the text area is the shown text.
use Rattle.std.specs.Prelude.{ℕ, ◌+◌, ◌-◌, ◌≤◌, ◌≡◌, refl, Option, Some, None, Result, Ok, Err, List, length, take, drop, replicate}
use Rattle.std.proofs.Math.Nat.{sub-zero}
use Rattle.std.proofs.Common.{arith, sym, ap, subst, ◌∙◌, le-ltb, length-append, length-take, take_at}
use Rattle.std.proofs.lemmas.List.{length-replicate}
use Rattle.number.specs.declared.Refusal.{Refusal}
use Rattle.number.specs.Limits.{shown_text}
use Rattle.number.specs.Lists.{Writes, writes_then}
use Rattle.number.specs.Refused.{Answer, Outcome}
use Rattle.number.specs.Refused.Answer.{got, refused}
use Rattle.number.specs.Refused.Outcome.{gives, refuses}
use Rattle.book.specs.Book.{Book}
use Rattle.book.specs.Reads.{read_book}
use Rattle.book.specs.Calls.{size_of}
use Rattle.book.specs.PlaceLaws.{checked_counts, checked_refused}
use Rattle.table.specs.Table.{Table}
use Rattle.table.specs.Sheet.{read_sheet}
use Rattle.vector.specs.Layout.{work_length}
use Rattle.lines.specs.Lines.{refused_line, differs_line, hex_line}
use Rattle.verdict.specs.declared.Difference.{Difference}
use Rattle.verdict.specs.Compare.{Verdict}
use Rattle.verdict.specs.Compare.Verdict.{Same as Verdict·same, Differs as Verdict·differs}
use Rattle.verdict.specs.Calls.{Told, compared, compare_book, Comparison, answered_in, compare_of}
use Rattle.verdict.specs.Calls.Told.{same, differs}
use Rattle.comparing.specs.Promises.{Compares}
use Rattle.programs.specs.Print.{sheet_next, book_first, compare_files, verdict_lines}
use Rattle.programs.specs.PrintLaws.{writes_as}
use Rattle.programs.specs.StandLaws.{Stands}
use Rattle.compare_lines.specs.ToldLines.{told_lines, Inside}

-- the code's answer and the text area hold a verdict
pub record AnswerHeld (v : Outcome Verdict) (area : List ℕ) (r : Result (Option Difference) Refusal) : Type 0 where
  pub lines : told_lines area r ≡ verdict_lines v
  pub inside : Inside area r

pub held_refused : {v : Outcome Verdict} (area : List ℕ) (r : Refusal) → refused_line r ≡ verdict_lines v → AnswerHeld v area (Err r)
held_refused area r e = record { lines = e; inside = tt }

no_told : {r : Refusal} {x : Told} → ◌≡◌ {A = Outcome Told} (refuses r) (gives x) → ⊥
no_told e = let z : ◌≡◌ {A = ℕ} 0 1 = cc in omega arith

not_same : {n b s : ℕ} → ◌≡◌ {A = Outcome Told} (gives same) (gives (differs n b s)) → ⊥
not_same e = let z : ◌≡◌ {A = ℕ} 0 1 = cc in omega arith

holds_told : (area work area' : List ℕ) (v : Outcome Verdict) (r : Result (Option Difference) Refusal) → length area' ≡ length area
    → compared r ≡ (answered_in area work v).answer → area' ≡ (answered_in area work v).text → AnswerHeld v area' r
holds_told area work area' (gives Verdict·same) (Ok None) l e f = record { lines = refl; inside = tt }
holds_told area work area' (gives Verdict·same) (Ok (Some d)) l e f = absurd (not_same (sym e))
holds_told area work area' (gives Verdict·same) (Err r) l e f = absurd (no_told e)
holds_told area work area' (gives (Verdict·differs text x y)) (Ok None) l e f = absurd (not_same e)
holds_told area work area' (gives (Verdict·differs text x y)) (Ok (Some d)) l e f =
    let many : d.len ≡ length text = cc in
    let book : d.by_book ≡ x = cc in
    let sheet : d.by_table ≡ y = cc in
    let shown : take d.len area' ≡ text = ap (take d.len) f ∙ take_at text (replicate (length area - length text) 0) d.len (sym many) in
    let size : length area' ≡ length text + (length area - length text) =
    ap length f ∙ length-append text (replicate (length area - length text) 0) ∙ ap (λ (k : ℕ). length text + k) (length-replicate (length area - length text) 0) in
    record { lines = rw (shown, many, book, sheet) refl; inside = omega (arith, size, l, many) }
holds_told area work area' (gives (Verdict·differs text x y)) (Err r) l e f = absurd (no_told e)
holds_told area work area' (refuses q) (Ok None) l e f = absurd (no_told (sym e))
holds_told area work area' (refuses q) (Ok (Some d)) l e f = absurd (no_told (sym e))
holds_told area work area' (refuses q) (Err r) l e f = let z : r ≡ q = cc in record { lines = ap (λ (x : Refusal). refused_line x) z; inside = tt }

-- the answer's lines, as the code puts them
pub told_as : (area : List ℕ) (answer r : Result (Option Difference) Refusal) {o o' : List ℕ} {end : ℕ} → answer ≡ r → Writes (told_lines area r) o o' 0 end
    → Writes (told_lines area answer) o o' 0 end
told_as area answer r {o} {o'} {end} e put = subst (λ (x : Result (Option Difference) Refusal). Writes (told_lines area x) o o' 0 end) (sym e) put

-- an answer taken apart in two steps
pub parted : {answer : Result (Option Difference) Refusal} {o r : Option Difference} → answer ≡ Ok o → o ≡ r → answer ≡ Ok r
parted e f = e ∙ ap Ok f

pub told_inside : (area : List ℕ) (answer : Result (Option Difference) Refusal) (d : Difference) → answer ≡ Ok (Some d) → Inside area answer → d.len ≤ length area
told_inside area answer d e h = subst (Inside area) e h

pub told_part : (area part : List ℕ) (n : ℕ) → part ≡ take (n - 0) area → length part ≤ length area
told_part area part n f = rw f (omega (arith, length-take (n - 0) area))

pub told_differs : (area part : List ℕ) (answer : Result (Option Difference) Refusal) (d : Difference) {o o₁ o₂ : List ℕ} {mid end : ℕ} → answer ≡ Ok (Some d)
    → part ≡ take (d.len - 0) area → Writes (differs_line d.len d.by_book d.by_table) o o₁ 0 mid → Writes (hex_line (drop 0 part)) o₁ o₂ mid end
    → Writes (told_lines area answer) o o₂ 0 end
told_differs area part answer d e f first second =
    let shown : part ≡ take d.len area = f ∙ ap (λ (k : ℕ). take k area) (sub-zero d.len) in
    told_as area answer (Ok (Some d)) e (writes_then (omega arith) first (writes_as (ap hex_line shown) second))

-- past the book's faults: the sheet was read, and the walk answers
pub compare_holds : (book : List ℕ) (n : ℕ) (l t area work area' work' : List ℕ) (r : Result (Option Difference) Refusal) (table : Table)
    → Stands table n l t → shown_text ≤ length area → work_length ≤ length work → length area' ≡ length area
    → Compares book n l t area work area' work' r → AnswerHeld (compare_book book table) area' r
compare_holds book n l t area work area' work' r table s room long e c =
    let as_told : compare_of book n l t area work ≡ answered_in area work (compare_book book table) =
    rw (le-ltb (length area) shown_text room, le-ltb (length work) work_length long, s.well, s.same) refl in
    holds_told area work area' (compare_book book table) r e
    (c.answer ∙ ap (λ (x : Comparison). x.answer) as_told) (c.text ∙ ap (λ (x : Comparison). x.text) as_told)

module _ (book sheet : List ℕ) where
  pub files_no_book : (r : Refusal) → size_of (read_book book) ≡ refuses r → refused_line r ≡ verdict_lines (compare_files book sheet)
  files_no_book r e = rw (checked_refused book r e) refl

  module _ (n m : ℕ) (e : size_of (read_book book) ≡ gives (record { rules = n; nodes = m })) where
    pub files_no_sheet : (r : Refusal) → read_sheet sheet ≡ refused r → refused_line r ≡ verdict_lines (compare_files book sheet)
    files_no_sheet r d = let c = checked_counts book n m e in rw (c.read, d) refl

    pub files_both : (table : Table) (after : ℕ) → read_sheet sheet ≡ got table after
        → verdict_lines (compare_book book table) ≡ verdict_lines (compare_files book sheet)
    files_both table after d =
        ap (λ (x : Answer Table). verdict_lines (sheet_next book x)) (sym d)
        ∙ ap (λ (x : Answer Book). verdict_lines (book_first x (sheet_next book (read_sheet sheet)))) (sym (checked_counts book n m e).read)
