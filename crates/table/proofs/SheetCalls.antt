-- The same over what the calls leave in lent memory: writing a table and loading it again, loading a file and writing it again.
-- Nothing is assumed of the memory but that it is large enough; what stands past the states and past the sheet does not matter.
use Rattle.std.specs.Prelude.{ℕ, ◌-◌, ◌*◌, ◌≤◌, ◌≡◌, refl, true, List, ◌++◌, ltb, length, take, drop, replicate}
use Rattle.std.proofs.Common.{arith, sym, ap, ◌∙◌, le-ltb, take_at}
use Rattle.number.specs.declared.Refusal.{Refusal}
use Rattle.number.specs.Limits.{bytes}
use Rattle.number.specs.Branch.{by_cond}
use Rattle.number.specs.Refused.{Answer, Outcome}
use Rattle.number.specs.Refused.Answer.{got, refused}
use Rattle.number.specs.Refused.Outcome.{gives, refuses}
use Rattle.number.specs.Numbers.{Bytes}
use Rattle.table.specs.Table.{Table, lent, well_formed}
use Rattle.table.specs.Sheet.{read_sheet, write_sheet}
use Rattle.table.specs.Calls.{Filled, Output, cramped, padded, load_read, load_of, write_of}
use Rattle.table.specs.Formed.{Formed, longest_sheet}
use Rattle.table.specs.SheetFormed.{well_formed_lem, formed_well}
use Rattle.table.specs.SheetLaws.{SheetRead, sheet_read_back, sheet_back}
use Rattle.table.proofs.SheetBytes.{sheet_length_lem}

-- a refusal gives nothing
clash : {r : Refusal} {n : ℕ} → ◌≡◌ {A = Outcome ℕ} (refuses r) (gives n) → ⊥
clash e = let z : ◌≡◌ {A = ℕ} 0 1 = cc in omega arith

-- ---- files

-- no two formed tables have one sheet
pub sheet_one : (t u : Table) → Formed t → Formed u → write_sheet t ≡ write_sheet u → t ≡ u
sheet_one t u f g e =
    let same : got t (length (write_sheet t)) ≡ got u (length (write_sheet u)) =
    sym (sheet_read_back t f) ∙ ap read_sheet e ∙ sheet_read_back u g in
    cc

-- ---- write, then load

-- an output that a table was written to, with the count that was answered: it begins with the table's sheet
pub record HasSheet (t : Table) (n : ℕ) (out : List ℕ) : Type 0 where
  pub formed : Formed t
  pub size : n ≡ length (write_sheet t)
  pub front : take n out ≡ write_sheet t

pub write_has_sheet : (s : ℕ) (labels targets out : List ℕ) (n : ℕ) → (write_of s labels targets out).answer ≡ gives n
    → HasSheet (lent s labels targets) n (write_of s labels targets out).out
write_has_sheet s labels targets out n =
    let t : Table = lent s labels targets in
    let P : Output → Type 0 = λ o. o.answer ≡ gives n → HasSheet t n o.out in
    by_cond P (well_formed s labels targets)
    (λ well. by_cond P (ltb (length out) (length (write_sheet t)))
    (λ cramped e. absurd (clash e))
    (λ room e.
    let size : length (write_sheet t) ≡ n = cc in
    record { formed = well_formed_lem s labels targets well; size = sym size; front = take_at (write_sheet t) _ n size }))
    (λ ill e. absurd (clash e))

-- ---- load, then write

-- a formed table that memory holds is written, where there is room for it
pub write_formed : (s : ℕ) (labels targets out file : List ℕ) → Formed (lent s labels targets)
    → write_sheet (lent s labels targets) ≡ file → length file ≤ length out
    → write_of s labels targets out ≡ record { answer = gives (length file); out = file ++ drop (length file) out }
write_formed s labels targets out file f same room =
    simp (formed_well s labels targets f, same, le-ltb (length out) (length file) room)

-- there is always room in an output as long as the longest sheet
pub write_fits : (s : ℕ) (labels targets out : List ℕ) → Formed (lent s labels targets) → longest_sheet ≤ length out
    → (write_of s labels targets out).answer ≡ gives (length (write_sheet (lent s labels targets)))
write_fits s labels targets out f room =
    ap (λ (o : Output). o.answer)
    (write_formed s labels targets out _ f refl (omega (arith, sheet_length_lem (lent s labels targets) f)))

-- memory that was filled with a formed table holds it
pub filled_has_table : (t : Table) (labels targets : List ℕ) → Formed t
    → lent t.count (padded (length labels) t.labels) (padded (length targets) t.targets) ≡ t
filled_has_table t labels targets f =
    rw (
      take_at t.labels (replicate (length labels - length t.labels) 0) t.count f.labelled,
      take_at t.targets (replicate (length targets - length t.targets) 0) (t.count * bytes) f.filled,
    )

-- what a file that was loaded left: the table that it holds, which is formed, in the table area
pub record HasTable (file : List ℕ) (s : ℕ) (labels targets : List ℕ) : Type 0 where
  pub formed : Formed (lent s labels targets)
  pub written : write_sheet (lent s labels targets) ≡ file

pub load_has_table : (file labels targets : List ℕ) (s : ℕ) → Bytes file → (load_of file labels targets).answer ≡ gives s
    → HasTable file s (load_of file labels targets).labels (load_of file labels targets).targets
load_has_table file labels targets s all =
    by_cond P (cramped labels targets) (λ small e. absurd (clash e)) (λ wide. go (read_sheet file) refl)
  where
    P : Filled → Type 0
    P x = x.answer ≡ gives s → HasTable file s x.labels x.targets

    go : (a : Answer Table) → read_sheet file ≡ a → P (load_read labels targets a)
    go (got t after) r e =
        let count : t.count ≡ s = cc in
        let told : SheetRead file t after = sheet_back file all t after r in
        let same = filled_has_table t labels targets told.formed in
        rw (← count) (record { formed = rw same told.formed; written = ap write_sheet same ∙ told.written })
    go (refused q) r e = absurd (clash e)

-- the file comes back, at the front of any output that has room for it
pub load_then_write : (file labels targets out : List ℕ) (s : ℕ) → Bytes file → (load_of file labels targets).answer ≡ gives s
    → length file ≤ length out
    → write_of s (load_of file labels targets).labels (load_of file labels targets).targets out
    ≡ record { answer = gives (length file); out = file ++ drop (length file) out }
load_then_write file labels targets out s all e room =
    let told = load_has_table file labels targets s all e in
    write_formed s (load_of file labels targets).labels (load_of file labels targets).targets out file
    told.formed told.written room

-- a table that was loaded is well formed
pub load_well_formed : (file labels targets : List ℕ) (s : ℕ) → Bytes file → (load_of file labels targets).answer ≡ gives s
    → well_formed s (load_of file labels targets).labels (load_of file labels targets).targets ≡ true
load_well_formed file labels targets s all e = formed_well s _ _ (load_has_table file labels targets s all e).formed
