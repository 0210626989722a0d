-- Tables in memory: what build or load left in a table area is the table of the definitions.
-- The three programs' code builds or loads, and then goes by one of these laws.
use Rattle.std.specs.Prelude.{ℕ, ◌≤◌, ◌≡◌, refl, true, Result, Ok, Err, List, length}
use Rattle.std.proofs.Common.{arith, sym, ap, subst, ◌∙◌, le-ltb}
use Rattle.number.specs.declared.Refusal.{Refusal}
use Rattle.number.specs.Limits.{states, table_cells}
use Rattle.number.specs.Numbers.{Bytes}
use Rattle.number.specs.Refused.{Answer, Outcome}
use Rattle.number.specs.Refused.Answer.{got, refused}
use Rattle.number.specs.Refused.Outcome.{gives, refuses}
use Rattle.table.specs.Table.{Table, lent, well_formed}
use Rattle.table.specs.Formed.{Formed}
use Rattle.table.specs.Sheet.{read_sheet}
use Rattle.table.specs.SheetFormed.{formed_well}
use Rattle.table.specs.SheetLaws.{sheet_back}
use Rattle.table.proofs.SheetCalls.{filled_has_table}
use Rattle.table.specs.Calls.{counted, Filled, padded, load_read, load_of}
use Rattle.table.specs.Promises.{Loads}
use Rattle.vector.specs.Layout.{work_length}
use Rattle.built.specs.Calls.{build_book, filled_by, build_of}
use Rattle.building.specs.Promises.{Builds}
use Rattle.built.specs.Main.{the_build, the_call}

-- a table of the definitions, as it stands in a table area
pub record Stands (table : Table) (n : ℕ) (l t : List ℕ) : Type 0 where
  pub formed : Formed table
  pub well : well_formed n l t ≡ true
  pub same : lent n l t ≡ table

stands : (table : Table) (n : ℕ) (l t l' t' : List ℕ) → Formed table → n ≡ table.count
    → l' ≡ padded (length l) table.labels → t' ≡ padded (length t) table.targets → Stands table n l' t'
stands table n l t l' t' f e p q =
    let whole = filled_has_table table l t f in
    rw (e, p, q) (record { formed = f; well = formed_well _ _ _ (subst Formed (sym whole) f); same = whole })

pub no_count : {r : Refusal} {n : ℕ} → ◌≡◌ {A = Outcome ℕ} (refuses r) (gives n) → ⊥
no_count e = let z : ◌≡◌ {A = ℕ} 0 1 = cc in omega arith

pub same_count : {n m : ℕ} → ◌≡◌ {A = Outcome ℕ} (gives n) (gives m) → n ≡ m
same_count e = cc

pub same_refusal : {r q : Refusal} → ◌≡◌ {A = Outcome ℕ} (refuses r) (refuses q) → r ≡ q
same_refusal e = cc

-- a table that was built
pub record Built (x : Outcome Table) (n : ℕ) (l t : List ℕ) : Type 0 where
  pub table : Table
  pub built : x ≡ gives table
  pub stood : Stands table n l t

module _ (file l t s : List ℕ) (few : states ≤ length l) (wide : table_cells ≤ length t) (long : work_length ≤ length s) (l' t' s' : List ℕ) where
  as_built : (build_of file l t s).table ≡ filled_by l t (build_book file)
  as_built = rw (le-ltb (length l) states few, le-ltb (length t) table_cells wide, le-ltb (length s) work_length long) refl

  pub build_refused : (y : Result ℕ Refusal) (r : Refusal) → y ≡ Err r → Builds file l t s l' t' s' y → build_book file ≡ refuses r
  build_refused y r f b = go (build_book file) (sym (ap counted f) ∙ b.answer ∙ ap (λ (x : Filled). x.answer) as_built)
    where
      go : (x : Outcome Table) → refuses r ≡ (filled_by l t x).answer → x ≡ refuses r
      go (gives u) e = absurd (no_count e)
      go (refuses q) e = ap refuses (sym (same_refusal e))

  pub build_gave : (y : Result ℕ Refusal) (n : ℕ) → y ≡ Ok n → Builds file l t s l' t' s' y → Built (build_book file) n l' t'
  build_gave y n f b =
      go (build_book file) refl (sym (ap counted f) ∙ b.answer ∙ ap (λ (x : Filled). x.answer) as_built)
      (b.labels ∙ ap (λ (x : Filled). x.labels) as_built) (b.targets ∙ ap (λ (x : Filled). x.targets) as_built)
    where
      go : (x : Outcome Table) → build_book file ≡ x → gives n ≡ (filled_by l t x).answer → l' ≡ (filled_by l t x).labels
          → t' ≡ (filled_by l t x).targets → Built x n l' t'
      go (refuses r) d e p q = absurd (no_count (sym e))
      go (gives u) d e p q =
          let left = the_call file l t s n (sym b.answer ∙ ap counted f) in
          let formed = (the_build file left.book left.after u left.read d).formed in
          record { table = u; built = refl; stood = stands u n l t l' t' formed (same_count e) p q }

-- a table that was loaded
pub record Read (x : Answer Table) (n : ℕ) (l t : List ℕ) : Type 0 where
  pub table : Table
  pub after : ℕ
  pub read : x ≡ got table after
  pub stood : Stands table n l t

module _ (file l t : List ℕ) (few : states ≤ length l) (wide : table_cells ≤ length t) (l' t' : List ℕ) where
  as_read : load_of file l t ≡ load_read l t (read_sheet file)
  as_read = rw (le-ltb (length l) states few, le-ltb (length t) table_cells wide) refl

  pub load_refused : (y : Result ℕ Refusal) (r : Refusal) → y ≡ Err r → Loads file l t l' t' y → read_sheet file ≡ refused r
  load_refused y r f b = go (read_sheet file) (sym (ap counted f) ∙ b.answer ∙ ap (λ (x : Filled). x.answer) as_read)
    where
      go : (x : Answer Table) → refuses r ≡ (load_read l t x).answer → x ≡ refused r
      go (got u after) e = absurd (no_count e)
      go (refused q) e = ap refused (sym (same_refusal e))

  pub load_gave : Bytes file → (y : Result ℕ Refusal) (n : ℕ) → y ≡ Ok n → Loads file l t l' t' y → Read (read_sheet file) n l' t'
  load_gave all y n f b =
      go (read_sheet file) refl (sym (ap counted f) ∙ b.answer ∙ ap (λ (x : Filled). x.answer) as_read)
      (b.labels ∙ ap (λ (x : Filled). x.labels) as_read) (b.targets ∙ ap (λ (x : Filled). x.targets) as_read)
    where
      go : (x : Answer Table) → read_sheet file ≡ x → gives n ≡ (load_read l t x).answer → l' ≡ (load_read l t x).labels
          → t' ≡ (load_read l t x).targets → Read x n l' t'
      go (refused r) d e p q = absurd (no_count (sym e))
      go (got u after) d e p q =
          let formed = (sheet_back file all u after d).formed in
          record { table = u; after = after; read = refl; stood = stands u n l t l' t' formed (same_count e) p q }
