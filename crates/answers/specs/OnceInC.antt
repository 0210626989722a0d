-- The calls for C have one answer for one input: the code, the four cells, and all lent memory.
-- One theorem for each call of crates/library; its premises are the equations that the call's contract states, twice.
use Rattle.std.specs.Prelude.{ℕ, ◌≡◌, List}
use Rattle.std.proofs.Common.{sym, ap, ◌∙◌}
use Rattle.meaning.specs.Re.{Text}
use Rattle.book.specs.Calls.{check_of, kind_of}
use Rattle.table.specs.Table.{well_formed}
use Rattle.table.specs.Calls.{Filled, load_of, write_of}
use Rattle.cutting.specs.Flat.{cut_cells_of}
use Rattle.built.specs.Calls.{Building, build_of}
use Rattle.verdict.specs.Calls.{Comparison, compare_of}
use Rattle.typed.specs.Calls.{type_of}
use Rattle.packed.specs.Packed.{Packed, left, packed, tested, told_count, told_size, told_kind, told_report, told_compared}

-- code and cells of one packed answer
packed_one : {x : Packed} {c d : ℕ} {a b : List ℕ} → left c a ≡ x → left d b ≡ x → (c ≡ d) × (a ≡ b)
packed_one p q = let e = p ∙ sym q in (ap (λ (z : Packed). z.code) e, ap (λ (z : Packed). z.cells) e)

module _ (c d : ℕ) (a b : List ℕ) where
  pub one_c_check : (book : List ℕ) → left c a ≡ packed told_size (check_of book) → left d b ≡ packed told_size (check_of book) → (c ≡ d) × (a ≡ b)
  one_c_check book p q = packed_one p q

  pub one_c_kind : (book : List ℕ) (rule : ℕ) → left c a ≡ packed told_kind (kind_of book rule) → left d b ≡ packed told_kind (kind_of book rule)
      → (c ≡ d) × (a ≡ b)
  one_c_kind book rule p q = packed_one p q

  pub one_c_test : (s : ℕ) (l t : List ℕ) → left c a ≡ packed told_count (tested (well_formed s l t))
      → left d b ≡ packed told_count (tested (well_formed s l t)) → (c ≡ d) × (a ≡ b)
  one_c_test s l t p q = packed_one p q

  pub one_c_build : (book l t w l₁ t₁ w₁ l₂ t₂ w₂ : List ℕ) → let x : Building = build_of book l t w in
      left c a ≡ packed told_count x.table.answer → l₁ ≡ x.table.labels → t₁ ≡ x.table.targets → w₁ ≡ x.work
      → left d b ≡ packed told_count x.table.answer → l₂ ≡ x.table.labels → t₂ ≡ x.table.targets → w₂ ≡ x.work
      → (c ≡ d) × (a ≡ b) × (l₁ ≡ l₂) × (t₁ ≡ t₂) × (w₁ ≡ w₂)
  one_c_build book l t w l₁ t₁ w₁ l₂ t₂ w₂ p pl pt pw q ql qt qw =
      let z = packed_one p q in (z.0, z.1, pl ∙ sym ql, pt ∙ sym qt, pw ∙ sym qw)

  pub one_c_load : (sheet l t l₁ t₁ l₂ t₂ : List ℕ) → let x : Filled = load_of sheet l t in
      left c a ≡ packed told_count x.answer → l₁ ≡ x.labels → t₁ ≡ x.targets
      → left d b ≡ packed told_count x.answer → l₂ ≡ x.labels → t₂ ≡ x.targets
      → (c ≡ d) × (a ≡ b) × (l₁ ≡ l₂) × (t₁ ≡ t₂)
  one_c_load sheet l t l₁ t₁ l₂ t₂ p pl pt q ql qt = let z = packed_one p q in (z.0, z.1, pl ∙ sym ql, pt ∙ sym qt)

  pub one_c_write : (s : ℕ) (l t o o₁ o₂ : List ℕ)
      → left c a ≡ packed told_count (write_of s l t o).answer → o₁ ≡ (write_of s l t o).out
      → left d b ≡ packed told_count (write_of s l t o).answer → o₂ ≡ (write_of s l t o).out
      → (c ≡ d) × (a ≡ b) × (o₁ ≡ o₂)
  one_c_write s l t o o₁ o₂ p po q qo = let z = packed_one p q in (z.0, z.1, po ∙ sym qo)

  pub one_c_type : (text : Text) (o o₁ o₂ : List ℕ)
      → left c a ≡ packed told_count (type_of text o).answer → o₁ ≡ (type_of text o).out
      → left d b ≡ packed told_count (type_of text o).answer → o₂ ≡ (type_of text o).out
      → (c ≡ d) × (a ≡ b) × (o₁ ≡ o₂)
  one_c_type text o o₁ o₂ p po q qo = let z = packed_one p q in (z.0, z.1, po ∙ sym qo)

  pub one_c_cut : (s : ℕ) (l t : List ℕ) (text : Text) (at : ℕ) (r r₁ r₂ : List ℕ)
      → left c a ≡ packed told_report (cut_cells_of s l t text at r).answer → r₁ ≡ (cut_cells_of s l t text at r).cells
      → left d b ≡ packed told_report (cut_cells_of s l t text at r).answer → r₂ ≡ (cut_cells_of s l t text at r).cells
      → (c ≡ d) × (a ≡ b) × (r₁ ≡ r₂)
  one_c_cut s l t text at r r₁ r₂ p pr q qr = let z = packed_one p q in (z.0, z.1, pr ∙ sym qr)

  pub one_c_comparison : (book : List ℕ) (s : ℕ) (l t area w a₁ w₁ a₂ w₂ : List ℕ) → let x : Comparison = compare_of book s l t area w in
      left c a ≡ packed told_compared x.answer → a₁ ≡ x.text → w₁ ≡ x.work
      → left d b ≡ packed told_compared x.answer → a₂ ≡ x.text → w₂ ≡ x.work
      → (c ≡ d) × (a ≡ b) × (a₁ ≡ a₂) × (w₁ ≡ w₂)
  one_c_comparison book s l t area w a₁ w₁ a₂ w₂ p pa pw q qa qw =
      let z = packed_one p q in (z.0, z.1, pa ∙ sym qa, pw ∙ sym qw)
