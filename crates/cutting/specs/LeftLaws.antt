-- Why the calls leave what specs/Left.antt tells: one law for any memory and whatever finds the first word, then its two uses, and that they agree.
-- A table that is not well formed is refused, and where no byte is left there is nothing to cut.
use Rattle.std.specs.Prelude.{ℕ, ◌*◌, ◌/◌, ◌≤◌, ◌≡◌, Bool, true, false, length, take, drop}
use Rattle.std.proofs.Common.{arith, sym, ap, ◌∙◌, length-append, length-drop, take_at}
use Rattle.std.proofs.Math.Path.{refl}
use mathlib.Core.List.{List, [], ◌∷◌, ◌++◌, flat_map}
use Rattle.std.proofs.Math.Seq.{take-append_seam, drop-append_seam}
use Rattle.number.specs.declared.Refusal.TheVariants.{Loaded}
use Rattle.number.specs.Refused.{Outcome, row_of}
use Rattle.number.specs.Refused.Row.{row}
use Rattle.number.specs.Refused.Outcome.{gives, refuses}
use Rattle.meaning.specs.Re.{Text}
use Rattle.meaning.specs.Words.{Found}
use Rattle.table.specs.Table.{Table, lent, well_formed}
use Rattle.cutting.specs.declared.Word.{Word}
use Rattle.cutting.specs.Steps.{FirstBy, first_by}
use Rattle.cutting.specs.Cut.{Cut}
use Rattle.cutting.specs.Cut.Ending.{Done}
use Rattle.cutting.specs.CutLaws.{Finds, by_table, cut_is}
use Rattle.cutting.specs.TileLaws.{cut_few}
use Rattle.cutting.specs.Calls.{Report, cut_of, recorded, cut_from_of}
use Rattle.cutting.specs.Flat.{flat, laid, cut_cells_of}
use Rattle.cutting.specs.LayLaws.{flat_length}
use Rattle.cutting.specs.TurnLaws.{cut_past}
use Rattle.cutting.specs.Left.{numbers_of, Leaves}

module _ {A : Type 0} (spread : List Word → List A) {F : Text → Found → Type 0} {first : Text → Found} (by : Finds F first) (text : Text) (at room : ℕ)
    (before : List A) where
  abbrev cut : Cut
  cut = cut_of first text at room

  pub leaves : (length cut.words ≤ room → length (spread cut.words) ≤ length before)
      → Leaves spread F text at room before (gives (record { ending = cut.ending; count = length cut.words }))
      (spread cut.words ++ drop (length (spread cut.words)) before)
  leaves fits =
      let is = cut_is by room at (drop at text) in
      let n = length (spread cut.words) in
      let room_for : n ≤ length before = fits (cut_few is) in
      record {
        words = cut.words;
        ending = cut.ending;
        cuts = is;
        answered = refl;
        few = cut_few is;
        front = take-append_seam (spread cut.words) _;
        behind = drop-append_seam (spread cut.words) _;
        whole = omega (arith, room_for, length-append (spread cut.words) (drop n before), length-drop n before);
      }

-- the cells of words are their numbers, three for each
flat_numbers : (ws : List Word) → flat ws ≡ numbers_of ws
unfolding flat flat_map
flat_numbers [] = refl
flat_numbers (w ∷ ws) = ap (λ xs. w.start ∷ w.len ∷ w.rule ∷ xs) (flat_numbers ws)

numbers_length : (ws : List Word) → length (numbers_of ws) ≡ 3 * length ws
numbers_length ws = ap length (sym (flat_numbers ws)) ∙ flat_length ws

cells_laid : (c : Cut) (cells : List ℕ) → (laid c cells).cells ≡ numbers_of c.words ++ drop (length (numbers_of c.words)) cells
cells_laid c cells = rw (numbers_length c.words, flat_numbers c.words) refl

-- the front of cells and of records, where n words were laid
cells_front : (c : Cut) (records : List Word) (cells : List ℕ) (n : ℕ) → length c.words ≡ n
    → take (3 * n) (laid c cells).cells ≡ numbers_of (take n (recorded c records).records)
cells_front c records cells n e =
    rw (← e, take-append_seam c.words (drop (length c.words) records), ← flat_numbers c.words)
    (take_at (flat c.words) (drop (3 * length c.words) cells) (3 * length c.words) (flat_length c.words))

given_one : {x y : Report} → ◌≡◌ {A = Outcome Report} (gives x) (gives y) → x ≡ y
given_one e = cc

not_given : {x : Report} → ◌≡◌ {A = Outcome Report} (refuses Loaded) (gives x) → ⊥
not_given e = let z : ◌≡◌ {A = ℕ} 0 1 = cc in omega arith

module _ (s : ℕ) (labels targets : List ℕ) (text : Text) (at : ℕ) where
  abbrev tbl : Table
  tbl = lent s labels targets

  pub records_left : well_formed s labels targets ≡ true → (records : List Word)
      → Leaves (λ ws. ws) (FirstBy tbl) text at (length records) records (cut_from_of s labels targets text at records).answer
      (cut_from_of s labels targets text at records).records
  records_left e records = rw e (leaves (λ ws. ws) (by_table tbl) text at (length records) records (λ few. few))

  pub cells_left : well_formed s labels targets ≡ true → (cells : List ℕ)
      → Leaves numbers_of (FirstBy tbl) text at (length cells / 3) cells (cut_cells_of s labels targets text at cells).answer
      (cut_cells_of s labels targets text at cells).cells
  cells_left e cells =
      let c = cut_of (first_by tbl) text at (length cells / 3) in
      rw (e, cells_laid c cells)
      (leaves numbers_of (by_table tbl) text at (length cells / 3) cells (λ few. omega (arith, few, numbers_length c.words)))

  pub calls_agree : (records : List Word) (cells : List ℕ) → length records ≡ length cells / 3
      → ((cut_cells_of s labels targets text at cells).answer ≡ (cut_from_of s labels targets text at records).answer)
      × ((x : Report) → (cut_from_of s labels targets text at records).answer ≡ gives x
      → take (3 * x.count) (cut_cells_of s labels targets text at cells).cells ≡ numbers_of (take x.count (cut_from_of s labels targets text at records).records))
  calls_agree records cells h = go (well_formed s labels targets) refl
    where
      counted : {x y : Report} → ◌≡◌ {A = Outcome Report} (gives x) (gives y) → x.count ≡ y.count
      counted e = let z = given_one e in ap (λ (r : Report). r.count) z

      go : (b : Bool) → well_formed s labels targets ≡ b
          → ((cut_cells_of s labels targets text at cells).answer ≡ (cut_from_of s labels targets text at records).answer)
          × ((x : Report) → (cut_from_of s labels targets text at records).answer ≡ gives x
          → take (3 * x.count) (cut_cells_of s labels targets text at cells).cells ≡ numbers_of (take x.count (cut_from_of s labels targets text at records).records))
      go true e =
          rw (e, ← h) (refl, λ x d. cells_front (cut_of (first_by tbl) text at (length records)) records cells x.count (counted d))
      go false e = rw e (refl, λ x d. absurd (not_given d))

  pub unformed : well_formed s labels targets ≡ false
      → ((records : List Word) → (row_of (cut_from_of s labels targets text at records).answer ≡ row 10 0) × ((cut_from_of s labels targets text at records).records ≡ records))
      × ((cells : List ℕ) → (row_of (cut_cells_of s labels targets text at cells).answer ≡ row 10 0) × ((cut_cells_of s labels targets text at cells).cells ≡ cells))
  unformed e = rw e (λ records. (refl, refl), λ cells. (refl, refl))

  pub nothing_left : well_formed s labels targets ≡ true → length text ≤ at
      → ((records : List Word) → cut_from_of s labels targets text at records ≡ record { answer = gives (record { ending = Done; count = 0 }); records = records })
      × ((cells : List ℕ) → cut_cells_of s labels targets text at cells ≡ record { answer = gives (record { ending = Done; count = 0 }); cells = cells })
  unfolding flat
  nothing_left e h = (
    λ records. rw (e, cut_past (first_by tbl) text at (length records) h) refl,
    λ cells. rw (e, cut_past (first_by tbl) text at (length cells / 3) h) refl,
  )
