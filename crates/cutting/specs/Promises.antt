-- The promises of the two cuts, each as one record: the answer, a refusal by the paper's number and place too (`row_of`), and the lent memory afterwards, for every input.
-- The code's contracts cite these; specs/Calls.antt and specs/Flat.antt say what is answered and left, and specs/Put.antt of any memory.
use Rattle.std.specs.Prelude.{ℕ, ◌≡◌, List, Result}
use Rattle.number.specs.declared.Refusal.{Refusal}
use Rattle.number.specs.Refused.{row_of}
use Rattle.meaning.specs.Re.{Text}
use Rattle.cutting.specs.declared.Word.{Word}
use Rattle.cutting.specs.declared.Ended.{Ended}
use Rattle.cutting.specs.Calls.{ended, cut_from_of}
use Rattle.cutting.specs.Flat.{cut_cells_of}
use Rattle.cutting.specs.Put.{cut_slots_of}

-- into cells, from a place on
pub record CutsInto (s : ℕ) (labels targets : List ℕ) (text : Text) (at : ℕ) (cells₀ cells₁ : List ℕ) (r : Result Ended Refusal) : Type 0 where
  pub answer : ended r ≡ (cut_cells_of s labels targets text at cells₀).answer
  pub row : row_of (ended r) ≡ row_of (cut_cells_of s labels targets text at cells₀).answer
  pub cells : cells₁ ≡ (cut_cells_of s labels targets text at cells₀).cells

-- into records, from the start of the text
pub record CutsWords (s : ℕ) (labels targets : List ℕ) (text : Text) (words₀ words₁ : List Word) (r : Result Ended Refusal) : Type 0 where
  pub answer : ended r ≡ (cut_from_of s labels targets text 0 words₀).answer
  pub row : row_of (ended r) ≡ row_of (cut_from_of s labels targets text 0 words₀).answer
  pub records : words₁ ≡ (cut_from_of s labels targets text 0 words₀).records

-- into any memory, from a place on
pub record CutsSlots {M : Type 0} (room : M → ℕ) (put : M → ℕ → Word → M) (s : ℕ) (labels targets : List ℕ) (text : Text) (at : ℕ) (m₀ m₁ : M) (r : Result Ended Refusal) : Type 0 where
  pub answer : ended r ≡ (cut_slots_of room put s labels targets text at m₀).answer
  pub memory : m₁ ≡ (cut_slots_of room put s labels targets text at m₀).memory
