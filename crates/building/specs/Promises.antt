-- What the code of building asks and promises: areas that are large enough, and what build answers and leaves.
-- Its promise cites Calls of built, where every answer is told; a refusal by the paper's number and place too (`row_of`).
use Rattle.std.specs.Prelude.{ℕ, ◌≤◌, ◌≡◌, List, length, Result}
use Rattle.number.specs.declared.Refusal.{Refusal}
use Rattle.number.specs.Limits.{states, table_cells, work_cells}
use Rattle.number.specs.Refused.{row_of}
use Rattle.table.specs.Calls.{counted}
use Rattle.vector.specs.Layout.{work_length}
use Rattle.built.specs.Calls.{build_of}

-- the areas are large enough, and cells of the work area have numbers of sixteen bits
pub record Roomy (l t s : List ℕ) : Type 0 where
  pub labels : states ≤ length l
  pub targets : table_cells ≤ length t
  pub long : work_length ≤ length s
  pub small : length s ≤ work_cells

-- build: its answer, and the three areas as they were (l, t, s) and are (l', t', s')
pub record Builds (file l t s l' t' s' : List ℕ) (r : Result ℕ Refusal) : Type 0 where
  pub answer : counted r ≡ (build_of file l t s).table.answer
  pub row : row_of (counted r) ≡ row_of (build_of file l t s).table.answer
  pub labels : l' ≡ (build_of file l t s).table.labels
  pub targets : t' ≡ (build_of file l t s).table.targets
  pub work : s' ≡ (build_of file l t s).work
