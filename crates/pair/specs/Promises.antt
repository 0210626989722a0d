-- What the code of pair asks: the items of a walk, in order.
-- What it tells is stateOf and number_told, of verdict.
use Rattle.std.specs.Prelude.{ℕ, ◌<◌, ◌≤◌, List}
use Rattle.vector.specs.Layout.{items}
use Rattle.vector.specs.Memory.{Kept}

-- the items are in order, so that the number told for item i can be worked out
pub record Numbered (s : List ℕ) (n count i : ℕ) : Type 0 where
  pub top : ℕ
  pub kept : Kept s n top count
  pub few : count ≤ items
  pub inside : i < count
