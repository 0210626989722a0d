-- What find_spot promises: the line that a place is in, and where that line starts.
-- advised has what a line and its start are.
use Rattle.std.specs.Prelude.{ℕ, ◌+◌, ◌≤◌, ◌≡◌, List, length}
use Rattle.advised.specs.Advice.{newlines, last_start}

-- find_spot: the line that is reached after these bytes, and where it starts
pub record SpotOf (before : List ℕ) (line start : ℕ) : Type 0 where
  pub lines : line ≡ newlines before + 1
  pub starts : start ≡ last_start 0 0 before
  pub inside : start ≤ length before
  pub few : line ≤ length before + 1
