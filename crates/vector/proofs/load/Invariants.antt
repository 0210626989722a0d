-- `load` reads the vector of an item: so far the places passed are those of memory.
-- All 32 passed, the vector is the item's.
use Rattle.std.proofs.Common.{◌≡◌, ◌+◌, ◌*◌, length, take, drop}
use Rattle.number.specs.Limits.{rules}
use Rattle.vector.specs.Layout.{vectors_at}
use Rattle.vector.proofs.load.Given as goal

abbrev pub invariant-loop-i : goal.invariant-loop-i
invariant-loop-i l = (length l.at ≡ rules) × (take l.i l.at ≡ take l.i (drop (vectors_at + l.k * rules) l.cells))
