-- `store` puts a vector where its item has it: so far the places passed are written, and nothing else is.
-- All 32 passed, the whole vector stands there.
use Rattle.std.proofs.Common.{◌≡◌, ◌+◌, ◌*◌}
use Rattle.std.proofs.Math.Seq.{paste}
use Rattle.number.specs.Limits.{rules}
use Rattle.vector.specs.Layout.{vectors_at}
use Rattle.vector.proofs.store.Given as goal

abbrev pub invariant-loop-i : goal.invariant-loop-i
invariant-loop-i l = l.cells ≡ paste l.initial.cells (vectors_at + l.k * rules) l.v.at l.i
