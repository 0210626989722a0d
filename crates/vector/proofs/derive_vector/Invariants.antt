-- `derive_vector` derives a vector place by place: so far the first places are done, in a pool that holds their terms.
-- A place that is too long ends it; past the last rule the whole vector is done.
use Rattle.std.proofs.Common.{◌≡◌, length}
use Rattle.vector.specs.DeriveLaws.{Going}
use Rattle.vector.proofs.derive_vector.Given as goal

abbrev pub invariant-loop-i : goal.invariant-loop-i
invariant-loop-i l =
    (length l.index ≡ length l.initial.index) × Going l.initial.cells l.top l.n l.v.at l.byte l.index l.cells l.next l.at l.i
