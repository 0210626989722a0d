-- `names::known` meets its contract: what the sets from k on say of the part is what all say.
-- Assumes nothing.
use mathlib.Core.Path.{◌≡◌}
use lib.ListN.{drop}
use Prim.Native.Nat.{◌≤◌}
use Rattle.typed.specs.Reader.{known as known_of}
use Rattle.typed.specs.Sets.{sets}
use Rattle.names.proofs.known.Given as goal

abbrev pub invariant-loop-k : goal.invariant-loop-k
invariant-loop-k l = (l.k ≤ 12) × (known_of l.part sets ≡ known_of l.part (drop l.k sets))
