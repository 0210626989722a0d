-- How many members a term of so many nodes can have, by any operator: bounds for code that walks a chain, a choice or an And.
-- A short term, one of at most tree_nodes nodes, has at most 128 of each.
use Rattle.std.specs.Prelude.{◌+◌, ◌*◌, ◌/◌, ◌≤◌, ◌≡◌, true, length}
use Rattle.std.proofs.Common.{arith, length-append, leb-true, le-leb}
use Rattle.number.specs.Limits.{tree_nodes}
use Rattle.meaning.specs.Re.{Re, size}
use Rattle.meaning.specs.PartLaws.{size_some}
use Rattle.meaning.specs.declared.Join.{Join}
use Rattle.meaning.specs.Normal.{gathered}
use Rattle.meaning.specs.JoinLaws.{joined_size, by_members, gathered_alone, gathered_joined}
use Rattle.meaning.specs.Limited.{short}

pub members_size : (j : Join) (r : Re) → 2 * length (gathered j r) ≤ size r + 1
members_size j =
    by_members j (λ r. 2 * length (gathered j r) ≤ size r + 1) (λ r e. rw (gathered_alone j r e) (omega (arith, size_some r)))
    (λ a b f g. rw (gathered_joined j a b) (omega (arith, joined_size j a b, length-append (gathered j a) (gathered j b))))

-- of a short term
pub short_size : (r : Re) → short r ≡ true → size r ≤ tree_nodes
short_size r e = leb-true (size r) tree_nodes e

pub short_members : (j : Join) (r : Re) → short r ≡ true → length (gathered j r) ≤ (tree_nodes + 1) / 2
short_members j r e = omega (arith, members_size j r, short_size r e)

pub part_short : (r x : Re) → short r ≡ true → size x ≤ size r → short x ≡ true
part_short r x e h = le-leb (size x) tree_nodes (omega (arith, short_size r e))
