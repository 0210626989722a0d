-- `number::read_number` meets its contract: each return is one way of reading, with the tests and bytes that led there.
-- Assumes nothing.
use Prim.Native.Nat.{ℕ}
use native.Mathlib.Omega.{arith}
use mathlib.Core.Path.{◌≡◌, refl, ◌∙◌}
use mathlib.Core.List.{List}
use Rattle.number.specs.declared.Grouped.{Grouped}
use Rattle.number.specs.Refused.{Answer}
use Rattle.number.specs.Numbers.{taken}
use Rattle.number.specs.Promises.{ReadsNumber, reads_number}
use Rattle.number.proofs.NumberLaws.{Way, way_read, way_groups}
use Rattle.number.proofs.NumberLaws.Way.{none, one, half, two, most, three, over}
use Rattle.number.proofs.read_number.Goals as goal

-- what is answered is what that way answers, and the groups are those that it read
by_way : {s : List ℕ} {at : ℕ} {x : Answer ℕ} {r : Grouped} → taken r.taken ≡ x → Way s at x r.groups → ReadsNumber s at r
by_way {s} {at} e way = reads_number (e ∙ way_read s at way) (way_groups s at way)

pub returns-then-bytes-at : goal.returns-then-bytes-at
returns-then-bytes-at c = by_way refl (none c.if-bytes-at.true)

pub returns-then-a-lt-GROUP : goal.returns-then-a-lt-GROUP
returns-then-a-lt-GROUP c = by_way refl (one _ (omega arith) refl c.if-a-lt-GROUP.true)

pub returns-then-bytes-at-le1 : goal.returns-then-bytes-at-le1
returns-then-bytes-at-le1 c = by_way refl (half _ (omega arith) refl (omega arith) (omega arith))

pub returns-then-b-lt-GROUP : goal.returns-then-b-lt-GROUP
returns-then-b-lt-GROUP c =
    by_way c.shortest-taken.ensures (two _ _ (omega arith) refl refl (omega arith) (omega arith))

pub returns-then-bytes-at-le2 : goal.returns-then-bytes-at-le2
returns-then-bytes-at-le2 c =
    by_way refl (most _ _ (omega arith) refl refl (omega arith) (omega arith) (omega arith))

pub returns-then-c-lt-GROUP : goal.returns-then-c-lt-GROUP
returns-then-c-lt-GROUP c =
    by_way c.shortest-taken-then-c-lt-GROUP.ensures (three _ _ _ (omega arith) refl refl refl (omega arith) (omega arith) (omega arith))

pub returns : goal.returns
returns c =
    by_way refl (over _ _ _ (omega arith) refl refl refl (omega arith) (omega arith) c.if-c-lt-GROUP.false)
