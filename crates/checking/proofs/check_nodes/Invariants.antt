-- `checking::check_nodes` meets its contract: what is left to read tells what was asked, by one law of the nodes of a rule a turn.
-- Assumes nothing.
use Prim.Native.Nat.{ℕ, ◌+◌, ◌-◌, ◌≤◌}
use mathlib.Core.Path.{◌≡◌}
use Rattle.number.specs.declared.Refusal.{Refusal}
use Rattle.number.specs.Refused.Answer.{got, refused}
use Rattle.book.specs.CodeLaws.{counted}
use Rattle.checking.proofs.check_nodes.Given as goal

-- the rest is refused as the whole is; where it is got, the whole has the nodes read before it as well
abbrev pub invariant-loop : goal.invariant-loop
invariant-loop l =
    (l.standing ≤ l.counter)
    × ((r : Refusal) → counted l.book l.version (l.count - l.counter) l.standing l.place ≡ refused r → counted l.book l.version l.count 0 l.at ≡ refused r)
    × ((n all after : ℕ) → all ≡ l.counter + n → counted l.book l.version (l.count - l.counter) l.standing l.place ≡ got n after
    → counted l.book l.version l.count 0 l.at ≡ got all after)
