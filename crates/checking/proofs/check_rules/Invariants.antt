-- `checking::check_rules` meets its contract: what is left to read tells what was asked, by one law of the rules of a book a turn.
-- Assumes nothing.
use Prim.Native.Nat.{ℕ, ◌+◌, ◌-◌, ◌≤◌}
use mathlib.Core.Path.{◌≡◌}
use Rattle.number.specs.Limits.{nodes}
use Rattle.number.specs.declared.Refusal.{Refusal}
use Rattle.number.specs.Refused.Answer.{got, refused}
use Rattle.book.specs.CodeLaws.{summed}
use Rattle.checking.proofs.check_rules.Given as goal

-- the rest is refused as the whole is; where it is got, the whole has the nodes of the rules read before it as well
abbrev pub invariant-loop : goal.invariant-loop
invariant-loop l =
    (l.sum ≤ nodes)
    × ((r : Refusal) → summed l.book l.version (l.count - l.counter) l.sum l.place ≡ refused r → summed l.book l.version l.count 0 l.at ≡ refused r)
    × ((n all after : ℕ) → all ≡ l.sum + n → summed l.book l.version (l.count - l.counter) l.sum l.place ≡ got n after
    → summed l.book l.version l.count 0 l.at ≡ got all after)
