-- `places::find_rule` meets its contract: the way that is left leads where the whole way does, by one law of the way to a rule a turn.
-- Assumes nothing.
use Prim.Native.Nat.{◌-◌}
use mathlib.Core.Path.{◌≡◌}
use Rattle.book.specs.Answers.{find_rule}
use Rattle.places.proofs.find_rule.Given as goal

abbrev pub invariant-loop : goal.invariant-loop
invariant-loop l = find_rule l.book l.version l.left l.at ≡ find_rule l.book l.version (l.left - l.counter) l.place
