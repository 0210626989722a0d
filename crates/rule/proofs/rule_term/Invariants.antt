-- `rule::rule_term` meets its contract: the rule's nodes stand at its place, each turn works off one of them, and at any time
-- what the rest of the work makes is the rule's normal form. Assumes nothing.
use Prim.Native.Nat.{ℕ, ◌-◌}
use mathlib.Core.Path.{◌≡◌}
use mathlib.Core.List.{List}
use lib.ListN.{length}
use Rattle.std.specs.Prelude.{Option}
use Rattle.term.specs.declared.Built.{Built}
use Rattle.rule.specs.Work.{RuleMade, Working, Worked}
use Rattle.rule.proofs.rule_term.Given as goal

-- the work that is left can be done, and what it makes is the rule's
abbrev pub invariant-loop : goal.invariant-loop
invariant-loop l =
    Working l.book l.place.version l.at (l.place.nodes - l.counter) l.cells l.free l.stack l.height × (length l.cells ≡ length l.initial.cells)
    × ((s : List ℕ) (r : Option Built) → Worked l.book l.place.version l.at (l.place.nodes - l.counter) l.cells l.free l.stack l.height s r
    → RuleMade l.book l.rule l.initial.cells l.top s r)
