-- `turns::look_up` meets its contract. The loop's invariant: the kinds below the rule are the book's.
-- Assumes nothing.
use Rattle.std.proofs.Common.{◌≡◌, ℕ, ◌<◌, get_or}
use Rattle.programs.specs.Output.{kind_in}
use Rattle.turns.proofs.look_up.Given as goal

abbrev pub invariant-loop-rule : goal.invariant-loop-rule
invariant-loop-rule l = (j : ℕ) → j < l.rule → get_or l.kinds j 0 ≡ kind_in l.book j
