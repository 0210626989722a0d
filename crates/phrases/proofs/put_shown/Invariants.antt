-- The line's bytes from i on are left.
use Rattle.std.proofs.Common.{drop}
use Rattle.advised.specs.Advice.{shown_line}
use Rattle.phrases.specs.Left.{Left}
use Rattle.phrases.proofs.put_shown.Given as goal

abbrev pub invariant-loop-i : goal.invariant-loop-i
invariant-loop-i l = Left (shown_line (drop l.start l.text)) (shown_line (drop l.i l.text)) l.initial.out l.out l.at l.end
