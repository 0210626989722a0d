-- What was handed over and what is left make up the whole. The measure is how many bytes of the text are left.
use Rattle.std.proofs.Common.{◌*◌, ◌≤◌, ◌≡◌, length, ◌-◌}
use Rattle.programs.specs.Print.{cut_print, cut_room}
use Rattle.turns.specs.Turned.{kind_by}
use Rattle.cut_lines.specs.Rest.{rest_lines}
use Rattle.printed.specs.Handed.{Over}
use Rattle.printed.proofs.print_turns.Given as goal

abbrev pub invariant-loop-end : goal.invariant-loop-end
invariant-loop-end g l =
    (length l.records ≡ length l.initial.records) × (length l.out ≡ length l.initial.out)
    × (l.from ≤ length l.initial.text) × (l.sum ≤ l.from) × (l.handed ≤ cut_room * l.from)
    × Over (cut_print l.initial.book l.initial.text) l.handed
    (rest_lines (kind_by l.initial.kinds) l.initial.count l.initial.labels l.initial.targets l.initial.text l.from l.sum)

abbrev pub decreases-loop-end : goal.decreases-loop-end
decreases-loop-end g l = length l.initial.text - l.from
