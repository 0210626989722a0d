-- Each turn puts a space and one number, and those behind it are left; the newline follows behind the last.
use Rattle.std.proofs.Common.{◌+◌, ◌*◌, ◌≤◌, drop}
use Rattle.lines.specs.Lines.{item_room}
use Rattle.lines.specs.LineLaws.{Leads, numbers_line, more_line}
use Rattle.lines.proofs.put_numbers.Given as goal

abbrev pub invariant-loop-n : goal.invariant-loop-n
invariant-loop-n l =
    record {
      room : l.next + 1 ≤ l.at + item_room * (l.n-index + 1);
      leads : Leads (numbers_line l.first l.more) l.fn.out l.at (more_line (drop l.n-index l.more)) l.out l.next;
    }
