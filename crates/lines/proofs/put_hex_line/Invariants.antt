-- Each turn puts one byte in two digits, and what is behind it is left; the newline follows at the text's end.
use Rattle.std.proofs.Common.{◌+◌, ◌-◌, ◌*◌, ◌≤◌, length, drop}
use Rattle.lines.specs.Lines.{hex_line}
use Rattle.lines.specs.LineLaws.{Leads}
use Rattle.lines.proofs.put_hex_line.Given as goal

abbrev pub invariant-loop-i : goal.invariant-loop-i
invariant-loop-i l =
    record {
      room : l.end + 2 * (length l.text - l.i) ≤ l.at + 2 * (length l.text - l.from);
      leads : Leads (hex_line (drop l.from l.text)) l.initial.out l.at (hex_line (drop l.i l.text)) l.out l.end;
    }
