-- `turns::put_words` meets its contract: each turn puts the line of one record, and those of the others are left.
-- Assumes nothing.
use Prim.Native.Nat.{◌-◌, ◌*◌, ◌≤◌}
use mathlib.Core.Path.{◌≡◌}
use lib.ListN.{length, drop}
use Rattle.cutting.specs.Flat.{record_cells}
use Rattle.lines.specs.Lines.{line_room}
use Rattle.lines.specs.LineLaws.{Leads}
use Rattle.turns.specs.Turned.{kind_by, cell_lines}
use Rattle.turns.proofs.put_words.Given as goal

abbrev pub invariant-loop-start : goal.invariant-loop-start
invariant-loop-start l =
    (length l.out ≡ length l.initial.out) × (l.end ≤ line_room * l.start-index)
    × Leads (cell_lines (kind_by l.kinds) l.records l.count) l.initial.out 0
    (cell_lines (kind_by l.kinds) (drop (record_cells * l.start-index) l.records) (l.count - l.start-index)) l.out l.end
