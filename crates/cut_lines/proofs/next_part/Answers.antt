-- `cut_lines::next_part` meets its contract: a turn's lines and what is left after it make up what was left before it.
-- Assumes nothing.
use Prim.Native.Nat.{◌/◌, ◌<◌}
use native.Mathlib.Omega.{arith}
use lib.ListN.{length}
use Rattle.cutting.specs.Flat.{record_cells}
use Rattle.turns.specs.Turned.{kind_by}
use Rattle.cut_lines.proofs.PartLaws.{turn_goes}
use Rattle.cut_lines.proofs.next_part.Goals as goal

pub returns : goal.returns
returns c =
    let some : 0 < length c.args.records.now / record_cells = omega (arith, c.requires.record_cells_in_bounds) in
    record { turned = c.cut_turn.ensures; goes = turn_goes (kind_by c.args.kinds.now) c.args.count c.args.labels.now c.args.targets.now c.args.text.now c.args.place c.args.total _ some _ _ _ c.cut_turn.ensures }
