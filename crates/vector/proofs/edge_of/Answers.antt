-- `edge_of` works out a vector's next edge: so far the least of the edges of the terms passed.
-- Past the last rule it is the least of all.
use Rattle.std.proofs.Common.{◌≡◌, arith}
use Rattle.vector.specs.PlaceLaws.{least_first, least_more, least_last}
use Rattle.vector.proofs.edge_of.Goals as goal

pub loop-i-init : goal.loop-i-init
loop-i-init c = least_first c.args.cells.now c.args.n c.args.v.at c.args.byte

pub next_edge-requires : goal.next_edge-requires
next_edge-requires c =
    record { sound = c.requires.reads_short.reads.sound c.loop-i.i (omega arith); i_value = c.requires.reads_short.is_short c.loop-i.i (omega arith); byte_le_last_byte = c.requires.byte_le_last_byte }

pub loop-i-preserved : goal.loop-i-preserved
loop-i-preserved c =
    rw c.min-least.ensures (least_more _ _ _ c.args.byte c.loop-i.i c.loop-i.least _ c.requires.reads_short.reads (omega arith) c.next_edge.ensures c.loop-i.invariant)

pub returns : goal.returns
returns c =
    let e : c.loop-i.i ≡ c.args.n = omega arith in
    least_last c.args.cells.now c.args.n c.args.v.at c.args.byte c.loop-i.least c.requires.reads_short.reads (rw e at c.loop-i.invariant)
