-- `label_of` works out the label of a part of a vector: so far no term passed matches the empty text, so the label is that of what remains.
-- The first that matches ends it; past the last rule there is none.
use Rattle.std.proofs.Common.{◌≡◌, arith}
use Rattle.vector.specs.PlaceLaws.{label_first, label_found, label_next, label_none}
use Rattle.vector.proofs.label_of.Goals as goal

pub loop-i-init : goal.loop-i-init
loop-i-init c = label_first c.args.cells.now c.args.from c.args.to c.args.v.at

pub nullable-requires : goal.nullable-requires
nullable-requires c = c.requires.reads.sound c.loop-i.i (omega arith)

pub returns-then-nullable : goal.returns-then-nullable
returns-then-nullable c =
    label_found c.args.cells.now c.args.from c.args.to c.args.v.at c.requires.reads c.loop-i.i _ (omega arith) c.loop-i.invariant c.nullable.ensures c.if-nullable.true

pub loop-i-preserved : goal.loop-i-preserved
loop-i-preserved c =
    label_next c.args.cells.now c.args.from c.args.to c.args.v.at c.requires.reads c.loop-i.i _ (omega arith) c.loop-i.invariant c.nullable.ensures c.if-nullable.false (omega arith)

pub returns : goal.returns
returns c =
    let e : c.loop-i.i ≡ c.args.to = omega (arith, c.requires.from_le_to) in
    label_none c.args.cells.now c.args.from c.args.to c.args.v.at c.requires.reads (rw e at c.loop-i.invariant)
