-- `pool::put_node` meets its contract: a found node is held already, one that was not found is new.
-- The head of its chain becomes its link, and it the head. Assumes nothing.
use Prim.Native.Nat.{◌<◌}
use native.Mathlib.Omega.{arith}
use Rattle.term.specs.Nodes.{Fields}
use Rattle.term.specs.CellLaws.{below_fields}
use Rattle.pool.specs.Index.{heads}
use Rattle.pool.specs.IndexLaws.{hash_small}
use Rattle.pool.specs.NodeLaws.{put_old, put_new}
use Rattle.pool.proofs.put_node.Goals as goal

pub find_cell-requires : goal.find_cell-requires
find_cell-requires c =
    let fits : Fields c.args.node = below_fields c.args.node c.args.top (omega (arith, c.requires.fact.room, c.requires.fact.pooled.sound.small)) c.requires.below in
    record { indexed = c.requires.fact.indexed; top_in_bounds = c.requires.fact.pooled.sound.room; fields = fits }

pub returns-in-Some : goal.returns-in-Some
returns-in-Some c =
    put_old c.args.index.now c.args.cells.now c.args.top c.args.node c.requires.fact.pooled c.requires.fact.indexed c.requires.below
    c.in-Some.root c.in-Some.ensures

pub hash_of-hash-requires : goal.hash_of-hash-requires
hash_of-hash-requires c =
    let fits : Fields c.args.node = below_fields c.args.node c.args.top (omega (arith, c.requires.fact.room, c.requires.fact.pooled.sound.small)) c.requires.below in
    fits

pub offset_bounds-index-hash : goal.offset_bounds-index-hash
offset_bounds-index-hash c =
    let inside : c.hash_of-hash.result < heads = omega (arith, hash_small c.args.node, c.hash_of-hash.ensures) in
    omega (arith, inside)

pub bounds-index-hash : goal.bounds-index-hash
bounds-index-hash c =
    let inside : c.hash_of-hash.result < heads = omega (arith, hash_small c.args.node, c.hash_of-hash.ensures) in
    omega (arith, inside, c.requires.fact.indexed.long)

pub overflow_cast-link : goal.overflow_cast-link
overflow_cast-link c = omega (arith, c.type_inv.index c.hash_of-hash.result)

pub hold-next-requires : goal.hold-next-requires
hold-next-requires c =
    let known = c.type_inv.index c.hash_of-hash.result in
    record { sound = c.requires.fact.pooled.sound; top_in_bounds = omega (arith, c.requires.fact.room); below = c.requires.below; link_lt_field_size = omega (arith, known) }

pub offset_bounds-index-hash-2 : goal.offset_bounds-index-hash-2
offset_bounds-index-hash-2 c =
    let inside : c.hash_of-hash.result < heads = omega (arith, hash_small c.args.node, c.hash_of-hash.ensures) in
    omega (arith, inside)

pub bounds-index-hash-2 : goal.bounds-index-hash-2
bounds-index-hash-2 c =
    let inside : c.hash_of-hash.result < heads = omega (arith, hash_small c.args.node, c.hash_of-hash.ensures) in
    omega (arith, inside, c.requires.fact.indexed.long)

pub returns : goal.returns
returns c =
    put_new c.args.index.now c.args.cells.now c.args.top c.args.node c.requires.fact.pooled c.requires.fact.indexed c.requires.below _ _
    (c.in_default.ensures)
    c.hash_of-hash.ensures c.hold-next.ensures (omega (arith, c.requires.fact.inside))
