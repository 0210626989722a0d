-- `pooling::put_copy` meets its contract: one law for a turn, and one for the end of the loop. Assumes nothing.
use Rattle.std.proofs.Common.{◌<◌, ◌≤◌, length, refl, sym, arith, length-take-le}
use Rattle.pooling.specs.PutLaws.{putting_first, root_inside, put_copied, fit, asks, put_inside, putting_next, rooted_front}
use Rattle.pooling.proofs.put_copy.Goals as goal

pub loop-k-init : goal.loop-k-init
loop-k-init c = (refl, λ v p. putting_first c.args.index.now p c.requires.fact)

pub slice_bounds-node_of-end : goal.slice_bounds-node_of-end
slice_bounds-node_of-end c =
    let t = c.loop-k.invariant.1 c.requires.some_copied.v c.requires.some_copied.copied in
    omega (arith, t.high, t.same_length)

pub slice_bounds-node_of-end-in-loop-k : goal.slice_bounds-node_of-end-in-loop-k
slice_bounds-node_of-end-in-loop-k c =
    let t = c.loop-k.invariant.1 c.requires.some_copied.v c.requires.some_copied.copied in
    sym (length-take-le c.loop-k.height c.loop-k.out (omega (arith, t.high, t.same_length)))

pub node_of-node-requires : goal.node_of-node-requires
node_of-node-requires c =
    let t = c.loop-k.invariant.1 c.requires.some_copied.v c.requires.some_copied.copied in
    let more : c.loop-k.k < length c.args.out.now = omega (arith, c.loop-k-test.true, t.same_length) in
    rw (length-take-le c.loop-k.height c.loop-k.out (omega (arith, t.high, more, t.same_length))) (fit t more c.node_at-copied.ensures)

pub put_node-placed-requires : goal.put_node-placed-requires
put_node-placed-requires c =
    let t = c.loop-k.invariant.1 c.requires.some_copied.v c.requires.some_copied.copied in
    let more : c.loop-k.k < length c.args.out.now = omega (arith, c.loop-k-test.true, t.same_length) in
    let rooted = rooted_front c.loop-k.out c.loop-k.height (omega (arith, t.high, more, t.same_length)) c.node_of-node.ensures in
    let asked = asks t more c.node_at-copied.ensures rooted in
    record { fact = asked.0; below = asked.1 }

pub bounds-out-height : goal.bounds-out-height
bounds-out-height c =
    let t = c.loop-k.invariant.1 c.requires.some_copied.v c.requires.some_copied.copied in
    let more : c.loop-k.k < length c.args.out.now = omega (arith, c.loop-k-test.true, t.same_length) in
    let rooted = rooted_front c.loop-k.out c.loop-k.height (omega (arith, t.high, more, t.same_length)) c.node_of-node.ensures in
    put_inside t more c.node_at-copied.ensures rooted

pub loop-k-preserved : goal.loop-k-preserved
loop-k-preserved c =
    let t = c.loop-k.invariant.1 c.requires.some_copied.v c.requires.some_copied.copied in
    let more : c.loop-k.k < length c.args.out.now = omega (arith, c.loop-k-test.true, t.same_length) in
    let rooted = rooted_front c.loop-k.out c.loop-k.height (omega (arith, t.high, more, t.same_length)) c.node_of-node.ensures in (
      omega (arith, c.loop-k.invariant.0),
      λ v p. putting_next (c.loop-k.invariant.1 v p) more c.node_at-copied.ensures rooted c.put_node-placed.ensures,
    )

pub bounds-out-0 : goal.bounds-out-0
bounds-out-0 c =
    let t = c.loop-k.invariant.1 c.requires.some_copied.v c.requires.some_copied.copied in
    root_inside t (omega (arith, c.loop-k-test.false, t.same_length))

pub returns : goal.returns
returns c =
    let t = c.loop-k.invariant.1 c.requires.some_copied.v c.requires.some_copied.copied in
    let none : length c.args.out.now ≤ c.loop-k.k = omega (arith, c.loop-k-test.false, t.same_length) in
    record { put = λ v p. put_copied (c.loop-k.invariant.1 v p) none c.args.out.now p refl }
