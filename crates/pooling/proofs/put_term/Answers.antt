-- `pooling::put_term` meets its contract: one law a quick way; else what was copied out is the term, and putting the copy puts it.
-- Assumes nothing.
use native.Mathlib.Omega.{arith}
use mathlib.Core.Path.{◌≡◌, sym, ◌∙◌}
use Rattle.term.specs.Nodes.{arity_of, Found}
use Rattle.term.specs.CellLaws.{found}
use Rattle.term.specs.ReadLaws.{leaf_below}
use Rattle.pool.specs.IndexLaws.{open_less}
use Rattle.pooling.specs.PutLaws.{put_held, put_leaf}
use Rattle.pooling.proofs.put_term.Goals as goal

pub returns-then-i-top : goal.returns-then-i-top
returns-then-i-top c = put_held _ _ _ _ _ c.requires.fact c.if-i-top.true

pub put_node-requires : goal.put_node-requires
put_node-requires c =
    let node : Found c.args.cells.now c.args.i c.node_at-node.result = found _ _ _ _ c.requires.sound (omega arith) c.node_at-node.ensures in
    let leaf : arity_of c.node_at-node.result ≡ 0 = sym c.arity.ensures ∙ c.if-arity-eq0.true in
    record { fact = open_less 1 c.requires.fact (omega arith); below = leaf_below node leaf _ }

pub returns-then-arity-eq0 : goal.returns-then-arity-eq0
returns-then-arity-eq0 c =
    let node : Found c.args.cells.now c.args.i c.node_at-node.result = found _ _ _ _ c.requires.sound (omega arith) c.node_at-node.ensures in
    let leaf : arity_of c.node_at-node.result ≡ 0 = sym c.arity.ensures ∙ c.if-arity-eq0.true in
    put_leaf node leaf c.put_node.ensures

pub put_copy-requires : goal.put_copy-requires
put_copy-requires c =
    record { some_copied = record { v = _; copied = c.copy_out-start.ensures }; fact = open_less _ c.requires.fact (omega (arith, c.copy_out-start.ensures.few, c.requires.i_bound)) }

pub returns : goal.returns
returns c =
    c.put_copy.ensures.put _ c.copy_out-start.ensures
