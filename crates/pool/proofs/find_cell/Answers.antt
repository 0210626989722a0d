-- `pool::find_cell` meets its contract: along the chain, no cell that was passed holds the node.
-- The measure is the number that leads to the next cell, since links lead down. Assumes nothing.
use native.Mathlib.Omega.{arith}
use mathlib.Core.Path.{◌≡◌, sym, ◌∙◌}
use borrow.Author.Rules.{rules}
use Rattle.pool.specs.IndexLaws.{hash_small, chain_first, chain_next, chain_falls, chain_inside, chain_found, chain_end}
use Rattle.pool.proofs.find_cell.Goals as goal

pub offset_bounds-index-hash_of : goal.offset_bounds-index-hash_of
offset_bounds-index-hash_of c = omega (arith, hash_small c.args.node, c.hash_of.ensures)

pub bounds-index-hash_of : goal.bounds-index-hash_of
bounds-index-hash_of c =
    omega (arith, hash_small c.args.node, c.hash_of.ensures, c.requires.indexed.long)

pub overflow_cast-next : goal.overflow_cast-next
overflow_cast-next c = omega (arith, c.type_inv.index c.hash_of.result)

pub loop-next-init : goal.loop-next-init
loop-next-init c =
    rw c.hash_of.ensures (chain_first c.args.index.now c.args.cells.now c.args.top c.args.node c.requires.indexed)

pub node_at-requires : goal.node_at-requires
node_at-requires c =
    omega (arith, chain_inside c.loop-next.invariant, c.requires.top_in_bounds)

pub returns-then-eq : goal.returns-then-eq
returns-then-eq c =
    let same : c.node_at.result ≡ c.args.node = search rules in
    chain_found c.loop-next.invariant c.loop-next-test.true (sym c.node_at.ensures ∙ same)

pub link_at-next-requires : goal.link_at-next-requires
link_at-next-requires c =
    omega (arith, chain_inside c.loop-next.invariant, c.requires.top_in_bounds)

pub loop-next-smaller : goal.loop-next-smaller
loop-next-smaller c =
    omega (
      arith,
      c.link_at-next.ensures,
      chain_falls c.args.index.now c.args.cells.now c.args.top c.args.node c.requires.indexed
          c.loop-next.invariant c.loop-next-test.true,
    )

pub loop-next-preserved : goal.loop-next-preserved
loop-next-preserved c =
    let apart : c.node_at.result ≡ c.args.node → ⊥ = search rules in
    rw c.link_at-next.ensures (chain_next c.args.index.now c.args.cells.now c.args.top c.args.node c.requires.indexed
    c.loop-next.invariant c.loop-next-test.true (λ z. apart (c.node_at.ensures ∙ z)))

pub returns : goal.returns
returns c = chain_end c.loop-next.invariant (omega arith)
