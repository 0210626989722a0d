-- `store_item` stores one item: its vector, then three cells more.
-- The memory is what these stores make of it.
use lib.ListN.{length-set}
use Rattle.vector.specs.Promises.{item_stored}
use borrow.Author.Rules.{rules}
use Rattle.vector.proofs.store_item.Goals as goal

pub bounds-cells-k-2 : goal.bounds-cells-k-2
bounds-cells-k-2 c = simp length-set (search rules)

pub bounds-cells-k-3 : goal.bounds-cells-k-3
bounds-cells-k-3 c = simp length-set (search rules)

pub returns : goal.returns
unfolding item_stored
returns c = rw c.store.ensures
