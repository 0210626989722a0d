-- `shown::first_differing` meets its contract. The loop's invariant: the items passed agree, so that the answer is that of the others.
-- The measure is how many are left. Assumes nothing.
use Prim.Native.Nat.{ℕ, ◌+◌}
use native.Mathlib.Omega.{arith}
use mathlib.Core.Path.{◌≡◌, ap, ◌∙◌}
use mathlib.Core.List.{List}
use lib.ListN.{get_or}
use Rattle.meaning.specs.Rules.{label}
use Rattle.vector.specs.Layout.{sheets_at}
use Rattle.vector.specs.Vectors.{vector_of}
use Rattle.vector.specs.Memory.{numbers_at}
use Rattle.verdict.specs.Compare.{state_of}
use Rattle.shown.specs.ShowLaws.{left_first, left_next, left_found, left_none}
use Rattle.shown.proofs.first_differing.Goals as goal

pub loop-k-init : goal.loop-k-init
loop-k-init c =
    left_first c.args.cells.now c.args.n c.args.count c.args.labels.now

pub load-requires : goal.load-requires
load-requires c =
    record { long = c.requires.long; few = omega (arith, c.requires.few) }

pub label_of-by_book-requires : goal.label_of-by_book-requires
label_of-by_book-requires c =
    record { reads = rw c.load.ensures (c.requires.reads c.loop-k.k (omega arith)); from_le_to = omega arith }

pub offset_bounds-cells-k : goal.offset_bounds-cells-k
offset_bounds-cells-k c = omega (arith, c.requires.few)

pub bounds-cells-k : goal.bounds-cells-k
bounds-cells-k c = omega (arith, c.requires.few, c.requires.long)

pub bounds-labels-state : goal.bounds-labels-state
bounds-labels-state c =
    omega (arith, c.requires.sheets c.loop-k.k (omega arith), c.state_of-state.ensures)

pub overflow_cast-by_table : goal.overflow_cast-by_table
overflow_cast-by_table c = omega (arith, c.type_inv.labels c.state_of-state.result)

pub returns-then-by_book-by_table : goal.returns-then-by_book-by_table
returns-then-by_book-by_table c =
    let by_book : (c.label_of-by_book.result ≡ label (vector_of c.args.cells.now c.args.n (numbers_at c.args.cells.now c.loop-k.k))) = c.label_of-by_book.ensures ∙ ap (λ (v : List ℕ). label (vector_of c.args.cells.now c.args.n v)) c.load.ensures in
    let by_table : (get_or c.args.labels.now c.state_of-state.result 0 ≡ get_or c.args.labels.now (state_of (get_or c.args.cells.now (sheets_at + c.loop-k.k) 0)) 0) = ap (λ (q : ℕ). get_or c.args.labels.now q 0) c.state_of-state.ensures in
    left_found c.args.cells.now c.args.n c.args.count c.args.labels.now c.loop-k.k (omega arith) c.loop-k.invariant _ by_book _ by_table c.if-by_book-by_table.true

pub loop-k-preserved : goal.loop-k-preserved
loop-k-preserved c =
    let by_book : (c.label_of-by_book.result ≡ label (vector_of c.args.cells.now c.args.n (numbers_at c.args.cells.now c.loop-k.k))) = c.label_of-by_book.ensures ∙ ap (λ (v : List ℕ). label (vector_of c.args.cells.now c.args.n v)) c.load.ensures in
    let by_table : (get_or c.args.labels.now c.state_of-state.result 0 ≡ get_or c.args.labels.now (state_of (get_or c.args.cells.now (sheets_at + c.loop-k.k) 0)) 0) = ap (λ (q : ℕ). get_or c.args.labels.now q 0) c.state_of-state.ensures in
    left_next c.args.cells.now c.args.n c.args.count c.args.labels.now c.loop-k.k (omega arith) c.loop-k.invariant _ by_book _ by_table c.if-by_book-by_table.false

pub returns : goal.returns
returns c =
    left_none c.args.cells.now c.args.n c.args.count c.args.labels.now c.loop-k.k (omega arith) c.loop-k.invariant
