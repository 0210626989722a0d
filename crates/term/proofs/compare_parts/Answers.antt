-- `term::compare_parts` meets its contract: one law a way through a turn, and one for each end of the loop.
-- The measure is the number of nodes of the first term that are still to be seen. Assumes nothing.
use Prim.Native.Nat.{◌-◌}
use native.Mathlib.Omega.{arith}
use mathlib.Core.Path.{◌≡◌, refl, sym, ◌∙◌}
use Rattle.meaning.specs.Order.{order}
use Rattle.term.specs.Cells.{term}
use Rattle.term.specs.Nodes.{ordering}
use Rattle.term.specs.Compares.{Only, Both}
use Rattle.term.specs.CompareLaws.{ordering_decides, told, told_one, told_two, left_at, right_at, lefts-set, rights-set, comparing_first, nodes_asked, few_wait, told_last, told_apart, last_inside, last_less, last_next, one_next, two_fit, two_less, two_next}
use Rattle.term.proofs.compare_parts.Goals as goal

pub loop-order-init : goal.loop-order-init
loop-order-init c = comparing_first c.requires.i_value refl refl

pub compare_nodes-glance-requires : goal.compare_nodes-glance-requires
compare_nodes-glance-requires c =
    let asked = nodes_asked c.loop-order.invariant c.requires.sound c.requires.sound_2 in
    record { sound = asked.0; sound_2 = asked.1 }

pub returns-then-waiting-eq0 : goal.returns-then-waiting-eq0
returns-then-waiting-eq0 c =
    let pair-told : ordering c.in-Told.order ≡ order (term c.args.cells.now c.loop-order.a) (term c.args.cells.now c.loop-order.b) = told c.compare_nodes-glance.ensures c.in-Told.is in
    told_last c.loop-order.invariant pair-told c.if-waiting-eq0.true

pub returns-then-is_ne : goal.returns-then-is_ne
returns-then-is_ne c =
    let pair-told : ordering c.in-Told.order ≡ order (term c.args.cells.now c.loop-order.a) (term c.args.cells.now c.loop-order.b) = told c.compare_nodes-glance.ensures c.in-Told.is in
    told_apart c.loop-order.invariant pair-told (sym (c.is_ne.ensures ∙ ordering_decides c.in-Told.order) ∙ c.if-is_ne.true)

pub loop-order-smaller-in-Told : goal.loop-order-smaller-in-Told
loop-order-smaller-in-Told c =
    rw (← left_at c.loop-order.pairs (c.loop-order.waiting - 1))
    (last_less c.loop-order.invariant c.if-waiting-eq0.false)

pub loop-order-preserved-in-Told : goal.loop-order-preserved-in-Told
loop-order-preserved-in-Told c =
    let pair-told : ordering c.in-Told.order ≡ order (term c.args.cells.now c.loop-order.a) (term c.args.cells.now c.loop-order.b) = told c.compare_nodes-glance.ensures c.in-Told.is in
    rw (← left_at c.loop-order.pairs (c.loop-order.waiting - 1), ← right_at c.loop-order.pairs (c.loop-order.waiting - 1))
    (last_next c.loop-order.invariant c.if-waiting-eq0.false pair-told
    (sym (c.is_ne.ensures ∙ ordering_decides c.in-Told.order) ∙ c.if-is_ne.false))

pub loop-order-smaller-in-One : goal.loop-order-smaller-in-One
loop-order-smaller-in-One c =
    let only-told : Only c.args.cells.now
    c.loop-order.a c.loop-order.b c.in-One.c c.in-One.d = told_one c.compare_nodes-glance.ensures c.in-One.is in
    omega (arith, only-told.smaller)

pub loop-order-preserved-in-One : goal.loop-order-preserved-in-One
loop-order-preserved-in-One c =
    let only-told : Only c.args.cells.now
    c.loop-order.a c.loop-order.b c.in-One.c c.in-One.d = told_one c.compare_nodes-glance.ensures c.in-One.is in
    one_next c.loop-order.invariant only-told

pub loop-order-smaller : goal.loop-order-smaller
loop-order-smaller c =
    let both_told : Both c.args.cells.now
    c.loop-order.a c.loop-order.b c.in-Two.c c.in-Two.d
    c.in-Two.e c.in-Two.f = told_two c.compare_nodes-glance.ensures c.in-Two.is in
    rw (lefts-set c.loop-order.pairs c.loop-order.waiting c.in-Two.e c.in-Two.f)
    (two_less c.loop-order.invariant both_told)

pub loop-order-preserved : goal.loop-order-preserved
loop-order-preserved c =
    let both_told : Both c.args.cells.now
    c.loop-order.a c.loop-order.b c.in-Two.c c.in-Two.d
    c.in-Two.e c.in-Two.f = told_two c.compare_nodes-glance.ensures c.in-Two.is in
    rw (
      lefts-set c.loop-order.pairs c.loop-order.waiting c.in-Two.e c.in-Two.f,
      rights-set c.loop-order.pairs c.loop-order.waiting c.in-Two.e c.in-Two.f,
    )
    (two_next c.loop-order.invariant both_told)

pub bounds-pairs-waiting : goal.bounds-pairs-waiting
bounds-pairs-waiting c = last_inside c.loop-order.invariant c.if-waiting-eq0.false

pub bounds-pairs-waiting-in-Two : goal.bounds-pairs-waiting-in-Two
bounds-pairs-waiting-in-Two c = few_wait c.loop-order.invariant

pub overflow_cast-pairs : goal.overflow_cast-pairs
overflow_cast-pairs c =
    let both_told : Both c.args.cells.now
    c.loop-order.a c.loop-order.b c.in-Two.c c.in-Two.d
    c.in-Two.e c.in-Two.f = told_two c.compare_nodes-glance.ensures c.in-Two.is in
    omega (arith, (two_fit c.loop-order.invariant both_told c.requires.sound c.requires.sound_2).0)

pub overflow_cast-pairs-in-Two : goal.overflow_cast-pairs-in-Two
overflow_cast-pairs-in-Two c =
    let both_told : Both c.args.cells.now
    c.loop-order.a c.loop-order.b c.in-Two.c c.in-Two.d
    c.in-Two.e c.in-Two.f = told_two c.compare_nodes-glance.ensures c.in-Two.is in
    omega (arith, (two_fit c.loop-order.invariant both_told c.requires.sound c.requires.sound_2).1)

pub bounds-pairs-waiting-in-Told : goal.bounds-pairs-waiting-in-Told
bounds-pairs-waiting-in-Told c = last_inside c.loop-order.invariant c.if-waiting-eq0.false
