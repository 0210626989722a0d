-- `steps::step` meets its contract: one law of answers for each return.
-- Assumes nothing.
use native.Mathlib.Omega.{arith}
use Rattle.steps.specs.AnswerLaws.{answer_long, answer_held, index_held, answer_full, answer_pool, answer_new, index_new}
use Rattle.steps.proofs.step.Goals as goal

pub load-v-requires : goal.load-v-requires
load-v-requires c =
    record { long = c.requires.ready.kept.long; few = omega (arith, c.requires.ready.inside, c.requires.ready.few, c.requires.ready.most) }

pub derive_vector-requires : goal.derive_vector-requires
derive_vector-requires c =
    record {
      indexed = c.requires.indexed;
      long = c.requires.ready.kept.long;
      few_rules = c.requires.ready.kept.few_rules;
      pooled = c.requires.ready.kept.pooled;
      low = c.requires.ready.low;
      shaped = c.requires.ready.kept.shaped;
      numbers = rw c.load-v.ensures (c.requires.ready.kept.numbers _ c.requires.ready.inside);
    }

pub find-requires : goal.find-requires
find-requires c =
    record { work_length_in_bounds = omega (arith, c.requires.ready.kept.long, c.in-Some.ensures.spared.same_length); count_le = omega (arith, c.requires.ready.few, c.requires.ready.most) }

pub returns-in_default-clause-steps : goal.returns-in_default-clause-steps
returns-in_default-clause-steps c =
    answer_long c.args.cells.now c.args.n c.args.held.top c.args.held.count c.args.limit c.args.i c.args.place c.args.byte c.args.sheet c.args.full c.requires.ready
    c.load-v.result.at c.load-v.ensures _ c.in_default.ensures.spared c.in_default.ensures.too_long

pub returns-in-Some-find-clause-steps : goal.returns-in-Some-find-clause-steps
returns-in-Some-find-clause-steps c =
    answer_held c.args.cells.now c.args.n c.args.held.top c.args.held.count c.args.limit c.args.i c.args.place c.args.byte c.args.sheet c.args.full c.requires.ready
    c.load-v.result.at c.load-v.ensures _ c.in-Some.ensures.spared _ _ c.in-Some.ensures.done _ c.in-Some-find.ensures

pub returns-in-Some-find-clause-follows : goal.returns-in-Some-find-clause-follows
returns-in-Some-find-clause-follows c =
    index_held c.args.cells.now c.args.n c.args.held.top c.args.held.count c.args.limit c.args.i c.args.place c.args.byte c.args.sheet c.args.full c.requires.ready
    c.load-v.result.at c.load-v.ensures _ c.in-Some.ensures.spared _ _ c.in-Some.ensures.done _ c.in-Some-find.ensures _ c.in-Some.ensures.indexed

pub returns-then-limit-held-clause-steps : goal.returns-then-limit-held-clause-steps
returns-then-limit-held-clause-steps c =
    answer_full c.args.cells.now c.args.n c.args.held.top c.args.held.count c.args.limit c.args.i c.args.place c.args.byte c.args.sheet c.args.full c.requires.ready
    c.load-v.result.at c.load-v.ensures _ c.in-Some.ensures.spared _ _ c.in-Some.ensures.done c.in_default-find.ensures (omega (arith, c.if-limit-held.true))

pub returns-then-derived-gt-POOL-clause-steps : goal.returns-then-derived-gt-POOL-clause-steps
returns-then-derived-gt-POOL-clause-steps c =
    answer_pool c.args.cells.now c.args.n c.args.held.top c.args.held.count c.args.limit c.args.i c.args.place c.args.byte c.args.sheet c.args.full c.requires.ready
    c.load-v.result.at c.load-v.ensures _ c.in-Some.ensures.spared _ _ c.in-Some.ensures.done c.in_default-find.ensures (omega arith) c.if-derived-gt-POOL.true

pub store_item-requires : goal.store_item-requires
store_item-requires c =
    record { long = omega (arith, c.requires.ready.kept.long, c.in-Some.ensures.spared.same_length); few = omega (arith, c.if-limit-held.false, c.requires.ready.most) }

pub returns-clause-steps : goal.returns-clause-steps
returns-clause-steps c =
    answer_new c.args.cells.now c.args.n c.args.held.top c.args.held.count c.args.limit c.args.i c.args.place c.args.byte c.args.sheet c.args.full c.requires.ready
    c.load-v.result.at c.load-v.ensures _ c.in-Some.ensures.spared _ _ c.in-Some.ensures.done c.in_default-find.ensures (omega (arith, c.if-limit-held.false)) c.if-derived-gt-POOL.false _ c.store_item.ensures

pub returns-clause-follows : goal.returns-clause-follows
returns-clause-follows c =
    index_new c.args.cells.now c.args.n c.args.held.top c.args.held.count c.args.limit c.args.i c.args.place c.args.byte c.args.sheet c.args.full c.requires.ready
    c.load-v.result.at c.load-v.ensures _ c.in-Some.ensures.spared _ _ c.in-Some.ensures.done c.in_default-find.ensures (omega (arith, c.if-limit-held.false)) c.if-derived-gt-POOL.false _ c.store_item.ensures _ c.in-Some.ensures.indexed
