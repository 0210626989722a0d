-- `start::add_rules` meets its contract: so far the terms of the first rules are in the pool, each with its parts, behind those before.
-- A rule that is too long ends it; past the last rule the whole vector is there. Assumes nothing.
use native.Mathlib.Omega.{arith}
use mathlib.Core.Path.{◌≡◌, refl}
use borrow.Author.Rules.{rules}
use Rattle.normal.specs.AnswerLaws.{got}
use Rattle.start.specs.StartLaws.{begun_first, rule_has, rule_room, rule_long, rule_puts, rule_more, begun_last}
use Rattle.start.proofs.add_rules.Goals as goal

pub loop-i-init : goal.loop-i-init
loop-i-init c =
    (refl, refl, begun_first c.requires.opened c.requires.n_bound c.requires.first c.requires.indexed)

pub rule_term-requires : goal.rule_term-requires
rule_term-requires c =
    record { has = rule_has c.requires.opened c.requires.n_bound c.loop-i.invariant.2 c.loop-i-test.true; sound = c.loop-i.invariant.2.first.kept.pooled.sound; room = rule_room c.requires.opened c.requires.n_bound c.loop-i.invariant.2 c.loop-i-test.true }

pub returns-in_err-made : goal.returns-in_err-made
returns-in_err-made c =
    rw c.from_residual.ensures (record {
      too_long = rule_long c.requires.opened c.requires.n_bound c.loop-i.invariant.2 c.loop-i-test.true c.rule_term.ensures c.in_err-made.was;
      terms = tt;
      first = tt;
      indexed = tt;
    })

pub put_term-placed-requires : goal.put_term-placed-requires
put_term-placed-requires c =
    let q = rule_puts c.requires.opened c.requires.n_bound c.loop-i.invariant.2 c.loop-i-test.true (got c.rule_term.ensures c.in_ok-made.was) in
    record { fact = q.ready; sound = q.sound; i_bound = q.small }

pub loop-i-preserved : goal.loop-i-preserved
loop-i-preserved c =
    let y = got c.rule_term.ensures c.in_ok-made.was in
    (search rules, search rules, rule_more c.requires.opened c.requires.n_bound c.loop-i.invariant.2 c.loop-i-test.true y c.put_term-placed.ensures)

pub returns : goal.returns
returns c =
    let all : c.loop-i.i ≡ c.args.n = omega (arith, c.loop-i.invariant.2.within) in
    record {
      too_long = tt;
      terms = begun_last c.requires.opened c.requires.n_bound c.loop-i.invariant.2 all;
      first = rw all at c.loop-i.invariant.2.first;
      indexed = c.loop-i.invariant.2.indexed;
    }
