-- `table::run_end` meets its contract: the first of the targets behind the start that is another ends the run. Assumes nothing.
use Rattle.std.proofs.Common.{rules, tests, ◌≡◌, ◌+◌, get_or}
use Rattle.std.proofs.lemmas.Iterator.{YieldsList-from_slice, IsFirst-from_position}
use Rattle.std.specs.List.{between}
use Rattle.table.specs.RunLaws.{run_stops, run_whole}
use Rattle.table.proofs.run_end.Goals as goal

pub returns-in-Some : goal.returns-in-Some
returns-in-Some c =
    let target = get_or c.args.targets.now c.args.from 0 in
    let first = IsFirst-from_position _ _ _ (λ x. x ≡ target → ⊥) (λ x. x ≡ target) c.in-Some.ensures.ran
    (YieldsList-from_slice (between (c.args.from + 1) c.args.end c.args.targets.now) cc) (λ x q k. search (rules, tests)) (λ x q k. search (rules, tests)) in
    run_stops c.args.targets.now c.args.from c.args.end c.requires.0 c.requires.1 c.in-Some.more first

pub returns-in-None : goal.returns-in-None
returns-in-None c =
    let target = get_or c.args.targets.now c.args.from 0 in
    let first = IsFirst-from_position _ _ _ (λ x. x ≡ target → ⊥) (λ x. x ≡ target) c.in-None.ensures.ran
    (YieldsList-from_slice (between (c.args.from + 1) c.args.end c.args.targets.now) cc) (λ x q k. search (rules, tests)) (λ x q k. search (rules, tests)) in
    run_whole c.args.targets.now c.args.from c.args.end c.requires.0 c.requires.1 first
