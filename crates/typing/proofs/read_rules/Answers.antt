-- `typing::read_rules` meets its contract: the lines up to p are read and added.
-- Assumes nothing.
use Rattle.std.proofs.lemmas.Result.{err_from_is_err_and}
use native.Mathlib.Omega.{arith}
use Rattle.typing.specs.SumLaws.{rules_first, rules_next, rules_wrong, rules_all}
use Rattle.typing.proofs.read_rules.Goals as goal

pub loop-p-init : goal.loop-p-init
loop-p-init c = rules_first _ c.args.cells.now _ (omega arith) c.requires

pub returns-in_err-line : goal.returns-in_err-line
returns-in_err-line c =
    let told = err_from_is_err_and c.from_residual.result c.from_residual.ensures.1 in
    rw (told.1, told.2) (rules_wrong _ _ _ _ _ c.loop-p.invariant _ _ c.in_err-line.ensures)

pub loop-p-preserved : goal.loop-p-preserved
loop-p-preserved c = rules_next _ _ _ _ _ c.loop-p.invariant _ _ _ _ _ _ c.in_ok-line.ensures c.add_line-sum.ensures

pub returns : goal.returns
returns c = rules_all _ _ _ _ _ c.loop-p.invariant c.loop-p-test.false
