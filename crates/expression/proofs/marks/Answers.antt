-- `expression::marks` meets its contract: the marks up to p are read.
-- Assumes nothing.
use mathlib.Core.Bool.{not}
use mathlib.Core.Path.{ap, sym, ◌∙◌}
use borrow.Author.Tests.{not-true, not-false}
use Rattle.names.specs.ByteLaws.{byte_inside}
use Rattle.expression.specs.PartLaws.{marks_more, marks_done, marks_end}
use Rattle.expression.proofs.marks.Goals as goal

pub returns-then-not-is_mark : goal.returns-then-not-is_mark
returns-then-not-is_mark c = marks_done _ _ _ _ _ _ _ _ c.loop-p.invariant _ (byte_inside _ _ c.loop-p-test.true) (sym (not-true c.is_mark.result (ap not c.if-not-is_mark.true)) ∙ c.is_mark.ensures)

pub loop-p-preserved : goal.loop-p-preserved
loop-p-preserved c = marks_more _ _ _ _ _ _ _ _ c.loop-p.invariant _ _ _ c.loop-p-test.true (byte_inside _ _ c.loop-p-test.true) (sym (not-false c.is_mark.result (ap not c.if-not-is_mark.false)) ∙ c.is_mark.ensures) c.mark-t.ensures

pub returns : goal.returns
returns c = marks_end _ _ _ _ _ _ _ _ c.loop-p.invariant c.loop-p-test.false c.loop-p.auto.p-end
