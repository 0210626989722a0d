-- `candidates::could_end` meets its contract: the answer of type_rules, for an area that is large enough.
-- Assumes nothing.
use mathlib.Core.Path.{sym, ap, ◌∙◌}
use Rattle.std.proofs.Common.{rules}
use Rattle.table.specs.Calls.{wrote}
use Rattle.candidates.specs.TryLaws.{could_given, could_refused, elsewhere_is}
use Rattle.candidates.proofs.could_end.Goals as goal

pub returns-in-Ok : goal.returns-in-Ok
returns-in-Ok c = could_given c.args.tried.now _ (ap wrote (sym c.in-Ok.is) ∙ c.type_rules.ensures.answer)

pub returns-in-Err : goal.returns-in-Err
returns-in-Err c = could_refused c.args.tried.now _ _ (ap wrote (sym c.in-Err.is) ∙ c.type_rules.ensures.answer) (elsewhere_is _ _ _ (λ h. search rules) (λ h e. search rules))
