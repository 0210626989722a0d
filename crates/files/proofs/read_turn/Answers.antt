-- One answer more, by what `answer_to` and `go_on` promise.
use Rattle.std.proofs.Common.{sym, subst}
use Rattle.files.specs.Within.{Turned}
use Rattle.files.specs.TurnLaws.{turned}
use Rattle.files.proofs.read_turn.Goals as goal

pub returns-clause-turned : goal.returns-clause-turned
returns-clause-turned g c = subst (Turned _ _ _) (sym c.go_on.ensures) (turned _ _ _ _ _ c.answer_to.ensures)
