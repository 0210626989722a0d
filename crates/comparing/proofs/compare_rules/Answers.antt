-- `comparing::compare_rules` meets its contract: the walk is refused, or what it found is shown.
-- Assumes nothing.
use native.Mathlib.Omega.{arith}
use Rattle.std.proofs.lemmas.Result.{err_from_is_err_and}
use Rattle.comparing.specs.AnswerLaws.{rules_refused, rules_legible, rules_traced, rules_shown}
use Rattle.comparing.proofs.compare_rules.Goals as goal

pub walk_from-requires : goal.walk_from-requires
walk_from-requires c =
    record { opened = c.requires.opened; work_length_in_bounds = c.requires.long; cells_len_bound = c.requires.small; closed = c.requires.closed; has_row = omega (arith, c.requires.some, c.requires.rows) }

pub show-requires : goal.show-requires
show-requires c =
    record { legible = rules_legible _ _ _ _ _ _ c.requires _ _ c.walk_from.ensures _ c.in_ok-held.was; traced = rules_traced _ _ _ _ _ _ c.requires _ _ c.walk_from.ensures _ c.in_ok-held.was; blank = c.requires.blank }

pub returns-in_err-held : goal.returns-in_err-held
returns-in_err-held c =
    let told = err_from_is_err_and c.from_residual.result c.from_residual.ensures.1 in
    rw (told.1, told.2) (rules_refused _ _ _ _ _ _ c.requires _ _ c.walk_from.ensures _ c.in_err-held.was)

pub returns : goal.returns
returns c =
    rules_shown _ _ _ _ _ _ c.requires _ _ c.walk_from.ensures _ c.in_ok-held.was _ _ c.show.ensures
