-- `typing::read_line` meets its contract: one law a return.
-- Assumes nothing.
use native.Mathlib.Omega.{arith}
use mathlib.Core.Path.{sym, ◌∙◌}
use Rattle.std.proofs.lemmas.Result.{err_from_is_err_and}
use Rattle.names.specs.ByteLaws.{byte_inside}
use Rattle.typing.specs.PassLaws.{line_kind_wrong, line_body_wrong, line_whole, line_open}
use Rattle.typing.proofs.read_line.Goals as goal
use Rattle.typing.proofs.read_line.Goals.{else-p-text-via-then-p-text+else-text-p-eq-NEWLINE, else-p-text-via-else-p-text}

pub returns-in_err-kind : goal.returns-in_err-kind
returns-in_err-kind c =
    let told = err_from_is_err_and c.from_residual.result c.from_residual.ensures.1 in
    rw (told.1, told.2) (line_kind_wrong _ _ _ _ c.in_err-kind.ensures)

pub returns-in_err-p : goal.returns-in_err-p
returns-in_err-p c =
    let told = err_from_is_err_and c.from_residual-in_err-p.result c.from_residual-in_err-p.ensures.1 in
    rw (told.1, told.2) (line_body_wrong _ _ _ _ _ _ _ c.in_ok-kind.ensures c.in_err-p.ensures)

pub returns-then-text-p-eq-NEWLINE : goal.returns-then-text-p-eq-NEWLINE
returns-then-text-p-eq-NEWLINE c = line_whole _ _ _ _ _ _ _ _ c.in_ok-kind.ensures c.in_ok-p.ensures c.if-p-text.true (sym (byte_inside _ _ c.if-p-text.true) ∙ c.if-text-p-eq-NEWLINE.true)

pub returns : goal.returns
returns c = line_open _ _ _ _ _ _ _ _ c.in_ok-kind.ensures c.in_ok-p.ensures (λ l z. elim c.else-p-text.branch [
  | else-p-text-via-then-p-text+else-text-p-eq-NEWLINE w ↦ w.if-text-p-eq-NEWLINE.false (byte_inside _ _ l ∙ z)
  | else-p-text-via-else-p-text w ↦ omega (arith, l, w.if-p-text.false)
])
