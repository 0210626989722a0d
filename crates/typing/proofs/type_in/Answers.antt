-- `typing::type_in` meets its contract: what was read decides; the law of each answer.
-- Assumes nothing.
use Rattle.std.proofs.lemmas.Result.{err_from_is_err_and}
use Rattle.typing.specs.SumLaws.{given_wrong}
use Rattle.typing.proofs.type_in.Goals as goal

pub returns-in_err-sum : goal.returns-in_err-sum
returns-in_err-sum c =
    let told = err_from_is_err_and c.from_residual.result c.from_residual.ensures.1 in
    rw (told.1, told.2) (given_wrong _ _ _ _ c.in_err-sum.ensures)
