-- `places::rule_kind` meets its contract: what checking told decides, and past it the rule is found.
-- Assumes nothing.
use native.Mathlib.Omega.{arith}
use mathlib.Core.Path.{sym}
use Rattle.std.proofs.lemmas.Result.{err_from_is_err_and}
use Rattle.number.specs.Numbers.{Bytes}
use Rattle.book.specs.Promises.{tells_kind}
use Rattle.book.specs.PlaceLaws.{kind_refused, kind_none, kind_lost, kind_found}
use Rattle.places.proofs.rule_kind.Goals as goal

pub returns-in_err-rules : goal.returns-in_err-rules
returns-in_err-rules c =
    let told = err_from_is_err_and c.from_residual.result c.from_residual.ensures.1 in
    rw (told.1, told.2) (tells_kind (sym (kind_refused _ _ _ (sym c.in_err-rules.ensures.answer))))

pub returns-then-rules-rule : goal.returns-then-rules-rule
returns-then-rules-rule c = tells_kind (sym (kind_none _ _ _ _ (sym c.in_ok-rules.ensures.answer) c.if-rules-rule.true))

pub returns-in_err-place : goal.returns-in_err-place
returns-in_err-place c =
    let told = err_from_is_err_and c.from_residual-in_err-place.result c.from_residual-in_err-place.ensures.1 in
    let bytes : Bytes c.args.book.now = λ i h. omega (arith, c.type_inv.book i) in
    rw (told.1, told.2) (tells_kind (sym
    (kind_lost _ _ _ _ _ bytes (sym c.in_ok-rules.ensures.answer) c.if-rules-rule.false (sym c.in_err-place.ensures))))

pub returns : goal.returns
returns c =
    let bytes : Bytes c.args.book.now = λ i h. omega (arith, c.type_inv.book i) in
    tells_kind (sym (kind_found _ _ _ _ _ bytes (sym c.in_ok-rules.ensures.answer) c.if-rules-rule.false (sym c.in_ok-place.ensures)))
