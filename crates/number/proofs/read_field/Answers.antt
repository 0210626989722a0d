-- `number::read_field` meets its contract: the number that was read, told apart by `let .. else`, and then one law of fields a return.
-- Assumes nothing.
use mathlib.Core.Path.{◌≡◌, sym, ap, ◌∙◌}
use Rattle.number.specs.Numbers.{read_number, taken}
use Rattle.number.specs.Refused.Answer.{got}
use Rattle.number.specs.Promises.{reads_field}
use Rattle.number.proofs.NumberLaws.{field_refused, field_low, field_high, field_got}
use Rattle.number.proofs.read_field.Goals as goal
use Rattle.number.proofs.read_field.Goals.{In-Ok, then-value-lo-via-then-value-lo, then-value-lo-via-else-value-lo+then-hi-value}

-- the number that was read where it was not refused
value_read : (c : In-Ok) → read_number c.args.bytes.now c.args.at ≡ got c.in-Ok.value c.in-Ok.next
value_read c = sym c.read_number-read.ensures.answer ∙ ap taken c.in-Ok.is

pub returns-in_default : goal.returns-in_default
returns-in_default c =
    let told = ap taken c.in_default.is in
    reads_field (told ∙ sym (field_refused _ _ _ _ _ (sym c.read_number-read.ensures.answer ∙ told)))

pub returns-then-value-lo : goal.returns-then-value-lo
returns-then-value-lo c =
    let read = value_read (goal.at.returns-then-value-lo c).In-Ok in
    elim c.then-value-lo.branch [
      | then-value-lo-via-then-value-lo w ↦ reads_field (sym (field_low _ _ _ _ _ _ read w.if-value-lo.true))
      | then-value-lo-via-else-value-lo+then-hi-value w ↦ reads_field (sym (field_high _ _ _ _ _ _ read w.if-value-lo.false w.if-hi-value.true))
    ]

pub returns : goal.returns
returns c = reads_field (sym (field_got _ _ _ _ _ _ (value_read (goal.at.returns c).In-Ok) c.if-value-lo.false c.if-hi-value.false))
