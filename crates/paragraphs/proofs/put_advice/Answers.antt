-- One case of the definition an arm; of every other refusal nothing is told.
use Rattle.std.proofs.Common.{rules, arith, refl, sym, ap, ◌∙◌}
use Rattle.number.specs.Quoted.{quoted}
use Rattle.advised.specs.Advice.{advice_on}
use Rattle.phrases.specs.WriteLaws.{writes_as}
use Rattle.advised.specs.CaseLaws.{typed_outside, typed_inside, range_none, range_outside, range_inside}
use Rattle.paragraphs.specs.PartLaws.{nothing_told, other_told}
use Rattle.paragraphs.specs.RoomLaws.{typed_room, range_room}
use Rattle.paragraphs.proofs.put_advice.Goals as goal

pub put_typed-requires-clause-p_in_bounds_2 : goal.put_typed-requires-clause-p_in_bounds_2
put_typed-requires-clause-p_in_bounds_2 c =
    omega (arith, c.requires.advice_room_in_bounds, typed_room c.args.text.now _ c.if-p-text.true c.requires.text_len_bound)

pub put_range-requires-clause-p_in_bounds_2 : goal.put_range-requires-clause-p_in_bounds_2
put_range-requires-clause-p_in_bounds_2 c =
    omega (arith, c.requires.advice_room_in_bounds, range_room c.args.text.now _ c.if-p-text-2.true c.requires.text_len_bound)

pub returns-in-Typed : goal.returns-in-Typed
returns-in-Typed c = writes_as (typed_inside _ _ c.if-p-text.true ∙ ap (advice_on c.args.text.now) (sym c.in-Typed.is)) c.put_typed.ensures

pub returns-in-Range : goal.returns-in-Range
unfolding quoted
returns-in-Range c =
    writes_as (range_none _ _ (search rules) refl ∙ ap (advice_on c.args.text.now) (sym c.in-Range.is)) c.put_text.ensures

pub returns-in-Range-2 : goal.returns-in-Range-2
returns-in-Range-2 c =
    writes_as (range_inside _ _ (search rules) c.if-p-text-2.true ∙ ap (advice_on c.args.text.now) (sym c.in-Range-2.is)) c.put_range.ensures

pub returns-in_default : goal.returns-in_default
returns-in_default c =
    nothing_told _ (ap (advice_on c.args.text.now) c.in-Typed.is ∙ sym (typed_outside _ _ c.if-p-text.false))

pub returns-in_default-2 : goal.returns-in_default-2
returns-in_default-2 c =
    nothing_told _ (ap (advice_on c.args.text.now) c.in-Range-2.is ∙ sym (range_outside _ _ (search rules) c.if-p-text-2.false))

pub returns-in_default-3 : goal.returns-in_default-3
returns-in_default-3 c = nothing_told _ (other_told _ _ (search rules) (search rules))
