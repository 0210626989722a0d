-- All that is told of a refusal fits into the room that it is given, whatever the text and the refusal.
-- paragraphs has how long each text gets; here its cases are put together as advice_of has them.
use Rattle.std.specs.Prelude.{ℕ, ◌≤◌, ◌≡◌, cond, List, [], eqb, ltb, length}
use Rattle.std.proofs.Common.{arith, ltb-false}
use Rattle.number.specs.declared.Refusal.{Refusal}
use Rattle.number.specs.declared.Refusal.TheVariants.{Short, Number, Range, Stack, Tail, Long, Pool, States, Runs, Loaded, Room, Pairs, Input, Typed, Padded}
use Rattle.number.specs.Branch.{by_cond}
use Rattle.number.specs.Limits.{rules_file}
use Rattle.number.specs.Lists.{Writes}
use Rattle.meaning.specs.Re.{Text}
use Rattle.number.specs.Quoted.{quoted}
use Rattle.advised.specs.Advice.{typed_advice, range_advice, no_rule, unread, advice_on, advice_of, advice_room}
use Rattle.phrases.specs.WriteLaws.{writes_as}
use Rattle.paragraphs.specs.RoomLaws.{typed_room, range_room, unread_most}

abbrev Fits : List ℕ → Type 0
Fits w = length w ≤ advice_room

none_fits : Fits []
none_fits = omega arith

read_room : (text : Text) (r : Refusal) → length text ≤ rules_file → length (advice_on text r) ≤ advice_room
unfolding advice_on no_rule quoted
read_room text (Typed p) h =
    by_cond Fits (ltb (length text) p) {x = []} {y = typed_advice text p} (λ e. none_fits)
    (λ e. typed_room text p (ltb-false (length text) p e) h)
read_room text (Range p) h =
    by_cond Fits (eqb (length text) 0) {x = no_rule} {y = cond (ltb (length text) p) [] (range_advice text p)} (λ e. omega arith)
    (λ e. by_cond Fits (ltb (length text) p) {x = []} {y = range_advice text p} (λ f. none_fits) (λ f. range_room text p (ltb-false (length text) p f) h))
read_room text Input h = none_fits
read_room text (Short p) h = none_fits
read_room text (Number p) h = none_fits
read_room text (Padded p) h = none_fits
read_room text (Stack p) h = none_fits
read_room text (Tail p) h = none_fits
read_room text (Long p) h = none_fits
read_room text (Pool p) h = none_fits
read_room text (States p) h = none_fits
read_room text (Runs p) h = none_fits
read_room text Loaded h = none_fits
read_room text Room h = none_fits
read_room text (Pairs p) h = none_fits

pub advice_room_lem : (text : Text) (r : Refusal) → length (advice_of text r) ≤ advice_room
unfolding advice_of
advice_room_lem text r =
    by_cond Fits (ltb rules_file (length text)) {x = unread} {y = advice_on text r} (λ e. omega (arith, unread_most))
    (λ e. read_room text r (ltb-false rules_file (length text) e))

-- the advice fits, and so does its end
pub advice_fits : (text : Text) (r : Refusal) {w s t : List ℕ} {end : ℕ} → w ≡ advice_of text r → Writes w s t 0 end
    → Writes (advice_of text r) s t 0 end × (end ≤ advice_room)
advice_fits text r e a = (writes_as e a, omega (arith, (writes_as e a).place, advice_room_lem text r))
