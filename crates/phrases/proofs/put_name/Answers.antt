-- `phrases::put_name` meets its contract: one law a way.
-- Assumes nothing.
use native.Mathlib.Omega.{arith}
use mathlib.Core.Path.{refl}
use Rattle.number.specs.Quoted.{quoted}
use Rattle.phrases.specs.WriteLaws.{writes_as, room_as, name_space, name_newline, name_other}
use Rattle.phrases.proofs.put_name.Goals as goal

pub put_text-requires : goal.put_text-requires
unfolding quoted
put_text-requires c = room_as _ (name_space _ c.if-c-eq32.true refl) c.requires

pub returns-then-c-eq32 : goal.returns-then-c-eq32
unfolding quoted
returns-then-c-eq32 c =
    writes_as (name_space _ c.if-c-eq32.true refl) c.put_text.ensures

pub put_text-requires-then-c-eq-NEWLINE : goal.put_text-requires-then-c-eq-NEWLINE
unfolding quoted
put_text-requires-then-c-eq-NEWLINE c =
    room_as _ (name_newline _ c.if-c-eq32.false c.if-c-eq-NEWLINE.true refl) c.requires

pub returns-then-c-eq-NEWLINE : goal.returns-then-c-eq-NEWLINE
unfolding quoted
returns-then-c-eq-NEWLINE c =
    writes_as (name_newline _ c.if-c-eq32.false c.if-c-eq-NEWLINE.true refl) c.put_text-then-c-eq-NEWLINE.ensures

pub put_byte-requires : goal.put_byte-requires
unfolding quoted
put_byte-requires c =
    omega (arith, room_as c.args.at (name_other _ _ c.if-c-eq32.false c.if-c-eq-NEWLINE.false c.printed.ensures) c.requires)

pub returns : goal.returns
returns c =
    writes_as (name_other _ _ c.if-c-eq32.false c.if-c-eq-NEWLINE.false c.printed.ensures) c.put_byte.ensures
