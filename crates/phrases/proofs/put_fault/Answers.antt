-- `phrases::put_fault` meets its contract: one sentence a way.
-- Assumes nothing.
use mathlib.Core.Path.{refl}
use Rattle.number.specs.Quoted.{quoted}
use Rattle.phrases.specs.WriteLaws.{writes_as, room_as, fault_end, fault_byte}
use Rattle.phrases.proofs.put_fault.Goals as goal

pub put_text-requires : goal.put_text-requires
unfolding quoted
put_text-requires c = room_as _ (fault_end c.if-ends.true refl) c.requires

pub returns-then-ends : goal.returns-then-ends
unfolding quoted
returns-then-ends c = writes_as (fault_end c.if-ends.true refl) c.put_text.ensures

pub put_text-requires-2 : goal.put_text-requires-2
unfolding quoted
put_text-requires-2 c = room_as _ (fault_byte c.if-ends.false refl) c.requires

pub returns : goal.returns
unfolding quoted
returns c = writes_as (fault_byte c.if-ends.false refl) c.put_text-2.ensures
