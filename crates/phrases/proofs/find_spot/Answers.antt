-- Line and start are those of place i.
use Rattle.std.proofs.Common.{arith}
use Rattle.phrases.specs.SpotLaws.{spot_first, spot_newline, spot_other, spot_as, spot_last}
use Rattle.phrases.proofs.find_spot.Goals as goal

pub loop-i-init : goal.loop-i-init
loop-i-init c = spot_first _

pub overflow_add-line : goal.overflow_add-line
overflow_add-line c = omega (arith, c.loop-i.invariant.few)

pub loop-i-preserved : goal.loop-i-preserved
loop-i-preserved c =
    elim c.if-c-eq-NEWLINE.branch [
      | goal.then-c-eq-NEWLINE w ↦ spot_as _ _ w.line-is w.start-is (spot_newline _ _ _ _ (omega arith) w.if-c-eq-NEWLINE.true c.loop-i.invariant)
      | goal.else-c-eq-NEWLINE w ↦ spot_as _ _ w.line-is w.start-is (spot_other _ _ _ _ (omega arith) w.if-c-eq-NEWLINE.false c.loop-i.invariant)
    ]

pub returns : goal.returns
returns c = spot_last _ _ _ _ (omega arith) (omega arith) c.loop-i.invariant
