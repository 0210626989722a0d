-- A turn that goes on leaves fewer bytes to move, or as many and an interruption fewer.
use Rattle.std.proofs.Common.{length}
use Rattle.files.specs.TurnLaws.{Under, to_come}
use Rattle.files.proofs.write.Given as goal

abbrev pub invariant-loop-now : goal.invariant-loop-now
invariant-loop-now g l = Under (length l.bytes) l.now

abbrev pub decreases-loop-now : goal.decreases-loop-now
decreases-loop-now g l = to_come (length l.bytes) l.now
