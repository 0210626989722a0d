-- Line and start are those of place i.
use Rattle.phrases.specs.SpotLaws.{SpotSoFar}
use Rattle.phrases.proofs.find_spot.Given as goal

abbrev pub invariant-loop-i : goal.invariant-loop-i
invariant-loop-i l = SpotSoFar l.before l.i l.line l.start
