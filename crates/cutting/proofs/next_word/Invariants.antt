-- `cutting::next_word` meets its contract. The loop's invariant: the state was reached by the byte at `end`, its label is still to be
-- taken, and what remains of the scan is the whole scan. The measure is how many bytes are left. Assumes nothing.
use Prim.Native.Nat.{◌+◌, ◌-◌, ◌<◌, ◌≤◌}
use lib.ListN.{length}
use Rattle.meaning.specs.Words.{better}
use Rattle.meaning.specs.Words.Found.{Stuck}
use Rattle.cutting.specs.WalkLaws.{Along}
use Rattle.cutting.proofs.next_word.Given as goal

abbrev pub invariant-loop-ran : goal.invariant-loop-ran
invariant-loop-ran l =
    (l.at ≤ l.best) × (l.at ≤ l.end) × (l.end < length l.text) × Along l.count l.labels l.targets l.text l.at l.state (l.end + 1) (better (l.best - l.at) l.label Stuck)

abbrev pub decreases-loop-ran : goal.decreases-loop-ran
decreases-loop-ran l = length l.text - l.end
