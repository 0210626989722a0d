-- `expression::choice`, `sequence` and `atom` call each other: the text that is left, with a rank, falls.
-- A loop carries the reading before it on as far as it has come.
-- Assumes nothing.
use Rattle.std.proofs.Common.{length, ◌-◌, ◌+◌, ◌*◌}
use Rattle.expression.specs.PartLaws.{SoFar, Sequences, Choices}
use Rattle.expression.proofs.+atom_choice_sequence.Given as goal

abbrev pub decreases-atom : goal.decreases-atom
decreases-atom l = 3 * (length l.text.now - l.at) + 0

abbrev pub decreases-choice : goal.decreases-choice
decreases-choice l = 3 * (length l.text.now - l.at) + 2

abbrev pub decreases-sequence : goal.decreases-sequence
decreases-sequence l = 3 * (length l.text.now - l.at) + 1

abbrev pub invariant-choice-loop-p : goal.invariant-choice-loop-p
invariant-choice-loop-p l = SoFar (Choices l.text l.room) l.initial.cells l.initial.p l.initial.t l.cells l.p l.t

abbrev pub decreases-choice-loop-p : goal.decreases-choice-loop-p
decreases-choice-loop-p l = length l.text - l.p

abbrev pub invariant-sequence-loop-p : goal.invariant-sequence-loop-p
invariant-sequence-loop-p l = SoFar (Sequences l.text l.room) l.initial.cells l.initial.p l.initial.t l.cells l.p l.t

abbrev pub decreases-sequence-loop-p : goal.decreases-sequence-loop-p
decreases-sequence-loop-p l = length l.text - l.p
