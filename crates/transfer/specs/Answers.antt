-- What an answer of the system's means, and how far a transfer of a buffer's bytes has come by a row of answers: as it is computed.
-- Came tells the same as a relation, and Main has the theorem between the two.
use Rattle.std.specs.Prelude.{ℕ, zero, suc, ◌+◌, Bool, true, false, cond, List, [], ◌∷◌, ltb, eqb, ℤ, pos, negsuc}
use Rattle.transfer.specs.declared.Answer.{Answer}
use Rattle.transfer.specs.declared.Answer.TheVariants.{Moved, Nothing, Interrupted, Faulted}
use Rattle.transfer.specs.declared.Transfer.{Transfer}
use Rattle.transfer.specs.declared.Transfer.TheVariants.{Going, All, Ended, Failed}

-- the error of a call that a signal interrupted before it moved anything: 4, and no other
abbrev pub of_error : ℤ → Answer
of_error (pos n) = cond (eqb n 4) Interrupted Faulted
of_error (negsuc n) = Faulted

-- a call answers how many bytes it moved, 0 where there are no more, or a number below 0 where it failed
abbrev pub answer_of : ℤ → ℤ → Answer
answer_of (pos zero) error = Nothing
answer_of (pos (suc k)) error = Moved (suc k)
answer_of (negsuc k) error = of_error error

abbrev pub again : ℕ → ℕ → Transfer
again at zero = Failed
again at (suc left) = Going at left

-- one answer more, where so many of the room's bytes have been moved and so many interruptions may still come
abbrev pub go_on : ℕ → ℕ → ℕ → Answer → Transfer
go_on room at left (Moved k) = cond (ltb (at + k) room) (Going (at + k) left) All
go_on room at left Nothing = Ended at
go_on room at left Interrupted = again at left
go_on room at left Faulted = Failed

-- what is done next where a transfer goes on; what is over stays as it is
abbrev pub onward : (ℕ → ℕ → Transfer) → Transfer → Transfer
onward next (Going at left) = next at left
onward next All = All
onward next (Ended n) = Ended n
onward next Failed = Failed

-- a row of answers, one after the other
abbrev pub run : ℕ → List Answer → ℕ → ℕ → Transfer
run room [] at left = Going at left
run room (a ∷ more) at left = onward (run room more) (go_on room at left a)

-- what a reader hands on as a file's bytes: of a file that ended so many, and else as many as there is room for, which stands for a file that is not to be had
abbrev pub taken_of : ℕ → Transfer → ℕ
taken_of room (Ended n) = n
taken_of room All = room
taken_of room Failed = room
taken_of room (Going at left) = room

abbrev pub is_all : Transfer → Bool
is_all All = true
is_all (Ended n) = false
is_all Failed = false
is_all (Going at left) = false
