-- What a transfer may come to by the system's calls: where it ended early, it moved fewer bytes than the buffer has. And how long a name may be.
-- More can't be promised: which answers the system gives only the system knows, and Main says that any of these may come of some.
use Rattle.std.specs.Prelude.{ℕ, ◌<◌, ◌≡◌, ◌≢◌, ◌⊎◌, ℤ, pos, Result, Ok, Err}
use Rattle.std.specs.IoError.{error_kind}
use Rattle.std.specs.declared.io.Error.{Error}
use Rattle.std.specs.declared.io.ErrorKind.TheVariants.{Interrupted as SignalCame}
use Rattle.transfer.specs.declared.Answer.{Answer}
use Rattle.transfer.specs.declared.Answer.TheVariants.{Interrupted, Faulted}
use Rattle.transfer.specs.declared.Transfer.{Transfer}
use Rattle.transfer.specs.declared.Transfer.TheVariants.{Going, All, Ended, Failed}
use Rattle.transfer.specs.Answers.{answer_of, go_on}

abbrev pub Within : ℕ → Transfer → Type 0
Within room (Ended n) = n < room
Within room All = Unit {0}
Within room Failed = Unit {0}
Within room (Going at left) = ⊥

-- what a call of the library's came to, by what it returned: as many bytes as it moved, or none; an interruption where a signal came first, and else
-- a failure
abbrev pub AnswersTo : Result ℕ Error → Answer → Type 0
AnswersTo (Ok n) answer = answer ≡ answer_of (pos n) (pos 0)
AnswersTo (Err e) answer = ((error_kind e ≡ SignalCame) × (answer ≡ Interrupted)) ⊎ ((error_kind e ≢ SignalCame) × (answer ≡ Faulted))

-- a turn: the transfer as some one answer more makes it; that this is the system's is not said
pub record Turned (room at left : ℕ) (t : Transfer) : Type 0 where
  pub got : ℤ
  pub error : ℤ
  pub is : t ≡ go_on room at left (answer_of got error)

-- what the name of a new file has behind the name that it is to take, and the length of a path with the 0 behind it
abbrev pub mark : ℕ
mark = 8

abbrev pub path : ℕ
path = 4096
