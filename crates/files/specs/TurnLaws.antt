-- A turn that goes on has less before it, and one that ended lies within the buffer, whatever the system answered.
-- For the proofs of read and write, whose turns differ in nothing but the call, and of read_all.
use Rattle.std.specs.Prelude.{ℕ, ◌+◌, ◌-◌, ◌<◌, ◌≤◌, pos, negsuc, Result, Ok, Err}
use Rattle.std.proofs.Common.{arith, ap, inl, inr}
use Rattle.std.specs.declared.io.Error.{Error}
use Rattle.transfer.specs.declared.Answer.{Answer}
use Rattle.transfer.specs.declared.Transfer.{Transfer}
use Rattle.transfer.specs.declared.Transfer.TheVariants.{Going, All, Ended, Failed}
use Rattle.transfer.specs.Answers.{go_on, taken_of}
use Rattle.files.specs.Within.{Within, Turned, AnswersTo}

-- what the library returned is one answer more
pub turned : (room at left : ℕ) (got : Result ℕ Error) (answer : Answer) → AnswersTo got answer → Turned room at left (go_on room at left answer)
turned room at left (Ok n) answer e = record { got = pos n; error = pos 0; is = ap (go_on room at left) e }
turned room at left (Err e) answer (inl h) = record { got = negsuc 0; error = pos 4; is = ap (go_on room at left) h.1 }
turned room at left (Err e) answer (inr h) = record { got = negsuc 0; error = pos 0; is = ap (go_on room at left) h.1 }

-- a transfer that goes on has room left, and one that ended moved fewer bytes than there is room for
abbrev pub Under : ℕ → Transfer → Type 0
Under room (Ended n) = n < room
Under room All = Unit {0}
Under room Failed = Unit {0}
Under room (Going at left) = at < room

-- what may still come: bytes and interruptions; nothing where it is over
abbrev pub to_come : ℕ → Transfer → ℕ
to_come room (Ended n) = 0
to_come room All = 0
to_come room Failed = 0
to_come room (Going at left) = room - at + left

-- what is handed on lies in the buffer
pub in_buffer : (room : ℕ) (t : Transfer) → Within room t → taken_of room t ≤ room
in_buffer room (Ended n) h = omega (arith, h)
in_buffer room All h = omega arith
in_buffer room Failed h = omega arith
in_buffer room (Going at left) h = omega arith
