-- What a row of the system's answers comes to, told of the answers alone: which of them decides it, and what stood before that one.
-- Answers computes the same by one answer after the other; Main has the theorem between the two.
use Rattle.std.specs.Prelude.{ℕ, suc, ◌+◌, ◌-◌, ◌<◌, ◌≤◌, List, [], ◌∷◌, ◌++◌}
use Rattle.transfer.specs.declared.Answer.{Answer}
use Rattle.transfer.specs.declared.Answer.TheVariants.{Moved, Nothing, Interrupted, Faulted}
use Rattle.transfer.specs.declared.Transfer.{Transfer}
use Rattle.transfer.specs.declared.Transfer.TheVariants.{Going, All, Ended, Failed}

-- answers that moved so many bytes in all and were interrupted so many times, and of which none failed or found nothing to move
pub data Moves : List Answer → ℕ → ℕ → Type 0 where
  none : Moves [] 0 0
  more : {answers : List Answer} {n i : ℕ} (k : ℕ) → Moves answers n i → Moves (Moved k ∷ answers) (k + n) i
  signal : {answers : List Answer} {n i : ℕ} → Moves answers n i → Moves (Interrupted ∷ answers) n (suc i)

-- such answers, with room left behind what they moved, and no more interruptions than there may be
pub record Front (room left : ℕ) (answers : List Answer) (n i : ℕ) : Type 0 where
  pub moves : Moves answers n i
  pub short : n < room
  pub patient : i ≤ left

-- a file ends where the system says that there is nothing more, and then has what was moved; all is moved where the room is used up;
-- it fails at a call that failed, and at one interruption too many; what comes behind the deciding answer is not looked at. Where none
-- decides, it goes on, with what was moved and the interruptions that are left
pub data Came (room left : ℕ) : List Answer → Transfer → Type 0 where
  ended : (front rest : List Answer) (n i : ℕ) → Front room left front n i → Came room left (front ++ (Nothing ∷ rest)) (Ended n)
  all : (front rest : List Answer) (n i k : ℕ) → Front room left front n i → room ≤ n + k → Came room left (front ++ (Moved k ∷ rest)) All
  failed : (front rest : List Answer) (n i : ℕ) → Front room left front n i → Came room left (front ++ (Faulted ∷ rest)) Failed
  tired : (front rest : List Answer) (n : ℕ) → Front room left front n left → Came room left (front ++ (Interrupted ∷ rest)) Failed
  going : (front : List Answer) (n i : ℕ) → Front room left front n i → Came room left front (Going n (left - i))
