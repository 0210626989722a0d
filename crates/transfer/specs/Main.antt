-- What a transfer comes to, for every row of answers of the system: the theorems that are bought.
-- To believe them, read Came, with answer_of, run, taken_of and is_all of Answers; the rest is lemmas.
use Rattle.std.specs.Prelude.{ℕ, suc, ◌+◌, ◌<◌, ◌≤◌, ◌≡◌, refl, true, false, List, [], ◌∷◌, ◌++◌, T, ℤ, pos, negsuc}
use Rattle.std.proofs.Common.{arith, sym, ap, subst, ◌∙◌}
use Rattle.transfer.specs.declared.Answer.{Answer}
use Rattle.transfer.specs.declared.Answer.TheVariants.{Moved, Nothing, Interrupted, Faulted}
use Rattle.transfer.specs.declared.Transfer.{Transfer}
use Rattle.transfer.specs.declared.Transfer.TheVariants.{Going, All, Ended, Failed}
use Rattle.transfer.specs.Answers.{answer_of, run, taken_of, is_all}
use Rattle.transfer.specs.AnswerLaws.{faulted}
use Rattle.transfer.specs.Came.{Front, Came}
use Rattle.transfer.specs.Came.Came.{ended, all, failed, tired, going}
use Rattle.transfer.specs.CameLaws.{comes, only}

-- what a call answered: so many bytes; none; and below 0 a signal, which is error 4, or a failure, which is every other error
pub record Answered (error : ℤ) : Type 0 where
  pub moved : (k : ℕ) → answer_of (pos (suc k)) error ≡ Moved (suc k)
  pub nothing : answer_of (pos 0) error ≡ Nothing
  pub signal : (k : ℕ) → error ≡ pos 4 → answer_of (negsuc k) error ≡ Interrupted
  pub failure : (k : ℕ) → (error ≡ pos 4 → ⊥) → answer_of (negsuc k) error ≡ Faulted

pub the_answers : (error : ℤ) → Answered error
the_answers error = record { moved = λ k. refl; nothing = refl; signal = λ k e. ap (answer_of (negsuc k)) e; failure = λ k other. sym (faulted error other) }

-- of a buffer that is not empty: what is computed of a row of answers is what the row comes to, and nothing else
pub record Tells (room left : ℕ) (answers : List Answer) : Type 0 where
  pub comes_to : Came room left answers (run room answers 0 left)
  pub nothing_else : (t : Transfer) → Came room left answers t → t ≡ run room answers 0 left

pub the_transfers : (room left : ℕ) → 0 < room → (answers : List Answer) → Tells room left answers
the_transfers room left h answers = record { comes_to = comes room left h answers; nothing_else = λ t. only room left answers t }

-- a part is never taken for the whole: fewer bytes than there is room for are handed on exactly where the system said that there were no more,
-- and they are all that it had given by then, with no failure on the way
pub record WholeFile (room left : ℕ) (answers : List Answer) (n : ℕ) : Type 0 where
  pub front : List Answer
  pub rest : List Answer
  pub interruptions : ℕ
  pub said : answers ≡ front ++ (Nothing ∷ rest)
  pub given : Front room left front n interruptions

pub record HandsOn (room left : ℕ) (answers : List Answer) (n : ℕ) : Type 0 where
  pub only_whole : taken_of room (run room answers 0 left) ≡ n → WholeFile room left answers n
  pub each_whole : WholeFile room left answers n → taken_of room (run room answers 0 left) ≡ n

file_of : (room left : ℕ) (answers : List Answer) (t : Transfer) (n : ℕ) → n < room → Came room left answers t → taken_of room t ≡ n → WholeFile room left answers n
file_of room left answers t n h (ended front rest m i f) e =
    record { front = front; rest = rest; interruptions = i; said = refl; given = subst (λ x. Front room left front x i) e f }
file_of room left answers t n h (all front rest m i k f g) e = absurd (omega (arith, e, h))
file_of room left answers t n h (failed front rest m i f) e = absurd (omega (arith, e, h))
file_of room left answers t n h (tired front rest m f) e = absurd (omega (arith, e, h))
file_of room left answers t n h (going front m i f) e = absurd (omega (arith, e, h))

of_file : (room left : ℕ) (answers : List Answer) (n : ℕ) → WholeFile room left answers n → taken_of room (run room answers 0 left) ≡ n
of_file room left answers n w =
    let e = only room left (w.front ++ (Nothing ∷ w.rest)) (Ended n) (ended w.front w.rest n w.interruptions w.given) in
    ap (λ x. taken_of room (run room x 0 left)) w.said ∙ sym (ap (taken_of room) e)

pub the_whole_file : (room left : ℕ) (answers : List Answer) (n : ℕ) → n < room → HandsOn room left answers n
the_whole_file room left answers n h =
    record { only_whole = file_of room left answers (run room answers 0 left) n h (comes room left (let g = h in omega (arith, g)) answers); each_whole = of_file room left answers n }

-- a failure is told as a file that is not to be had, wherever it comes, and never as bytes that were written
pub record Unmoved (room left : ℕ) (answers : List Answer) : Type 0 where
  pub unread : taken_of room (run room answers 0 left) ≡ room
  pub unwritten : is_all (run room answers 0 left) ≡ false

pub the_failures : (room left : ℕ) (answers : List Answer) → Came room left answers Failed → Unmoved room left answers
the_failures room left answers came =
    let e = only room left answers Failed came in
    record { unread = sym (ap (taken_of room) e); unwritten = sym (ap is_all e) }

-- bytes, where there are any, count as written exactly where the last of them was taken, with no failure on the way
pub record WholeOutput (room left : ℕ) (answers : List Answer) : Type 0 where
  pub front : List Answer
  pub rest : List Answer
  pub before : ℕ
  pub last : ℕ
  pub interruptions : ℕ
  pub said : answers ≡ front ++ (Moved last ∷ rest)
  pub taken : Front room left front before interruptions
  pub full : room ≤ before + last

pub record Written (room left : ℕ) (answers : List Answer) : Type 0 where
  pub only_whole : is_all (run room answers 0 left) ≡ true → WholeOutput room left answers
  pub each_whole : WholeOutput room left answers → is_all (run room answers 0 left) ≡ true

output_of : (room left : ℕ) (answers : List Answer) (t : Transfer) → Came room left answers t → T (is_all t) → WholeOutput room left answers
output_of room left answers t (all front rest n i k f h) e =
    record { front = front; rest = rest; before = n; last = k; interruptions = i; said = refl; taken = f; full = h }
output_of room left answers t (ended front rest n i f) e = absurd e
output_of room left answers t (failed front rest n i f) e = absurd e
output_of room left answers t (tired front rest n f) e = absurd e
output_of room left answers t (going front n i f) e = absurd e

of_output : (room left : ℕ) (answers : List Answer) → WholeOutput room left answers → is_all (run room answers 0 left) ≡ true
of_output room left answers w =
    let e = only room left (w.front ++ (Moved w.last ∷ w.rest)) All (all w.front w.rest w.before w.interruptions w.last w.taken w.full) in
    ap (λ x. is_all (run room x 0 left)) w.said ∙ sym (ap is_all e)

pub the_whole_output : (room left : ℕ) → 0 < room → (answers : List Answer) → Written room left answers
the_whole_output room left h answers =
    record { only_whole = λ e. output_of room left answers (run room answers 0 left) (comes room left h answers) (subst T (sym e) tt); each_whole = of_output room left answers }

-- rows of answers, computed: each with room for nine bytes and one interruption
abbrev pub worked : List Answer → Transfer
worked answers = run 9 answers 0 1

pub record WorkedTransfers : Type 0 where
  pub a_whole_file : worked (Moved 5 ∷ Interrupted ∷ Moved 3 ∷ Nothing ∷ []) ≡ Ended 8
  pub an_empty_file : worked (Nothing ∷ []) ≡ Ended 0
  pub a_failure_at_once : worked (Faulted ∷ []) ≡ Failed
  pub a_failure_half_way : worked (Moved 5 ∷ Faulted ∷ []) ≡ Failed
  pub a_failure_before_the_end : worked (Moved 5 ∷ Moved 3 ∷ Faulted ∷ Nothing ∷ []) ≡ Failed
  pub too_often : worked (Interrupted ∷ Moved 8 ∷ Interrupted ∷ Nothing ∷ []) ≡ Failed
  pub all_at_once : worked (Moved 9 ∷ []) ≡ All
  pub all_in_parts : worked (Moved 4 ∷ Interrupted ∷ Moved 5 ∷ []) ≡ All
  pub not_yet : worked (Moved 4 ∷ Interrupted ∷ []) ≡ Going 4 0

pub the_worked_transfers : WorkedTransfers
the_worked_transfers = record { a_whole_file = refl; an_empty_file = refl; a_failure_at_once = refl; a_failure_half_way = refl; a_failure_before_the_end = refl; too_often = refl; all_at_once = refl; all_in_parts = refl; not_yet = refl }
