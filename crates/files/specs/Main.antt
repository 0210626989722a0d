-- What read and write may answer, and what a reader hands on of it: the theorems that are bought.
-- To believe them, read Within, with answer_of, run and taken_of of transfer, and MovedOf below, what a system's call that moves bytes may answer.
use Rattle.std.specs.Prelude.{ℕ, zero, suc, ◌+◌, ◌-◌, ◌<◌, ◌≤◌, ◌≡◌, refl, List, [], ◌∷◌, map, ℤ, pos, negsuc}
use Rattle.std.proofs.Common.{arith, sym, ap, subst, ◌∙◌}
use Rattle.transfer.specs.declared.Answer.{Answer}
use Rattle.transfer.specs.declared.Answer.TheVariants.{Moved, Nothing}
use Rattle.transfer.specs.declared.Transfer.{Transfer}
use Rattle.transfer.specs.declared.Transfer.TheVariants.{Going, All, Ended, Failed}
use Rattle.transfer.specs.Answers.{answer_of, onward, run, taken_of}
use Rattle.transfer.specs.Came.{Came}
use Rattle.transfer.specs.Came.Came.{ended, all, failed, tired, going}
use Rattle.transfer.specs.CameLaws.{comes}
use Rattle.transfer.specs.AnswerLaws.{part_moved, all_moved}
use Rattle.files.specs.Within.{Within, mark, path}
use Rattle.files.specs.TurnLaws.{in_buffer}

-- what is handed on lies in the buffer, and it is less than the whole buffer only where the input ended
pub record HandedOn (room : ℕ) (t : Transfer) : Type 0 where
  pub inside : taken_of room t ≤ room
  pub of_an_end : taken_of room t < room → t ≡ Ended (taken_of room t)

pub the_handed_on : (room : ℕ) (t : Transfer) → Within room t → HandedOn room t
the_handed_on room (Ended n) h = record { inside = in_buffer room (Ended n) h; of_an_end = λ g. refl }
the_handed_on room All h = record { inside = in_buffer room All h; of_an_end = λ g. absurd (omega (arith, g)) }
the_handed_on room Failed h = record { inside = in_buffer room Failed h; of_an_end = λ g. absurd (omega (arith, g)) }
the_handed_on room (Going at left) h = absurd h

-- what calls came to: of each call what it answered, and the number of its error
abbrev pub answers_of : List (ℤ × ℤ) → List Answer
answers_of calls = map (λ c. answer_of c.0 c.1) calls

-- what a call that is lent n bytes may answer: -1, or how many bytes it moved, at most n
abbrev pub MovedOf : ℕ → ℤ → Type 0
MovedOf n (pos k) = k ≤ n
MovedOf n (negsuc k) = k ≡ 0

-- calls that keep the system's contracts: each is lent the room that is left, and answers -1 or how many bytes of it were moved
abbrev pub room_left : ℕ → ℤ → ℕ
room_left room (pos k) = room - k
room_left room (negsuc k) = room

abbrev pub Allowed : ℕ → List (ℤ × ℤ) → Type 0
Allowed room [] = Unit {0}
Allowed room (c ∷ calls) = MovedOf room c.0 × Allowed (room_left room c.0) calls

-- some row of such calls comes to it
pub record Possible (room left : ℕ) (t : Transfer) : Type 0 where
  pub calls : List (ℤ × ℤ)
  pub allowed : Allowed room calls
  pub comes_to : t ≡ run room (answers_of calls) 0 left

-- of a buffer that is not empty, what is promised is exactly what comes of some such row and is over; so that by these contracts alone no
-- stronger promise could be kept
pub record Exactly (room left : ℕ) (t : Transfer) : Type 0 where
  pub kept : Possible room left t → ((at fewer : ℕ) → t ≡ Going at fewer → ⊥) → Within room t
  pub needed : Within room t → Possible room left t

within_of : (room left : ℕ) (answers : List Answer) (t : Transfer) → Came room left answers t → ((at fewer : ℕ) → t ≡ Going at fewer → ⊥) → Within room t
within_of room left answers t (ended front rest n i f) over = f.short
within_of room left answers t (all front rest n i k f h) over = tt
within_of room left answers t (failed front rest n i f) over = tt
within_of room left answers t (tired front rest n f) over = tt
within_of room left answers t (going front n i f) over = absurd (over n (left - i) refl)

module _ (m left : ℕ) where
  possible : (t : Transfer) → Within (suc m) t → Possible (suc m) left t
  possible (Ended zero) h = record { calls = (pos 0, pos 0) ∷ []; allowed = (omega arith, tt); comes_to = refl }
  possible (Ended (suc n)) h =
      let e : suc n ≡ 0 + suc n = omega arith in
      record { calls = (pos (suc n), pos 0) ∷ (pos 0, pos 0) ∷ []; allowed = (omega (arith, h), (omega arith, tt)); comes_to = ap Ended e ∙ ap (onward (run (suc m) (Nothing ∷ []))) (part_moved (suc m) 0 left (Moved (suc n)) (suc n) refl (omega (arith, h))) }
  possible All h =
      record { calls = (pos (suc m), pos 0) ∷ []; allowed = (omega arith, tt); comes_to = ap (onward (run (suc m) [])) (all_moved (suc m) 0 left (Moved (suc m)) (suc m) refl (omega arith)) }
  possible Failed h = record { calls = (negsuc 0, pos 5) ∷ []; allowed = (refl, tt); comes_to = refl }
  possible (Going at fewer) h = absurd h

  exactly : (t : Transfer) → Exactly (suc m) left t
  exactly t = record { kept = kept_of; needed = possible t }
    where
      kept_of : Possible (suc m) left t → ((at fewer : ℕ) → t ≡ Going at fewer → ⊥) → Within (suc m) t
      kept_of p over =
          let answers = answers_of p.calls in
          subst (Within (suc m)) (sym p.comes_to)
          (within_of (suc m) left answers (run (suc m) answers 0 left) (comes (suc m) left (omega arith) answers) (λ at fewer e. over at fewer (p.comes_to ∙ e)))

pub the_strength : (room left : ℕ) → 0 < room → (t : Transfer) → Exactly room left t
the_strength zero left h t = absurd (omega (arith, h))
the_strength (suc m) left h t = exactly m left t

-- `.new-` and three digits; the system's longest path and the 0 behind it
pub the_lengths : (mark ≡ 5 + 3) × (path ≡ 4096)
the_lengths = (refl, refl)
