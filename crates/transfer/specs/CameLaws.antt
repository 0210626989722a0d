-- A row of answers comes to what is computed of it, and to nothing else.
-- By induction over what stands before the deciding answer, from any place and with any number of interruptions left.
use Rattle.std.specs.Prelude.{ℕ, zero, suc, ◌+◌, ◌-◌, ◌<◌, ◌≤◌, ◌≡◌, refl, Bool, true, false, not, cond, List, [], ◌∷◌, ◌++◌, T, ltb}
use Rattle.std.proofs.Common.{arith, sym, ap, subst, ◌∙◌, append_assoc, append-nil, ltb→lt, nltb→le}
use Rattle.transfer.specs.declared.Answer.{Answer}
use Rattle.transfer.specs.declared.Answer.TheVariants.{Moved, Nothing, Interrupted, Faulted}
use Rattle.transfer.specs.declared.Transfer.{Transfer}
use Rattle.transfer.specs.declared.Transfer.TheVariants.{Going, All}
use Rattle.transfer.specs.Answers.{again, onward, run}
use Rattle.transfer.specs.AnswerLaws.{part_moved, all_moved, tried_again}
use Rattle.transfer.specs.Came.{Moves, Front, Came}
use Rattle.transfer.specs.Came.Moves.{none, more, signal}
use Rattle.transfer.specs.Came.Came.{ended, all, failed, tired, going}

-- a front leads on to what is behind it, with what it moved and as many interruptions fewer
led : (room : ℕ) {front : List Answer} {n i : ℕ} → Moves front n i → (rest : List Answer) (at left : ℕ) → at + n < room → i ≤ left → run room (front ++ rest) at left ≡ run room rest (at + n) (left - i)
led room none rest at left h g = let e : at + 0 ≡ at = omega arith in let f : left - 0 ≡ left = omega arith in sym (ap (λ x. run room rest x (left - 0)) e ∙ ap (run room rest at) f)
led room (more {answers} {n} {i} k m) rest at left h g =
    let e : (at + k) + n ≡ at + (k + n) = omega arith in
    sym (ap (onward (run room (answers ++ rest))) (part_moved room at left (Moved k) k refl (omega (arith, h))))
    ∙ led room m rest (at + k) left (omega (arith, h)) g
    ∙ ap (λ x. run room rest x (left - i)) e
led room (signal {answers} {n} {i} m) rest at left h g =
    let e : (left - 1) - i ≡ left - suc i = omega arith in
    sym (ap (onward (run room (answers ++ rest))) (tried_again room at left Interrupted refl (omega (arith, g))))
    ∙ led room m rest at (left - 1) h (omega (arith, g))
    ∙ ap (run room rest (at + n)) e

-- such answers with one more behind them, bytes or a signal, are such answers again
put : {front : List Answer} {n i : ℕ} (k : ℕ) → Moves front n i → Moves (front ++ (Moved k ∷ [])) (n + k) i
put k none = let e : k + 0 ≡ 0 + k = omega arith in subst (λ x. Moves (Moved k ∷ []) x 0) e (more k none)
put k (more {answers} {n} {i} j m) = let e : j + (n + k) ≡ (j + n) + k = omega arith in subst (λ x. Moves (Moved j ∷ (answers ++ (Moved k ∷ []))) x i) e (more j (put k m))
put k (signal m) = signal (put k m)

wait : {front : List Answer} {n i : ℕ} → Moves front n i → Moves (front ++ (Interrupted ∷ [])) n (suc i)
wait none = signal none
wait (more k m) = more k (wait m)
wait (signal m) = signal (wait m)

module _ (room left : ℕ) where
  -- what is computed behind a front is what the whole row comes to
  abbrev Behind : List Answer → Type 0
  Behind rest = (front : List Answer) (n i : ℕ) → Front room left front n i → Came room left (front ++ rest) (run room rest n (left - i))

  by_room : (k : ℕ) (rest : List Answer) → Behind rest → (front : List Answer) (n i : ℕ) → Front room left front n i → (b : Bool) → ltb (n + k) room ≡ b → Came room left (front ++ (Moved k ∷ rest)) (onward (run room rest) (cond b (Going (n + k) (left - i)) All))
  by_room k rest more_of front n i f true e =
      let h = ltb→lt (n + k) room (subst T (sym e) tt) in
      subst (λ x. Came room left x (run room rest (n + k) (left - i))) (append_assoc front (Moved k ∷ []) rest)
      (more_of (front ++ (Moved k ∷ [])) (n + k) i (record { moves = put k f.moves; short = h; patient = f.patient }))
  by_room k rest more_of front n i f false e = all front rest n i k f (nltb→le (n + k) room (subst (λ b. T (not b)) (sym e) tt))

  by_left : (rest : List Answer) → Behind rest → (front : List Answer) (n i : ℕ) → Front room left front n i → (m : ℕ) → left - i ≡ m → Came room left (front ++ (Interrupted ∷ rest)) (onward (run room rest) (again n m))
  by_left rest more_of front n i f zero e =
      let h : i ≡ left = let g = f.patient in omega (arith, e, g) in
      tired front rest n (subst (Front room left front n) h f)
  by_left rest more_of front n i f (suc m) e =
      let g : left - suc i ≡ m = omega (arith, e) in
      subst (λ x. Came room left x (run room rest n m)) (append_assoc front (Interrupted ∷ []) rest)
      (subst (λ x. Came room left ((front ++ (Interrupted ∷ [])) ++ rest) (run room rest n x)) g
      (more_of (front ++ (Interrupted ∷ [])) n (suc i) (record { moves = wait f.moves; short = f.short; patient = omega (arith, e) })))

  behind : (rest : List Answer) → Behind rest
  behind [] front n i f = subst (λ x. Came room left x (Going n (left - i))) (sym (append-nil front)) (going front n i f)
  behind (Nothing ∷ rest) front n i f = ended front rest n i f
  behind (Faulted ∷ rest) front n i f = failed front rest n i f
  behind (Moved k ∷ rest) front n i f = by_room k rest (behind rest) front n i f (ltb (n + k) room) refl
  behind (Interrupted ∷ rest) front n i f = by_left rest (behind rest) front n i f (left - i) refl

  pub comes : 0 < room → (answers : List Answer) → Came room left answers (run room answers 0 left)
  comes h answers =
      let e : left - 0 ≡ left = omega arith in
      subst (λ x. Came room left answers (run room answers 0 x)) e
      (behind answers [] 0 0 (record { moves = none; short = h; patient = omega arith }))

  from_front : {front : List Answer} {n i : ℕ} → Front room left front n i → (rest : List Answer) → run room (front ++ rest) 0 left ≡ run room rest n (left - i)
  from_front {n = n} {i = i} f rest = let e : 0 + n ≡ n = omega arith in led room f.moves rest 0 left (let h = f.short in omega (arith, h)) f.patient ∙ ap (λ x. run room rest x (left - i)) e

  pub only : (answers : List Answer) (t : Transfer) → Came room left answers t → t ≡ run room answers 0 left
  only answers t (ended front rest n i f) = sym (from_front f (Nothing ∷ rest))
  only answers t (all front rest n i k f h) =
      ap (onward (run room rest)) (all_moved room n (left - i) (Moved k) k refl h) ∙ sym (from_front f (Moved k ∷ rest))
  only answers t (failed front rest n i f) = sym (from_front f (Faulted ∷ rest))
  only answers t (tired front rest n f) =
      let e : 0 ≡ left - left = omega arith in
      ap (λ x. onward (run room rest) (again n x)) e ∙ sym (from_front f (Interrupted ∷ rest))
  only answers t (going front n i f) = sym (ap (λ x. run room x 0 left) (sym (append-nil front)) ∙ from_front f [])
