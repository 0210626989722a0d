-- Which answer a call's number and its error's number make, and how a transfer goes on by it, by the tests that the code makes.
-- These lemmas are for proofs of functions; a reader of contracts needs none of them.
use Rattle.std.specs.Prelude.{ℕ, zero, suc, ◌+◌, ◌-◌, ◌<◌, ◌≤◌, ◌≡◌, refl, Bool, true, false, not, cond, T, eqb, ltb, ℤ, pos, negsuc}
use Rattle.std.proofs.Common.{arith, sym, ap, ◌∙◌, eqb→eq, lt→ltb}
use Rattle.std.proofs.Math.Arith.{le→nltb}
use Rattle.transfer.specs.declared.Answer.{Answer}
use Rattle.transfer.specs.declared.Answer.TheVariants.{Moved, Interrupted, Faulted}
use Rattle.transfer.specs.declared.Transfer.{Transfer}
use Rattle.transfer.specs.declared.Transfer.TheVariants.{Going, All}
use Rattle.transfer.specs.Answers.{of_error, again, go_on}

by_test : (b : Bool) → (T b → ⊥) → Faulted ≡ cond b Interrupted Faulted
by_test true off = absurd (off tt)
by_test false off = refl

pub faulted : (error : ℤ) → (error ≡ pos 4 → ⊥) → Faulted ≡ of_error error
faulted (pos n) other = by_test (eqb n 4) (λ t. other (ap pos (eqb→eq n 4 t)))
faulted (negsuc n) other = refl

when : (b : Bool) (x y : Transfer) → T b → x ≡ cond b x y
when true x y t = refl
when false x y t = absurd t

unless : (b : Bool) (x y : Transfer) → T (not b) → y ≡ cond b x y
unless true x y t = absurd t
unless false x y t = refl

-- how a transfer goes on, by the tests of go_on
module _ (room at left : ℕ) (answer : Answer) where
  pub part_moved : (k : ℕ) → answer ≡ Moved k → at + k < room → Going (at + k) left ≡ go_on room at left answer
  part_moved k e h = when (ltb (at + k) room) (Going (at + k) left) All (lt→ltb (at + k) room h) ∙ sym (ap (go_on room at left) e)

  pub all_moved : (k : ℕ) → answer ≡ Moved k → room ≤ at + k → All ≡ go_on room at left answer
  all_moved k e h = unless (ltb (at + k) room) (Going (at + k) left) All (le→nltb (at + k) room h) ∙ sym (ap (go_on room at left) e)

  pub tried_again : answer ≡ Interrupted → 0 < left → Going at (left - 1) ≡ go_on room at left answer
  tried_again e h = one_less left h ∙ sym (ap (go_on room at left) e)
    where
      one_less : (n : ℕ) → 0 < n → Going at (n - 1) ≡ again at n
      one_less zero g = absurd (omega (arith, g))
      one_less (suc n) g = ap (Going at) (let e : suc n - 1 ≡ n = omega arith in e)
