-- Laws of the search for the first dead state, one for each place of the code.
-- Then what it is for: a walk that comes to a dead state meets no label any more, and what was best there stays best.
use Prim.Native.Nat.{ℕ, zero, suc, ◌+◌, ◌-◌, ◌*◌, ◌<◌}
use Rattle.std.proofs.Math.Numerals.{add-one}
use native.Mathlib.Omega.{arith}
use Rattle.std.proofs.Math.Decide.{dec_lt}
use Rattle.std.specs.Prelude.{◌≡◌, Bool, eqb, get_or}
use Rattle.std.proofs.Math.Path.{refl}
use Rattle.std.proofs.Common.{sym}
use Rattle.std.proofs.Math.Bool.{true, false, cond}
use mathlib.Core.List.{List, [], ◌∷◌}
use borrow.Author.Tests.{eqb-true, eq-eqb, ne_eqb}
use Rattle.number.specs.Limits.{bytes}
use Rattle.meaning.specs.Re.{Text}
use Rattle.meaning.specs.Tests.{and_true}
use Rattle.meaning.specs.Words.{Found, scan}
use Rattle.cutting.specs.Dead.{keeps, dead, dead_from, dead_of}

-- ---- a state that is tested

module _ (targets : List ℕ) (s : ℕ) where
  kept : (n : ℕ) → keeps targets s n ≡ true → (c : ℕ) → c < n → get_or targets (s * bytes + c) 0 ≡ s
  unfolding keeps
  kept zero e c h = absurd (omega arith)
  kept (suc n) e c h =
      let both = and_true (eqb (get_or targets (s * bytes + n) 0) s) (keeps targets s n) e in
      elim (dec_lt c n) [
        | yes k ↦ kept n both.1 c k
        | no k ↦ let same : c ≡ n = omega arith in rw same (eqb-true _ _ both.0)
      ]

  pub keeps_none : keeps targets s 0 ≡ true
  unfolding keeps
  keeps_none = refl

  -- one more byte is looked at
  pub keeps_more : (c : ℕ) → get_or targets (s * bytes + c) 0 ≡ s → keeps targets s c ≡ keeps targets s (c + 1)
  unfolding keeps
  keeps_more c k = rw (add-one, keeps, eq-eqb _ _ k) refl

  pub keeps_not : (c : ℕ) → (get_or targets (s * bytes + c) 0 ≡ s → ⊥) → false ≡ keeps targets s (c + 1)
  unfolding keeps
  keeps_not c k = rw (add-one, keeps, ne_eqb _ _ k) refl

-- ---- the first dead state

module _ (labels targets : List ℕ) where
  -- what a dead state is to a walk
  pub record Dead (s : ℕ) : Type 0 where
    pub unlabelled : get_or labels s 0 ≡ 0
    pub stays : (c : ℕ) → c < bytes → get_or targets (s * bytes + c) 0 ≡ s

  is_dead : (s : ℕ) → dead labels targets s ≡ true → Dead s
  unfolding dead
  is_dead s e =
      let both = and_true (eqb (get_or labels s 0) 0) (keeps targets s bytes) e in
      record { unlabelled = eqb-true _ _ both.0; stays = kept targets s bytes both.1 }

  -- the three returns of the test
  pub dead_not : (s : ℕ) → (Dead s → ⊥) → false ≡ dead labels targets s
  dead_not s not = go (dead labels targets s) refl
    where
      go : (b : Bool) → dead labels targets s ≡ b → false ≡ b
      go true e = absurd (not (is_dead s e))
      go false e = refl

  pub dead_told : (s : ℕ) → get_or labels s 0 ≡ 0 → keeps targets s bytes ≡ dead labels targets s
  unfolding dead
  dead_told s e = rw (eq-eqb _ _ e) refl

  found_dead : (n s : ℕ) → dead_from labels targets s n < s + n → dead labels targets (dead_from labels targets s n) ≡ true
  unfolding dead_from
  found_dead zero s h = absurd (omega arith)
  found_dead (suc n) s h = go (dead labels targets s) refl (found_dead n (suc s)) h
    where
      go : (b : Bool) → dead labels targets s ≡ b
          → (dead_from labels targets (suc s) n < suc s + n → dead labels targets (dead_from labels targets (suc s) n) ≡ true)
          → cond b s (dead_from labels targets (suc s) n) < s + suc n → dead labels targets (cond b s (dead_from labels targets (suc s) n)) ≡ true
      go true e ih k = e
      go false e ih k = ih (omega arith)

  pub dead_of_lem : (count : ℕ) → dead_of count labels targets < count → Dead (dead_of count labels targets)
  dead_of_lem count h = is_dead _ (found_dead count 0 (omega arith))

  -- the search goes up, and what is left to search gives the whole answer
  pub dead_start : (count : ℕ) → dead_from labels targets 0 (count - 0) ≡ dead_of count labels targets
  dead_start count = let all : count - 0 ≡ count = omega arith in rw all refl

  module _ (count s : ℕ) (h : s < count) where
    left : count - s ≡ suc (count - (s + 1))
    left = omega arith

    pub dead_here : dead labels targets s ≡ true → s ≡ dead_from labels targets s (count - s)
    unfolding dead_from
    dead_here e = rw (left, dead_from, e)

    pub dead_past : dead labels targets s ≡ false → dead_from labels targets (s + 1) (count - (s + 1)) ≡ dead_from labels targets s (count - s)
    unfolding dead_from
    dead_past e = rw (left, dead_from, add-one, e)

  pub dead_end : (count s : ℕ) → s ≡ count → count ≡ dead_from labels targets s (count - s)
  unfolding dead_from
  dead_end count s e = let none : count - s ≡ 0 = omega arith in rw (none, dead_from) (sym e)

-- ---- from a state that every byte keeps, and that has no mark, nothing better is found

module _ (go : ℕ → ℕ → ℕ) (mark : ℕ → ℕ) (d : ℕ) (stays : (c : ℕ) → c < bytes → go d c ≡ d) (unmarked : mark d ≡ 0) where
  pub scan_dead : (w : Text) → ((j : ℕ) → get_or w j 0 < bytes) → (n : ℕ) (best : Found) → scan go mark d w n best ≡ best
  unfolding scan
  scan_dead [] fits n best = refl
  scan_dead (c ∷ w) fits n best =
      rw (stays c (fits 0), unmarked) (scan_dead w (λ j. fits (suc j)) (suc n) best)
