-- The dead state of a table: it has no label, and no byte leads out of it, so that no label can follow.
-- The walk for a word stops there; specs/DeadLaws.antt proves that this changes no answer.
use Rattle.std.specs.Prelude.{ℕ, zero, suc, ◌+◌, ◌*◌, Bool, true, ◌&&◌, cond, List, eqb, get_or}
use Rattle.number.specs.Limits.{bytes}

-- none of the first n bytes leads out of a state
unfoldable pub keeps : List ℕ → ℕ → ℕ → Bool
keeps targets s zero = true
keeps targets s (suc n) = eqb (get_or targets (s * bytes + n) 0) s && keeps targets s n

-- no label, and no byte at all leads out
unfoldable pub dead : List ℕ → List ℕ → ℕ → Bool
dead labels targets s = eqb (get_or labels s 0) 0 && keeps targets s bytes

-- the first dead one of n states from s on; the state past them where there is none
unfoldable pub dead_from : List ℕ → List ℕ → ℕ → ℕ → ℕ
dead_from labels targets s zero = s
dead_from labels targets s (suc n) = cond (dead labels targets s) s (dead_from labels targets (suc s) n)

-- of a whole table
abbrev pub dead_of : ℕ → List ℕ → List ℕ → ℕ
dead_of count labels targets = dead_from labels targets 0 count
