-- What is wrong with a number or a field of a file, told of its bytes alone: rows 1, 2, 3 and 15 of the table, each at the number's first byte.
-- proofs/Main.antt has the theorems that the readers refuse exactly these, by these refusals, and that the number reader tells these groups.
use Rattle.std.specs.Prelude.{ℕ, suc, ◌+◌, ◌<◌, ◌≤◌, ◌≡◌, List, ◌∷◌, length, get_or, drop}
use Rattle.number.specs.declared.Refusal.{Refusal}
use Rattle.number.specs.declared.Refusal.TheVariants.{Short, Number, Range, Padded}
use Rattle.number.specs.Limits.{group}
use Rattle.number.specs.Numbers.{NumberAt}

-- so many bytes from a place on have their high bit set, so that each asks for one more
abbrev pub Goes : List ℕ → ℕ → ℕ → Type 0
Goes s at k = (i : ℕ) → i < k → group ≤ get_or s (at + i) 0

-- the input ends where a byte is due, which is the first, second or third; the third group goes on; or the last of several is 0;
-- each with the groups that are read: those that are there, three, and all up to and with the one that is 0
pub data NumberFault (s : List ℕ) (at : ℕ) : Refusal → ℕ → Type 0 where
  ends : (k : ℕ) → k ≤ 2 → Goes s at k → length s ≤ at + k → NumberFault s at (Short at) k
  over : Goes s at 3 → NumberFault s at (Number at) 3
  nought : (k : ℕ) → 1 ≤ k → k ≤ 2 → Goes s at k → at + k < length s → get_or s (at + k) 0 ≡ 0 → NumberFault s at (Padded at) (suc k)

-- the two reasons for a bad number once more, by the bytes that stand there, as a help page would show them.
-- It runs on: three groups that go on, such as `80 80 80`
pub data RunsOn (s : List ℕ) (at : ℕ) : Type 0 where
  three_on : (a b c : ℕ) (t : List ℕ) → drop at s ≡ a ∷ b ∷ c ∷ t → group ≤ a → group ≤ b → group ≤ c → RunsOn s at

-- it is padded: two groups or three, of which the last is 0, such as `80 00` and `80 80 00`; with how many there are
pub data PaddedTo (s : List ℕ) (at : ℕ) : ℕ → Type 0 where
  to_two : (a : ℕ) (t : List ℕ) → drop at s ≡ a ∷ 0 ∷ t → group ≤ a → PaddedTo s at 2
  to_three : (a b : ℕ) (t : List ℕ) → drop at s ≡ a ∷ b ∷ 0 ∷ t → group ≤ a → group ≤ b → PaddedTo s at 3

-- a field has its number's fault; or a number stands there that lies outside
pub data FieldFault (s : List ℕ) (lo hi at : ℕ) : Refusal → Type 0 where
  number : (r : Refusal) (k : ℕ) → NumberFault s at r k → FieldFault s lo hi at r
  below : (n next : ℕ) → NumberAt s at n next → n < lo → FieldFault s lo hi at (Range at)
  above : (n next : ℕ) → NumberAt s at n next → hi < n → FieldFault s lo hi at (Range at)
