-- Numbers in files: groups of seven bits, least first, one byte a group, the high bit on every group but the last.
-- At most three groups, and the shortest form only: the last of two or three groups is not 0.
use Rattle.std.specs.Prelude.{ℕ, suc, ◌+◌, ◌*◌, ◌/◌, ◌%◌, ◌<◌, ◌≤◌, ◌≡◌, Result, Ok, Err, cond, List, [], ◌∷◌, ◌++◌, ltb, eqb, length, get_or, take, drop}
use Rattle.number.specs.declared.Refusal.{Refusal}
use Rattle.number.specs.declared.Refusal.TheVariants.{Short, Number, Range, Padded}
use Rattle.number.specs.Limits.{group, two_groups, three_groups, bytes}
use Rattle.number.specs.Refused.{Answer}
use Rattle.number.specs.Refused.Answer.{got, refused}

-- what a file holds: every element is a byte
abbrev pub Bytes : List ℕ → Type 0
Bytes s = (i : ℕ) → i < length s → get_or s i 0 < bytes

-- the code's answer as the paper has it
abbrev pub taken : Result (ℕ × ℕ) Refusal → Answer ℕ
taken (Ok (value, next)) = got value next
taken (Err r) = refused r

-- a byte of a number that starts at `at` is due at `here`: go on with it, or the input is short
unfoldable pub due : List ℕ → ℕ → ℕ → (ℕ → Answer ℕ) → Answer ℕ
due s at here onward = cond (ltb here (length s)) (onward (get_or s here 0)) (refused (Short at))

-- the last of several groups is not 0
unfoldable pub several : ℕ → ℕ → Answer ℕ → Answer ℕ
several at last answer = cond (eqb last 0) (refused (Padded at)) answer

-- the number that starts at `at`: one group, or two, or three; a third group does not go on
unfoldable pub read_number : List ℕ → ℕ → Answer ℕ
read_number s at =
    due s at at λ a.
    cond (ltb a group) (got a (at + 1))
    (due s at (at + 1) λ b.
    cond (ltb b group) (several at b (got (a % group + group * b) (at + 2)))
    (due s at (at + 2) λ c.
    cond (ltb c group) (several at c (got (a % group + group * (b % group) + two_groups * c) (at + 3)))
    (refused (Number at))))

-- how many of these bytes are groups of one number: those up to and with the first that does not go on, or all where each goes on
unfoldable pub groups_of : List ℕ → ℕ
groups_of [] = 0
groups_of (b ∷ more) = cond (ltb b group) 1 (suc (groups_of more))

-- how many groups are read of the number that starts at `at`, be it refused or not: at most three, and no more than are there
unfoldable pub groups_read : List ℕ → ℕ → ℕ
groups_read s at = groups_of (take 3 (drop at s))

-- a value outside its field is refused at the number's own place
unfoldable pub within : ℕ → ℕ → ℕ → Answer ℕ → Answer ℕ
within at lo hi (got value next) = cond (ltb value lo) (refused (Range at)) (cond (ltb hi value) (refused (Range at)) (got value next))
within at lo hi (refused r) = refused r

-- a field of a file: a number from lo to hi; within a number the order is Short, then Number or Padded, then Range
unfoldable pub field : List ℕ → ℕ → ℕ → ℕ → Answer ℕ
field s lo hi at = within at lo hi (read_number s at)

-- the bytes of a number below the limit of three groups
unfoldable pub write_number : ℕ → List ℕ
write_number n =
    cond (ltb n group) (n ∷ [])
    (cond (ltb n two_groups) ((group + n % group) ∷ (n / group) ∷ [])
    ((group + n % group) ∷ (group + n / group % group) ∷ (n / two_groups) ∷ []))

-- ---- for the theorems

-- a number stands at a place as it is written, and the place after it is within the list
pub record NumberAt (s : List ℕ) (at n next : ℕ) : Type 0 where
  pub stands : drop at s ≡ write_number n ++ drop next s
  pub small : n < three_groups
  pub after : next ≡ at + length (write_number n)
  pub onward : at < next
  pub inside : next ≤ length s

-- what a field that was read tells
pub record FieldAt (s : List ℕ) (lo hi at n next : ℕ) : Type 0 where
  pub low : lo ≤ n
  pub high : n ≤ hi
  pub read : read_number s at ≡ got n next
