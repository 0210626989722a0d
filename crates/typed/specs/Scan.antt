-- Any reader that takes one byte a step: what it answers for a text, and where it is after one.
-- `turn` is its step, none where a byte leads nowhere; `accept` is what it answers where the text ends.
use Rattle.std.specs.Prelude.{ℕ, ◌+◌, [], ◌∷◌}
use Rattle.std.proofs.Math.Option.{Option}
use Rattle.std.proofs.Math.Option.Option.{none, some}
use Rattle.meaning.specs.Re.{Text}

-- an answer, or the place of the first byte that is wrong; also the place of the end, where there is no byte, if the text may not end there
pub data Reading (A : Type 0) : Type 0 where
  typed : A → Reading A
  wrong : ℕ → Reading A

abbrev pub at_end : {A : Type 0} → ℕ → Option A → Reading A
at_end p none = wrong p
at_end p (some a) = typed a

module _ {S A : Type 0} (turn : S → ℕ → Option S) (accept : S → Option A) where
  unfoldable pub scan : ℕ → S → Text → Reading A
  scan p s [] = at_end p (accept s)
  scan p s (c ∷ t) = elim (turn s c) [ none ↦ wrong p | some u ↦ scan (p + 1) u t ]

module _ {S : Type 0} (turn : S → ℕ → Option S) where
  -- a state, or none once a byte was wrong
  abbrev pub then : Option S → ℕ → Option S
  then none c = none
  then (some s) c = turn s c

  unfoldable pub after : Option S → Text → Option S
  after x [] = x
  after x (c ∷ t) = after (then x c) t

abbrev pub accepted : {S A : Type 0} (accept : S → Option A) → Option S → Option A
accepted accept none = none
accepted accept (some s) = accept s
