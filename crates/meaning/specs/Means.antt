-- The textbook meaning of an expression: which texts it matches (source document 000, 1.3.3, clause by clause; And and Not as in source document 002).
-- A function into types and not a test: what decides it is a theorem (`decide`, in PlainMeans).
use Rattle.std.specs.Prelude.{ℕ, ◌≤◌, ◌≡◌, [], ◌∷◌, ◌⊎◌}
use Rattle.meaning.specs.Re.{Re, Text}
use Rattle.meaning.specs.Re.Re.{Nothing, Empty, Range, Cat, Alt, Star, And, Not}
use Rattle.meaning.specs.Lang.{Lang, Then, Many}

-- one byte from lo to hi
pub record OneByte (lo hi : ℕ) (w : Text) : Type 0 where
  pub byte : ℕ
  pub only : w ≡ byte ∷ []
  pub above : lo ≤ byte
  pub below : byte ≤ hi

abbrev pub Matches : Re → Lang
Matches Nothing w = ⊥
Matches Empty w = w ≡ []
Matches (Range lo hi) w = OneByte lo hi w
Matches (Cat a b) w = Then (Matches a) (Matches b) w
Matches (Alt a b) w = Matches a w ⊎ Matches b w
Matches (Star a) w = Many (Matches a) w
Matches (And a b) w = Matches a w × Matches b w
Matches (Not a) w = Matches a w → ⊥
