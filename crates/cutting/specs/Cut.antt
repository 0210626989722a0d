-- The cut: words one after the other, each the first word of what is left, while there are records for them.
-- As a relation, for anything that says what the first word of a text is; and as a function.
use Rattle.std.specs.Prelude.{ℕ, zero, suc, ◌+◌, List, [], ◌∷◌, drop}
use Rattle.meaning.specs.Re.{Text}
use Rattle.meaning.specs.Words.{Found}
use Rattle.meaning.specs.Words.Found.{Stuck, Word as Found·word}
use Rattle.cutting.specs.declared.Word.{Word}

-- how a cut ends: the text is used up; no word starts at a place; a word starts there and no record is free
pub data Ending : Type 0 where
  Done : Ending
  StuckAt : ℕ → Ending
  FullAt : ℕ → Ending

pub record Cut : Type 0 where
  pub words : List Word
  pub ending : Ending

abbrev pub word_at : ℕ → ℕ → ℕ → Word
word_at at n r = record { start = at; len = n; rule = r }

abbrev pub ends : Ending → Cut
ends e = record { words = []; ending = e }

abbrev pub before : Word → Cut → Cut
before w c = record { words = w ∷ c.words; ending = c.ending }

-- what is left is `text`, which starts at place `at`; F says what its first word is; Stuck is tested before Full
pub data Cuts (F : Text → Found → Type 0) : ℕ → ℕ → Text → Cut → Type 0 where
  done : (room at : ℕ) → Cuts F room at [] (ends Done)
  stuck : (room at c : ℕ) (w : Text) → F (c ∷ w) Stuck → Cuts F room at (c ∷ w) (ends (StuckAt at))
  full : (at c : ℕ) (w : Text) (n r : ℕ) → F (c ∷ w) (Found·word n r) → Cuts F zero at (c ∷ w) (ends (FullAt at))
  word : (room at c : ℕ) (w : Text) (n r : ℕ) (rest : Cut) → F (c ∷ w) (Found·word n r) → Cuts F room (at + n) (drop n (c ∷ w)) rest
      → Cuts F (suc room) at (c ∷ w) (before (word_at at n r) rest)

-- the same, worked out: `first` finds the first word
module _ (first : Text → Found) where
  unfoldable pub cut_by : ℕ → ℕ → Text → Cut
  cut_by zero at [] = ends Done
  cut_by zero at (c ∷ w) = elim (first (c ∷ w)) [ Stuck ↦ ends (StuckAt at) | Found·word n r ↦ ends (FullAt at) ]
  cut_by (suc room) at [] = ends Done
  cut_by (suc room) at (c ∷ w) =
      elim (first (c ∷ w)) [ Stuck ↦ ends (StuckAt at) | Found·word n r ↦ before (word_at at n r) (cut_by room (at + n) (drop n (c ∷ w))) ]
