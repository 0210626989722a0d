-- Words that tile a text from a place on: each starts where the one before it ended, and none is empty.
-- Also how a cut goes on from where its records were used up.
use Rattle.std.specs.Prelude.{ℕ, ◌+◌, ◌-◌, ◌<◌, ◌≤◌, ◌≡◌, List, [], ◌∷◌, ◌++◌, drop}
use Rattle.meaning.specs.Re.{Text}
use Rattle.meaning.specs.Words.{Found}
use Rattle.cutting.specs.declared.Word.{Word}
use Rattle.cutting.specs.Cut.{Ending, Cut, cut_by}
use Rattle.cutting.specs.Cut.Ending.{Done, StuckAt, FullAt}

abbrev pub Tiles : ℕ → List Word → ℕ → Type 0
Tiles at [] end = at ≡ end
Tiles at (w ∷ ws) end = (w.start ≡ at) × (0 < w.len) × Tiles (at + w.len) ws end

-- a cut ended for another reason than that its records were used up
abbrev pub Finished : Ending → Type 0
Finished Done = Unit
Finished (StuckAt p) = Unit
Finished (FullAt p) = ⊥

-- one cut behind another
abbrev pub then : Cut → Cut → Cut
then x y = record { words = x.words ++ y.words; ending = y.ending }

-- a cut with m records that came to p: with k more it is that cut, and behind it the cut of what is left at p
pub record On (first : Text → Found) (m k at : ℕ) (text : Text) (p : ℕ) : Type 0 where
  pub onward : at ≤ p
  pub goes_on : cut_by first (m + k) at text ≡ then (cut_by first m at text) (cut_by first k p (drop (p - at) text))
