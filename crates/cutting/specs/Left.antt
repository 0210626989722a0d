-- What a cut leaves in lent memory, told in lists: the words of the one cut in front, what stood behind them, and as many cells as there were.
-- For whatever words become in memory: records as they are, or numbers.
use Rattle.std.specs.Prelude.{ℕ, ◌≤◌, ◌≡◌, length, take, drop}
use mathlib.Core.List.{List, [], ◌∷◌, flat_map}
use Rattle.number.specs.Refused.{Outcome}
use Rattle.number.specs.Refused.Outcome.{gives}
use Rattle.meaning.specs.Re.{Text}
use Rattle.meaning.specs.Words.{Found}
use Rattle.cutting.specs.declared.Word.{Word}
use Rattle.cutting.specs.Cut.{Ending, Cuts}
use Rattle.cutting.specs.Calls.{Report}

-- the numbers of words, three for each: start, length, rule
abbrev pub numbers_of : List Word → List ℕ
numbers_of = flat_map (λ w. w.start ∷ w.len ∷ w.rule ∷ [])

-- by what F says the first word is, with room for so many words, a call on a text from a place on found `before` in memory, answered and left `after`
pub record Leaves {A : Type 0} (spread : List Word → List A) (F : Text → Found → Type 0) (text : Text) (at room : ℕ) (before : List A) (answer : Outcome Report)
    (after : List A) : Type 0 where
  pub words : List Word
  pub ending : Ending
  pub cuts : Cuts F room at (drop at text) (record { words = words; ending = ending })
  pub answered : answer ≡ gives (record { ending = ending; count = length words })
  pub few : length words ≤ room
  pub front : take (length (spread words)) after ≡ spread words
  pub behind : drop (length (spread words)) after ≡ drop (length (spread words)) before
  pub whole : length after ≡ length before
