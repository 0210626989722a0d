-- What the words of a cut are to its whole text: how many bytes they have, which pieces of it they are, and why they end where they do.
-- Places are those of the whole text, whether a cut starts at its beginning or later.
use Rattle.std.specs.Prelude.{ℕ, ◌+◌, ◌<◌, ◌≤◌, ◌≡◌, length, take, drop}
use mathlib.Core.List.{List, [], ◌∷◌, flat_map}
use Rattle.meaning.specs.Re.{Text}
use Rattle.meaning.specs.Words.{Found}
use Rattle.meaning.specs.Words.Found.{Stuck, Word as Found·word}
use Rattle.cutting.specs.declared.Word.{Word}
use Rattle.cutting.specs.Cut.{Ending, Cut}
use Rattle.cutting.specs.Cut.Ending.{Done, StuckAt, FullAt}
use Rattle.cutting.specs.Tiles.{Tiles}

-- the bytes that words have together
abbrev pub bytes_in : List Word → ℕ
bytes_in [] = 0
bytes_in (w ∷ ws) = w.len + bytes_in ws

-- the piece of a text that a word is
abbrev pub piece_of : Text → Word → Text
piece_of text w = take w.len (drop w.start text)

-- F says what the first word of a text is
module _ (F : Text → Found → Type 0) (text : Text) where
  -- each word lies in the text and is the first word where it starts, under its rule
  abbrev pub EachFirst : List Word → Type 0
  EachFirst [] = Unit
  EachFirst (w ∷ ws) = (w.start + w.len ≤ length text) × F (drop w.start text) (Found·word w.len w.rule) × EachFirst ws

  -- some word starts at a place
  pub record Starts (p : ℕ) : Type 0 where
    pub len : ℕ
    pub rule : ℕ
    pub first : F (drop p text) (Found·word len rule)

  -- why a cut that has come to `end` goes no further: the text is over; bytes are left and no word starts there; one does, and the records are used up
  abbrev pub EndsAt : (room count end : ℕ) → Ending → Type 0
  EndsAt room count end Done = end ≡ length text
  EndsAt room count end (StuckAt p) = (p ≡ end) × (p < length text) × F (drop p text) Stuck
  EndsAt room count end (FullAt p) = (p ≡ end) × (count ≡ room) × Starts p

  -- the words of a cut of a text from a place on, with room for so many: they tile it up to where the cut ends, and are its pieces, joined
  pub record Tiled (room at : ℕ) (c : Cut) : Type 0 where
    pub tiles : Tiles at c.words (at + bytes_in c.words)
    pub few : length c.words ≤ room
    pub each : EachFirst c.words
    pub joined : flat_map (piece_of text) c.words ≡ take (bytes_in c.words) (drop at text)
    pub ends : EndsAt room (length c.words) (at + bytes_in c.words) c.ending
