-- One turn of a cut: what remains of it at a place, where k words were put into memory, whatever finds the first word.
-- A turn puts one word more, or answers how the cut ended.
use Rattle.std.specs.Prelude.{ℕ, ◌+◌, ◌-◌, ◌≤◌, ◌≡◌, length}
use Rattle.number.specs.Refused.Outcome.{gives}
use Rattle.meaning.specs.Re.{Text}
use Rattle.meaning.specs.Words.{Found}
use Rattle.cutting.specs.declared.Word.{Word}
use Rattle.cutting.specs.Cut.{Cut}
use Rattle.cutting.specs.Calls.{cut_of}
use Rattle.cutting.specs.Put.{Held, put_all}

-- what remains of a cut at a place, where k records are in use
abbrev pub cut_left : (Text → Found) → Text → ℕ → ℕ → ℕ → Cut
cut_left first text room at k = cut_of first text at (room - k)

-- a cut that goes on behind k words, put into memory
abbrev pub behind : {M : Type 0} → (M → ℕ → Word → M) → ℕ → Cut → M → Held M
behind put k c m = record {
  answer = gives (record { ending = c.ending; count = k + length c.words });
  memory = put_all put k c.words m;
}

-- where a call stands that has put k words into m: what remains of the cut, behind them, is all that the call leaves
pub record Stands {M : Type 0} (put : M → ℕ → Word → M) (first : Text → Found) (text : Text) (room : ℕ) (whole : Held M) (at k : ℕ) (m : M) : Type 0 where
  pub few : k ≤ room
  pub remains : behind put k (cut_left first text room at k) m ≡ whole
