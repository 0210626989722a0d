-- What a cut answers and leaves in the lent list of records, for every input: the promise of cut cites this.
-- Refusal 10 comes first and leaves the records as they were; records past the words are as before the call.
use Rattle.std.specs.Prelude.{ℕ, cond, List, ◌++◌, length, drop, Result, Ok, Err}
use Rattle.number.specs.declared.Refusal.{Refusal}
use Rattle.number.specs.declared.Refusal.TheVariants.{Loaded}
use Rattle.number.specs.Refused.{Outcome}
use Rattle.number.specs.Refused.Outcome.{gives, refuses}
use Rattle.meaning.specs.Re.{Text}
use Rattle.meaning.specs.Words.{Found}
use Rattle.table.specs.Table.{lent, well_formed}
use Rattle.cutting.specs.declared.Word.{Word}
use Rattle.cutting.specs.declared.Ended.{Ended}
use Rattle.cutting.specs.declared.Ended.TheVariants.{Done, Stuck, Full}
use Rattle.cutting.specs.Steps.{first_by}
use Rattle.cutting.specs.Cut.{Ending, Cut, cut_by}
use Rattle.cutting.specs.Cut.Ending.{Done as Ending·done, StuckAt, FullAt}

-- how a cut ended, and with how many words
pub record Report : Type 0 where
  pub ending : Ending
  pub count : ℕ

abbrev pub ended : Result Ended Refusal → Outcome Report
ended (Ok (Done n)) = gives (record { ending = Ending·done; count = n })
ended (Ok (Stuck n at)) = gives (record { ending = StuckAt at; count = n })
ended (Ok (Full n at)) = gives (record { ending = FullAt at; count = n })
ended (Err r) = refuses r

-- the cut of a text from a place on, with room for so many words, whatever finds the first word
abbrev pub cut_of : (Text → Found) → Text → ℕ → ℕ → Cut
cut_of first text at room = cut_by first room at (drop at text)

-- an answer with the records afterwards
pub record Recorded : Type 0 where
  pub answer : Outcome Report
  pub records : List Word

abbrev pub recorded : Cut → List Word → Recorded
recorded c records = record {
  answer = gives (record { ending = c.ending; count = length c.words });
  records = c.words ++ drop (length c.words) records;
}

abbrev pub cut_from_of : ℕ → List ℕ → List ℕ → Text → ℕ → List Word → Recorded
cut_from_of s labels targets text at records =
    cond (well_formed s labels targets) (recorded (cut_of (first_by (lent s labels targets)) text at (length records)) records)
    (record { answer = refuses Loaded; records = records })
