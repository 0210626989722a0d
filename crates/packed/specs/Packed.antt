-- How an answer reaches C, one scheme for every call: the call returns a code and writes four numbers into cells that the caller lends.
-- Code 0 says that the call gave its answer, and the cells hold its numbers; any other code is the paper's number of a refusal, and the first cell holds its place.
use Rattle.std.specs.Prelude.{ℕ, Bool, true, false, List, [], ◌∷◌}
use Rattle.number.specs.declared.Refusal.TheVariants.{Loaded}
use Rattle.number.specs.Refused.{Outcome, number, place}
use Rattle.number.specs.Refused.Outcome.{gives, refuses}
use Rattle.book.specs.Calls.{Size, Told as KindTold}
use Rattle.book.specs.Calls.Told.{kind, none}
use Rattle.cutting.specs.Cut.{Ending}
use Rattle.cutting.specs.Cut.Ending.{Done, StuckAt, FullAt}
use Rattle.cutting.specs.Calls.{Report}
use Rattle.verdict.specs.Calls.{Told}
use Rattle.verdict.specs.Calls.Told.{same, differs}

-- what the call returns, and the four cells as it leaves them
pub record Packed : Type 0 where
  pub code : ℕ
  pub cells : List ℕ

abbrev pub left : ℕ → List ℕ → Packed
left code cells = record { code = code; cells = cells }

abbrev pub four : ℕ → ℕ → ℕ → ℕ → List ℕ
four a b c d = a ∷ b ∷ c ∷ d ∷ []

-- an answer whose numbers `told` lists, or a refusal
abbrev pub packed : {A : Type 0} → (A → List ℕ) → Outcome A → Packed
packed told (gives x) = left 0 (told x)
packed told (refuses r) = left (number r) (four (place r) 0 0 0)

-- a count alone: the states of a table, the bytes of a sheet or of a book
abbrev pub told_count : ℕ → List ℕ
told_count n = four n 0 0 0

-- a book's rules, then its nodes
abbrev pub told_size : Size → List ℕ
told_size s = four s.rules s.nodes 0 0

-- a rule's kind behind a 1, or a 0 where there is no such rule
abbrev pub told_kind : KindTold → List ℕ
told_kind (kind n) = four 1 n 0 0
told_kind none = four 0 0 0 0

-- a table that is well formed, with no number to tell, or the refusal of one that is not
abbrev pub tested : Bool → Outcome ℕ
tested true = gives 0
tested false = refuses Loaded

-- how a cut ended (0 Done, 1 Stuck, 2 Full), its words, and the place, which is 0 for Done
abbrev pub told_ending : Ending → ℕ → List ℕ
told_ending Done n = four 0 n 0 0
told_ending (StuckAt at) n = four 1 n at 0
told_ending (FullAt at) n = four 2 n at 0

abbrev pub told_report : Report → List ℕ
told_report r = told_ending r.ending r.count

-- how a comparison ended (0 Same, 1 Differs), and for Differs the length of the text, the book's label and the table's
abbrev pub told_compared : Told → List ℕ
told_compared same = four 0 0 0 0
told_compared (differs n book table) = four 1 n book table
