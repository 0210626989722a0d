-- What C got, read back: from the code and the four cells to the answer that the call gave, or to its refusal and place.
-- proofs/Main.antt proves that this is the answer that was packed, so nothing is lost on the way.
use Rattle.std.specs.Prelude.{ℕ, Bool, cond, List, ◌∷◌, eqb, get_or}
use Rattle.number.specs.Refused.{Outcome}
use Rattle.number.specs.Refused.Outcome.{gives, refuses}
use Rattle.number.specs.Rows.{refusal_of}
use Rattle.book.specs.Calls.{Size, Told as KindTold}
use Rattle.book.specs.Calls.Told.{kind, none}
use Rattle.cutting.specs.Cut.{Ending}
use Rattle.cutting.specs.Cut.Ending.{Done, StuckAt, FullAt}
use Rattle.cutting.specs.Calls.{Report}
use Rattle.verdict.specs.Calls.{Told}
use Rattle.verdict.specs.Calls.Told.{same, differs}
use Rattle.packed.specs.Packed.{Packed}

-- all five numbers in a row, the code first
abbrev pub numbers_of : Packed → List ℕ
numbers_of p = p.code ∷ p.cells

-- the cells by their numbers
abbrev pub cell : List ℕ → ℕ → ℕ
cell cells i = get_or cells i 0

-- an answer, where `read` takes it from the cells; or a refusal
abbrev pub unpacked : {A : Type 0} → (List ℕ → A) → Packed → Outcome A
unpacked read p = cond (eqb p.code 0) (gives (read p.cells)) (refuses (refusal_of p.code (cell p.cells 0)))

abbrev pub count_in : List ℕ → ℕ
count_in cells = cell cells 0

abbrev pub size_in : List ℕ → Size
size_in cells = record { rules = cell cells 0; nodes = cell cells 1 }

abbrev pub kind_in : List ℕ → KindTold
kind_in cells = cond (eqb (cell cells 0) 0) none (kind (cell cells 1))

abbrev pub ending_of : ℕ → ℕ → Ending
ending_of how at = cond (eqb how 0) Done (cond (eqb how 1) (StuckAt at) (FullAt at))

abbrev pub report_in : List ℕ → Report
report_in cells = record { ending = ending_of (cell cells 0) (cell cells 2); count = cell cells 1 }

abbrev pub compared_in : List ℕ → Told
compared_in cells = cond (eqb (cell cells 0) 0) same (differs (cell cells 1) (cell cells 2) (cell cells 3))

-- whether a table is well formed: the code alone tells
abbrev pub test_in : Packed → Bool
test_in p = eqb p.code 0
