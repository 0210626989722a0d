-- What C gets of each kind of answer, number by number; and what the packing keeps: C can read every answer back, refusals with their places included.
-- To believe it, read Packed and Unpacked, with number's Refused and Rows.
use Rattle.std.specs.Prelude.{ℕ, ◌≡◌, refl, Bool, true, false, List, [], ◌∷◌, map}
use Rattle.std.proofs.Common.{ap}
use Rattle.number.specs.declared.Refusal.{Refusal}
use Rattle.number.specs.Refused.{Outcome}
use Rattle.number.specs.Refused.Outcome.{gives, refuses}
use Rattle.number.specs.Rows.{refusals_at}
use Rattle.number.specs.RowLaws.{row_back}
use Rattle.book.specs.Calls.{Size, Told as KindTold}
use Rattle.book.specs.Calls.Told.{kind, none}
use Rattle.cutting.specs.Cut.{Ending}
use Rattle.cutting.specs.Cut.Ending.{Done, StuckAt, FullAt}
use Rattle.cutting.specs.Calls.{Report}
use Rattle.verdict.specs.Calls.{Told}
use Rattle.verdict.specs.Calls.Told.{same, differs}
use Rattle.packed.specs.Packed.{packed, told_count, told_size, told_kind, tested, told_report, told_compared}
use Rattle.packed.specs.Unpacked.{numbers_of, unpacked, count_in, size_in, kind_in, report_in, compared_in, test_in}

-- code and cells of every kind of answer: a count, a size, a kind, no such rule; Done, Stuck, Full; Same, Differs; a table that is well formed, and one that is not
pub the_answers : (n rules nodes at book table : ℕ) →
    map numbers_of
    (packed told_count (gives n) ∷
    packed told_size (gives (record { rules = rules; nodes = nodes })) ∷
    packed told_kind (gives (kind n)) ∷
    packed told_kind (gives none) ∷
    packed told_report (gives (record { ending = Done; count = n })) ∷
    packed told_report (gives (record { ending = StuckAt at; count = n })) ∷
    packed told_report (gives (record { ending = FullAt at; count = n })) ∷
    packed told_compared (gives same) ∷
    packed told_compared (gives (differs n book table)) ∷
    packed told_count (tested true) ∷
    packed told_count (tested false) ∷ [])
    ≡
    (0 ∷ n ∷ 0 ∷ 0 ∷ 0 ∷ []) ∷
    (0 ∷ rules ∷ nodes ∷ 0 ∷ 0 ∷ []) ∷
    (0 ∷ 1 ∷ n ∷ 0 ∷ 0 ∷ []) ∷
    (0 ∷ 0 ∷ 0 ∷ 0 ∷ 0 ∷ []) ∷
    (0 ∷ 0 ∷ n ∷ 0 ∷ 0 ∷ []) ∷
    (0 ∷ 1 ∷ n ∷ at ∷ 0 ∷ []) ∷
    (0 ∷ 2 ∷ n ∷ at ∷ 0 ∷ []) ∷
    (0 ∷ 0 ∷ 0 ∷ 0 ∷ 0 ∷ []) ∷
    (0 ∷ 1 ∷ n ∷ book ∷ table ∷ []) ∷
    (0 ∷ 0 ∷ 0 ∷ 0 ∷ 0 ∷ []) ∷
    (10 ∷ 0 ∷ 0 ∷ 0 ∷ 0 ∷ []) ∷ []
the_answers n rules nodes at book table = refl

-- and of every refusal, whatever the answer would have been: number and place
pub the_refused_answers : {A : Type 0} (told : A → List ℕ) (at : ℕ) →
    map (λ (r : Refusal). numbers_of (packed told (refuses r))) (refusals_at at) ≡
    (1 ∷ at ∷ 0 ∷ 0 ∷ 0 ∷ []) ∷
    (2 ∷ at ∷ 0 ∷ 0 ∷ 0 ∷ []) ∷
    (3 ∷ at ∷ 0 ∷ 0 ∷ 0 ∷ []) ∷
    (4 ∷ at ∷ 0 ∷ 0 ∷ 0 ∷ []) ∷
    (5 ∷ at ∷ 0 ∷ 0 ∷ 0 ∷ []) ∷
    (6 ∷ at ∷ 0 ∷ 0 ∷ 0 ∷ []) ∷
    (7 ∷ at ∷ 0 ∷ 0 ∷ 0 ∷ []) ∷
    (8 ∷ at ∷ 0 ∷ 0 ∷ 0 ∷ []) ∷
    (9 ∷ at ∷ 0 ∷ 0 ∷ 0 ∷ []) ∷
    (10 ∷ 0 ∷ 0 ∷ 0 ∷ 0 ∷ []) ∷
    (11 ∷ 0 ∷ 0 ∷ 0 ∷ 0 ∷ []) ∷
    (12 ∷ at ∷ 0 ∷ 0 ∷ 0 ∷ []) ∷
    (13 ∷ 0 ∷ 0 ∷ 0 ∷ 0 ∷ []) ∷
    (14 ∷ at ∷ 0 ∷ 0 ∷ 0 ∷ []) ∷
    (15 ∷ at ∷ 0 ∷ 0 ∷ 0 ∷ []) ∷ []
the_refused_answers told at = refl

-- for an answer of any kind whose numbers can be read back
module _ {A : Type 0} (told : A → List ℕ) (read : List ℕ → A) (back : (x : A) → read (told x) ≡ x) where
  pub packed_back : (x : Outcome A) → unpacked read (packed told x) ≡ x
  packed_back (gives x) = ap gives (back x)
  packed_back (refuses r) = rw (row_back r).some (ap refuses (row_back r).back)

ending_back : (e : Ending) (n : ℕ) → report_in (told_report (record { ending = e; count = n })) ≡ record { ending = e; count = n }
ending_back Done n = refl
ending_back (StuckAt at) n = refl
ending_back (FullAt at) n = refl

kind_back : (x : KindTold) → kind_in (told_kind x) ≡ x
kind_back (kind n) = refl
kind_back none = refl

compared_back : (x : Told) → compared_in (told_compared x) ≡ x
compared_back same = refl
compared_back (differs n book table) = refl

pub the_count_back : (x : Outcome ℕ) → unpacked count_in (packed told_count x) ≡ x
the_count_back = packed_back told_count count_in (λ n. refl)

pub the_size_back : (x : Outcome Size) → unpacked size_in (packed told_size x) ≡ x
the_size_back = packed_back told_size size_in (λ s. refl)

pub the_kind_back : (x : Outcome KindTold) → unpacked kind_in (packed told_kind x) ≡ x
the_kind_back = packed_back told_kind kind_in kind_back

pub the_report_back : (x : Outcome Report) → unpacked report_in (packed told_report x) ≡ x
the_report_back = packed_back told_report report_in (λ r. ending_back r.ending r.count)

pub the_comparison_back : (x : Outcome Told) → unpacked compared_in (packed told_compared x) ≡ x
the_comparison_back = packed_back told_compared compared_in compared_back

-- the test of a table: what C gets tells it whether the table is well formed
pub the_test_back : (b : Bool) → test_in (packed told_count (tested b)) ≡ b
the_test_back true = refl
the_test_back false = refl
