-- The code's answers are told in full: two that mean the same on paper are the same value, since each is read back from what it means.
-- One lemma says so for all of them; each answer of a public call shows how it is read back.
use Rattle.std.specs.Prelude.{ℕ, ◌≡◌, refl, Option, None, Some, Result, Ok, Err}
use Rattle.std.proofs.Common.{sym, ap, ◌∙◌}
use Rattle.number.specs.declared.Refusal.{Refusal}
use Rattle.number.specs.Numbers.{taken}
use Rattle.number.specs.Refused.{Answer, Outcome}
use Rattle.number.specs.Refused.Answer.{got, refused}
use Rattle.number.specs.Refused.Outcome.{gives, refuses}
use Rattle.book.specs.Calls.{Size, Told, checked, kind_told}
use Rattle.book.specs.Calls.Told.{kind, none}
use Rattle.table.specs.Calls.{counted, wrote}
use Rattle.cutting.specs.declared.Ended.{Ended}
use Rattle.cutting.specs.declared.Ended.TheVariants.{Done, Stuck, Full}
use Rattle.cutting.specs.Cut.{Ending}
use Rattle.cutting.specs.Cut.Ending.{Done as Ending·done, StuckAt, FullAt}
use Rattle.cutting.specs.Calls.{Report, ended}
use Rattle.verdict.specs.declared.Difference.{Difference}
use Rattle.verdict.specs.Calls.{compared, Told as Compared·told}
use Rattle.verdict.specs.Calls.Told.{same, differs}

-- what is read back from its meaning is told in full by it
pub told_in_full : {X Y : Type 0} (told : X → Y) (back : Y → X) → ((x : X) → back (told x) ≡ x) → (x y : X) → told x ≡ told y → x ≡ y
told_in_full told back whole x y e = sym (whole x) ∙ ap back e ∙ whole y

-- a reader's answer
abbrev taken_back : Answer ℕ → Result (ℕ × ℕ) Refusal
taken_back (got n next) = Ok (n, next)
taken_back (refused r) = Err r

taken_whole : (x : Result (ℕ × ℕ) Refusal) → taken_back (taken x) ≡ x
taken_whole (Ok (n, next)) = refl
taken_whole (Err r) = refl

pub taken_one : (x y : Result (ℕ × ℕ) Refusal) → taken x ≡ taken y → x ≡ y
taken_one = told_in_full taken taken_back taken_whole

-- a call's answer, by what is read back from what it gives
abbrev back : {A B : Type 0} → (B → A) → Outcome B → Result A Refusal
back f (gives x) = Ok (f x)
back f (refuses r) = Err r

counted_whole : (x : Result ℕ Refusal) → back (λ n. n) (counted x) ≡ x
counted_whole (Ok n) = refl
counted_whole (Err r) = refl

pub counted_one : (x y : Result ℕ Refusal) → counted x ≡ counted y → x ≡ y
counted_one = told_in_full counted (back (λ n. n)) counted_whole

pub wrote_one : (x y : Result ℕ Refusal) → wrote x ≡ wrote y → x ≡ y
wrote_one = counted_one

abbrev sizes : Size → ℕ × ℕ
sizes s = (s.rules, s.nodes)

checked_whole : (x : Result (ℕ × ℕ) Refusal) → back sizes (checked x) ≡ x
checked_whole (Ok (n, m)) = refl
checked_whole (Err r) = refl

pub checked_one : (x y : Result (ℕ × ℕ) Refusal) → checked x ≡ checked y → x ≡ y
checked_one = told_in_full checked (back sizes) checked_whole

abbrev kind_back : Told → Option ℕ
kind_back (kind n) = Some n
kind_back none = None

kind_whole : (x : Result (Option ℕ) Refusal) → back kind_back (kind_told x) ≡ x
kind_whole (Ok (Some n)) = refl
kind_whole (Ok None) = refl
kind_whole (Err r) = refl

pub told_one : (x y : Result (Option ℕ) Refusal) → kind_told x ≡ kind_told y → x ≡ y
told_one = told_in_full kind_told (back kind_back) kind_whole

abbrev ending_back : Ending → ℕ → Ended
ending_back Ending·done n = Done n
ending_back (StuckAt at) n = Stuck n at
ending_back (FullAt at) n = Full n at

abbrev report_back : Report → Ended
report_back r = ending_back r.ending r.count

ended_whole : (x : Result Ended Refusal) → back report_back (ended x) ≡ x
ended_whole (Ok (Done n)) = refl
ended_whole (Ok (Stuck n at)) = refl
ended_whole (Ok (Full n at)) = refl
ended_whole (Err r) = refl

pub ended_one : (x y : Result Ended Refusal) → ended x ≡ ended y → x ≡ y
ended_one = told_in_full ended (back report_back) ended_whole

abbrev compared_back : Compared·told → Option Difference
compared_back same = None
compared_back (differs n b t) = Some (record { len = n; by_book = b; by_table = t })

compared_whole : (x : Result (Option Difference) Refusal) → back compared_back (compared x) ≡ x
compared_whole (Ok None) = refl
compared_whole (Ok (Some d)) = refl
compared_whole (Err r) = refl

pub compared_one : (x y : Result (Option Difference) Refusal) → compared x ≡ compared y → x ≡ y
compared_one = told_in_full compared (back compared_back) compared_whole
