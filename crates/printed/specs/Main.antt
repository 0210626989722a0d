-- The theorems of printed that are bought: parts that are due one after the other are a beginning of the whole, and all of it where none is missing.
-- To believe them, read Handed here, and cut_print in programs. That each write of the code is of bytes that are due is the contract of print_next.
use Rattle.std.specs.Prelude.{ℕ, ◌<◌, ◌≡◌, Ok, Err, List, length, take}
use Rattle.std.proofs.Common.{arith, sym, ap, ◌∙◌}
use Rattle.std.proofs.Math.Seq.{take-length}
use Rattle.printed.specs.Handed.{Counts, joined, EachDue}
use Rattle.printed.specs.HandedLaws.{joined_due}

pub the_beginning : (whole : List ℕ) (parts : List (List ℕ)) → EachDue whole 0 parts → joined parts ≡ take (length (joined parts)) whole
the_beginning whole parts due = sym (joined_due whole 0 parts due)

-- where as many bytes were handed over as there are
pub the_whole : (whole : List ℕ) (parts : List (List ℕ)) → EachDue whole 0 parts → length (joined parts) ≡ length whole → joined parts ≡ whole
the_whole whole parts due e = the_beginning whole parts due ∙ ap (λ (n : ℕ). take n whole) e ∙ take-length whole

-- all is more than less, and there is one number for all
pub the_counts : (whole : List ℕ) (n m : ℕ) → Counts whole (Ok n) → (Counts whole (Ok m) → m ≡ n) × (Counts whole (Err (record { printed = m })) → m < n)
the_counts whole n m e = (λ f. f ∙ sym e, λ h. omega (arith, e, h))
