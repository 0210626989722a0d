-- Laws of what was handed over: nothing at first, then one part more, and at the end all of it. A part at the buffer's front is what is due.
-- What was handed over before a write that failed is not the whole, since something is always left to print.
use Rattle.std.specs.Prelude.{ℕ, ◌+◌, ◌-◌, ◌<◌, ◌≡◌, refl, Result, Ok, Err, List, [], ◌∷◌, ◌++◌, length, take, drop}
use Rattle.std.proofs.Common.{arith, sym, ap, ◌∙◌, append_assoc, length-append, drop_at, drop-drop, take-add}
use Rattle.std.proofs.Math.Seq.{take-append_seam}
use Rattle.cut_lines.specs.Parts.{Part}
use Rattle.cut_lines.proofs.PartLaws.{part_front}
use Rattle.printed.specs.declared.Failed.{Failed}
use Rattle.printed.specs.Handed.{Due, Next, Counts, Over, joined, EachDue}

pub over_none : (whole : List ℕ) → Over whole 0 whole
over_none whole = record { done = []; count = refl; makes = refl }

-- the bytes of the buffer's front, as the code hands them over
abbrev pub front : List ℕ → ℕ → List ℕ
front o' end = take (end - 0) (drop 0 o')

module _ {rest o o' after : List ℕ} {end : ℕ} (part : Part rest o o' end after) where
  put_front : front o' end ≡ part.put
  put_front =
      let same : end - 0 ≡ end = omega arith in
      rw same (part_front part)

  pub front_length : length (front o' end) ≡ end
  front_length = ap length put_front ∙ omega (arith, part.stands.place)

  module _ {whole : List ℕ} {n : ℕ} (over : Over whole n rest) where
    pub over_due : Due whole n (front o' end)
    over_due =
        let behind : drop n whole ≡ part.put ++ after =
        rw (over.makes, part.makes) (drop_at over.done (part.put ++ after) n over.count) in
        rw (put_front, behind) (take-append_seam part.put after)

    -- one part more
    pub over_more : Over whole (n + end) after
    over_more = record {
      done = over.done ++ part.put;
      count = simp length-append (omega (arith, over.count, part.stands.place));
      makes = over.makes ∙ ap (λ (l : List ℕ). over.done ++ l) part.makes ∙ sym (append_assoc over.done part.put after);
    }

-- where something is left, it was less than the whole; where nothing is, all
pub over_less : {whole rest : List ℕ} {n : ℕ} → Over whole n rest → 0 < length rest → n < length whole
over_less over some = rw over.makes (simp length-append (omega (arith, over.count, some)))

over_all : {whole : List ℕ} {n : ℕ} → Over whole n [] → n ≡ length whole
over_all over = rw over.makes (simp length-append (omega (arith, over.count)))

-- the last part, by what became of it
pub over_last : {whole rest o o' : List ℕ} {n end : ℕ} (r : Result ℕ Failed) → Over whole n rest → 0 < length rest → Part rest o o' end []
    → Next n (length (front o' end)) r → Counts whole r
over_last (Ok m) over some part e = omega (arith, e, front_length part, over_all (over_more part over))
over_last (Err failed) over some part e = omega (arith, e, over_less over some)

-- parts that are due one after the other stand in the whole as they were handed over
pub joined_due : (whole : List ℕ) (n : ℕ) (parts : List (List ℕ)) → EachDue whole n parts → take (length (joined parts)) (drop n whole) ≡ joined parts
unfolding joined
joined_due whole n [] due = refl
joined_due whole n (part ∷ parts) due =
    let others = joined_due whole (n + length part) parts due.1 in
    rw (length-append, take-add (length part) (length (joined parts)) (drop n whole), due.0, drop-drop, others) refl
