-- Laws of what sheet_bytes puts out, one for each return of the code.
-- A table that was built is always written, since the buffer holds the longest sheet.
use Rattle.std.specs.Prelude.{ℕ, ◌+◌, ◌≤◌, ◌≡◌, Result, Ok, Err, List, ◌++◌}
use native.Mathlib.Omega.{arith}
use Rattle.std.proofs.Math.Path.{refl, ap}
use Rattle.std.proofs.Common.{sym, subst, ◌∙◌, take_at, drop_at}
use Rattle.std.proofs.Math.ListN.{length, drop}
use Rattle.number.specs.declared.Refusal.{Refusal}
use Rattle.number.specs.Lists.{written, Writes}
use Rattle.number.specs.Refused.{Outcome}
use Rattle.number.specs.Refused.Outcome.{gives, refuses}
use Rattle.table.specs.Table.{Table}
use Rattle.table.specs.Formed.{Formed, longest_sheet}
use Rattle.table.specs.Sheet.{write_sheet}
use Rattle.table.proofs.SheetCalls.{write_formed}
use Rattle.table.proofs.SheetBytes.{sheet_length_lem}
use Rattle.table.specs.Calls.{wrote, Output, write_of}
use Rattle.table.specs.Promises.{WritesSheet}
use Rattle.lines.specs.Lines.{refused_line}
use Rattle.programs.specs.Print.{sheet_built}
use Rattle.programs.specs.StandLaws.{Built, no_count, same_count, same_refusal}
use Rattle.sheet_bytes.specs.declared.Line.{Line}
use Rattle.sheet_bytes.specs.Put.{sheet_put, sheet_length, put_answer, put_end, Puts, Makes, Fronts}

-- the answer is one of its two: which, and where it ends, say all of it
pub put_one : (p q : Result ℕ Line) → put_answer p ≡ put_answer q → put_end p ≡ put_end q → p ≡ q
put_one (Ok e) (Ok f) t n = ap Ok n
put_one (Ok e) (Err l) t n = absurd (no_count (sym t))
put_one (Err l) (Ok f) t n = absurd (no_count t)
put_one (Err l) (Err m) t n = let same = same_refusal t in λ i. Err (record { refusal = same i; end = n i })

pub makes_as : {x y : Outcome (List ℕ)} (o o' : List ℕ) (p : Result ℕ Refusal) → y ≡ x → Makes x o o' p → Makes y o o' p
makes_as {x} {y} o o' p e made = subst (λ (z : Outcome (List ℕ)). Makes z o o' p) (sym e) made

-- where there is no sheet, the refusal's line is put
pub puts_line : {x : Outcome (List ℕ)} {o o' : List ℕ} (r : Refusal) (end : ℕ) → x ≡ refuses r → Writes (refused_line r) o o' 0 end → end ≤ length o'
    → Puts x o o' (Err (record { refusal = r; end = end }))
puts_line r end e put fits = rw e (record { front = put; which = refl; fits = fits })

pub sheet_refused : (x : Outcome Table) (r : Refusal) → x ≡ refuses r → sheet_built x ≡ refuses r
sheet_refused x r e = ap sheet_built e

fronts : (w o o' : List ℕ) (end : ℕ) → Writes w o o' 0 end → Fronts w o o'
unfolding written
fronts w o o' end put =
    let e : 0 + length w ≡ length w = omega arith in
    let d : o' ≡ w ++ drop (length w) o = put.out ∙ rw e refl in
    record { front = rw d (take_at w (drop (length w) o) (length w) refl); behind = rw d (drop_at w (drop (length w) o) (length w) refl) }

module _ (x : Outcome (List ℕ)) (o o' : List ℕ) (p : Result ℕ Line) (put : Puts x o o' p) where
  module _ (w : List ℕ) (e : sheet_put x ≡ w) where
    ends : put_end p ≡ length w
    ends = omega (arith, put.front.place, ap length e)

    stands : Fronts w o o'
    stands = fronts w o o' (put_end p) (subst (λ (v : List ℕ). Writes v o o' 0 (put_end p)) e put.front)

  pub sheet_put_lem : (sheet : List ℕ) → x ≡ gives sheet → (p ≡ Ok (length sheet)) × Fronts sheet o o'
  sheet_put_lem sheet e = (put_one p (Ok (length sheet)) (put.which ∙ ap sheet_length e) (ends sheet (ap sheet_put e)), stands sheet (ap sheet_put e))

  pub line_put : (r : Refusal) → x ≡ refuses r → (p ≡ Err (record { refusal = r; end = length (refused_line r) })) × Fronts (refused_line r) o o'
  line_put r e =
      let w : List ℕ = refused_line r in
      (put_one p (Err (record { refusal = r; end = length w })) (put.which ∙ ap sheet_length e) (ends w (ap sheet_put e)), stands w (ap sheet_put e))

-- a table that was built is always written
module _ (x : Outcome Table) (n : ℕ) (l t o o' : List ℕ) (b : Built x n l t) (room : longest_sheet ≤ length o) where
  abbrev sheet : List ℕ
  sheet = write_sheet b.table

  wrote_it : write_of n l t o ≡ record { answer = gives (length sheet); out = sheet ++ drop (length sheet) o }
  wrote_it =
      write_formed n l t o sheet (subst Formed (sym b.stood.same) b.stood.formed) (ap write_sheet b.stood.same)
      (omega (arith, sheet_length_lem b.table b.stood.formed))

  pub puts_sheet : (y : Result ℕ Refusal) (end : ℕ) → y ≡ Ok end → length o' ≡ length o → WritesSheet n l t o o' y
      → Puts (sheet_built x) o o' (Ok end)
  unfolding written
  puts_sheet y end f l w =
      let many : end ≡ length sheet = same_count (sym (ap wrote f) ∙ w.answer ∙ ap (λ (y : Output). y.answer) wrote_it) in
      let out : o' ≡ sheet ++ drop (length sheet) o = w.out ∙ ap (λ (y : Output). y.out) wrote_it in
      rw b.built
      (record {
        front = record { place = omega (arith, many); out = out ∙ rw zero_plus refl };
        which = ap gives many;
        fits = omega (arith, many, l, sheet_length_lem b.table b.stood.formed);
      })
    where
      zero_plus : 0 + length sheet ≡ length sheet
      zero_plus = omega arith

  pub never_unwritten : (y : Result ℕ Refusal) (r : Refusal) → y ≡ Err r → WritesSheet n l t o o' y → ⊥
  never_unwritten y r f w = no_count (sym (ap wrote f) ∙ w.answer ∙ ap (λ (y : Output). y.answer) wrote_it)

  pub made_written : (y : Result ℕ Refusal) → length o' ≡ length o → WritesSheet n l t o o' y → Makes (sheet_built x) o o' y
  made_written (Ok end) e w = puts_sheet (Ok end) end refl e w
  made_written (Err r) e w = absurd (never_unwritten (Err r) r refl w)
