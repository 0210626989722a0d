-- The theorems of sheet_bytes that are bought: what was put out for a book fixes the answer and the whole buffer, and what that is.
-- To believe them, read the definitions: Put here, and those that it stands on; the proofs stand in PutLaws.
use Rattle.std.specs.Prelude.{ℕ, ◌≡◌, Result, Ok, Err, List, length}
use Rattle.std.proofs.Common.{sym, ◌∙◌}
use Rattle.number.specs.declared.Refusal.{Refusal}
use Rattle.number.specs.Refused.{Outcome}
use Rattle.number.specs.Refused.Outcome.{gives, refuses}
use Rattle.lines.specs.Lines.{refused_line}
use Rattle.programs.proofs.Main.{one_print}
use Rattle.sheet_bytes.specs.declared.Line.{Line}
use Rattle.sheet_bytes.specs.Put.{Puts, Fronts}
use Rattle.sheet_bytes.specs.PutLaws.{put_one, sheet_put_lem, line_put}

pub one_sheet : {x : Outcome (List ℕ)} {o o₁ o₂ : List ℕ} (p q : Result ℕ Line) → Puts x o o₁ p → Puts x o o₂ q → (p ≡ q) × (o₁ ≡ o₂)
one_sheet p q a b = let z = one_print a.front b.front in (put_one p q (a.which ∙ sym b.which) z.0, z.1)

module _ (x : Outcome (List ℕ)) (o o' : List ℕ) (p : Result ℕ Line) (puts : Puts x o o' p) where
  -- a sheet stands in front of the buffer, and the answer is where it ends
  pub the_sheet_put : (sheet : List ℕ) → x ≡ gives sheet → (p ≡ Ok (length sheet)) × Fronts sheet o o'
  the_sheet_put = sheet_put_lem x o o' p puts

  -- a refusal's line does, and the answer is the refusal, and where the line ends
  pub the_line_put : (r : Refusal) → x ≡ refuses r → (p ≡ Err (record { refusal = r; end = length (refused_line r) })) × Fronts (refused_line r) o o'
  the_line_put = line_put x o o' p puts
