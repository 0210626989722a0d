-- The theorems of cut_lines that are bought: what its promises say of the buffer, as equations between lists of bytes.
-- To believe them, read the definitions: Rest and Parts here, cut_print in programs, and those that they stand on.
use Rattle.std.specs.Prelude.{ℕ, ◌≡◌, Ok, Err, List, ◌++◌, take, drop}
use Rattle.std.proofs.Common.{arith, sym, ap, ◌∙◌, append-nil}
use Rattle.number.specs.Lists.{past_written}
use Rattle.meaning.specs.Re.{Text}
use Rattle.programs.specs.Print.{cut_print}
use Rattle.turns.specs.declared.Turn.TheVariants.{Onward, Last}
use Rattle.turns.specs.Turned.{kind_by}
use Rattle.cut_lines.specs.Rest.{rest_lines}
use Rattle.cut_lines.specs.Parts.{Part, Begins, Goes}
use Rattle.cut_lines.proofs.PartLaws.{part_front, part_none}

-- the buffer's front and the rest are the whole, and behind the front the buffer is as it was
pub the_part : {whole o o' rest : List ℕ} {end : ℕ} → Part whole o o' end rest → (whole ≡ take end o' ++ rest) × (drop end o' ≡ drop end o)
the_part {o = o} {rest = rest} part = (
  part.makes ∙ ap (λ (l : List ℕ). l ++ rest) (sym (part_front part)),
  rw (part.stands.out, part.stands.place) (past_written o 0 part.put (omega arith)),
)

module _ (book : List ℕ) (text : Text) (labels targets kinds o o' : List ℕ) where
  -- a refusal's line is all that is printed
  pub the_refusal_alone : (end : ℕ) → Begins book text labels targets kinds o o' (Err (record { end = end })) → take end o' ≡ cut_print book text
  the_refusal_alone end begun = sym ((the_part begun.part).0 ∙ append-nil (take end o'))

  -- where the table was built, the lines of the text from its start on are all that is printed
  pub the_lines_follow : (n : ℕ) → Begins book text labels targets kinds o o' (Ok n)
      → rest_lines (kind_by kinds) n labels targets text 0 0 ≡ cut_print book text
  the_lines_follow n begun = part_none begun.part

module _ (kinds : ℕ → ℕ) (s : ℕ) (labels targets : List ℕ) (text : Text) (place before : ℕ) (o o' : List ℕ) where
  -- a turn that goes on: its lines, and then those from the place that it answers
  pub the_turn : (p total end : ℕ) → Goes kinds s labels targets text place before o o' (Onward p total end)
      → rest_lines kinds s labels targets text place before ≡ take end o' ++ rest_lines kinds s labels targets text p total
  the_turn p total end goes = (the_part goes.part).0

  -- the last one: its lines are all that was left
  pub the_last_turn : (end : ℕ) → Goes kinds s labels targets text place before o o' (Last end)
      → rest_lines kinds s labels targets text place before ≡ take end o'
  the_last_turn end goes = (the_part goes.part).0 ∙ append-nil (take end o')
