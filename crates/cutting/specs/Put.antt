-- Words put into memory one after another, whatever memory is and whatever a word becomes in it: what a cut answers and leaves there.
-- `room` is how many words there is room for, and `put` what memory is with a word in it under a number. Into plain numbers a word goes as three cells.
use Rattle.std.specs.Prelude.{ℕ, suc, ◌+◌, ◌*◌, cond, List, [], ◌∷◌, length, set}
use Rattle.number.specs.declared.Refusal.TheVariants.{Loaded}
use Rattle.number.specs.Refused.{Outcome}
use Rattle.number.specs.Refused.Outcome.{gives, refuses}
use Rattle.meaning.specs.Re.{Text}
use Rattle.table.specs.Table.{lent, well_formed}
use Rattle.cutting.specs.declared.Word.{Word}
use Rattle.cutting.specs.Steps.{first_by}
use Rattle.cutting.specs.Cut.{Cut}
use Rattle.cutting.specs.Calls.{Report, cut_of}
use Rattle.cutting.specs.Flat.{record_cells}

abbrev pub put_cells : List ℕ → ℕ → Word → List ℕ
put_cells m k w = set (set (set m (record_cells * k) w.start) (record_cells * k + 1) w.len) (record_cells * k + 2) w.rule

-- an answer with the memory afterwards
pub record Held (M : Type 0) : Type 0 where
  pub answer : Outcome Report
  pub memory : M

module _ {M : Type 0} (put : M → ℕ → Word → M) where
  -- words under the numbers from k on
  unfoldable pub put_all : ℕ → List Word → M → M
  put_all k [] m = m
  put_all k (w ∷ ws) m = put_all (suc k) ws (put m k w)

  abbrev pub held : Cut → M → Held M
  held c m = record {
    answer = gives (record { ending = c.ending; count = length c.words });
    memory = put_all 0 c.words m;
  }

abbrev pub cut_slots_of : {M : Type 0} → (M → ℕ) → (M → ℕ → Word → M) → ℕ → List ℕ → List ℕ → Text → ℕ → M → Held M
cut_slots_of room put s labels targets text at m =
    cond (well_formed s labels targets) (held put (cut_of (first_by (lent s labels targets)) text at (room m)) m)
    (record { answer = refuses Loaded; memory = m })
