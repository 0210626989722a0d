-- Laws of the parts: one for each way that the beginning returns, and what a turn puts by what it promises.
-- And something is always still to be printed: the text's last line, or a refusal.
use Rattle.std.specs.Prelude.{ℕ, ◌+◌, ◌<◌, ◌≤◌, ◌≡◌, refl, Ok, Err, Bool, true, false, cond, List, [], ◌∷◌, ◌++◌, ltb, length, take, drop}
use Rattle.std.proofs.Common.{arith, sym, ap, ◌∙◌, append-nil, length-append, length-drop}
use Rattle.number.specs.declared.Refusal.{Refusal}
use Rattle.number.specs.declared.Refusal.TheVariants.{Input, Loaded}
use Rattle.number.specs.Limits.{rules, book_file, text_file}
use Rattle.number.specs.Lists.{there_written, Writes, writes_none}
use Rattle.number.specs.Refused.{Outcome}
use Rattle.number.specs.Refused.Outcome.{gives, refuses}
use Rattle.meaning.specs.Re.{Text}
use Rattle.table.specs.Table.{Table, lent, well_formed}
use Rattle.cutting.specs.Steps.{first_by}
use Rattle.cutting.specs.Cut.{Ending, cut_by}
use Rattle.cutting.specs.Cut.Ending.{Done, StuckAt, FullAt}
use Rattle.cutting.specs.CutLaws.{by_table}
use Rattle.cutting.specs.TileLaws.{never_full}
use Rattle.lines.specs.Lines.{done_line, stuck_line, refused_line}
use Rattle.built.specs.Calls.{build_book}
use Rattle.programs.specs.Output.{kind_in, last_line, cut_lines}
use Rattle.programs.specs.Print.{cut_built, cut_print}
use Rattle.programs.specs.PrintLaws.{cut_both}
use Rattle.programs.specs.StandLaws.{Built}
use Rattle.turns.specs.declared.Turn.{Turn}
use Rattle.turns.specs.declared.Turn.TheVariants.{Onward, Last}
use Rattle.turns.specs.Turned.{Kinds, turn_of, turn_lines, Turned}
use Rattle.turns.specs.TurnedLaws.{kinds_all}
use Rattle.cut_lines.specs.declared.Told.{Told}
use Rattle.cut_lines.specs.Rest.{rest_lines}
use Rattle.cut_lines.specs.Parts.{Part, Begins, Goes}
use Rattle.cut_lines.specs.RestLaws.{turn_last, turn_on, cut_built_lem}

-- ---- a part

-- what stands at the buffer's front is what was put, and where nothing was, the rest is the whole
pub part_front : {whole o o' rest : List ℕ} {end : ℕ} (part : Part whole o o' end rest) → take end o' ≡ part.put
part_front {o = o} part =
    let long : 0 + length part.put ≡ length part.put = omega arith in
    rw (part.stands.out, part.stands.place, long) (there_written o 0 part.put (omega arith))

pub part_none : {whole o o' rest : List ℕ} → Part whole o o' 0 rest → rest ≡ whole
part_none {whole} {o} {o'} {rest} part = go part.put part.stands.place part.makes
  where
    go : (put : List ℕ) → 0 ≡ 0 + length put → whole ≡ put ++ rest → rest ≡ whole
    go [] e m = sym m
    go (x ∷ put) e m = absurd (omega (arith, e))

-- ---- the beginning

module _ (book : List ℕ) (text : Text) {labels targets kinds o : List ℕ} where
  pub begins_told : {o' : List ℕ} (r : Refusal) (told : Told) → refused_line r ≡ cut_print book text → Writes (refused_line r) o o' 0 told.end
      → told.end ≤ length o' → Begins book text labels targets kinds o o' (Err told)
  begins_told r told e put fits = record {
    part = record { put = refused_line r; stands = put; inside = fits; makes = sym e ∙ sym (append-nil (refused_line r)) };
    sized = tt;
  }

  pub begins_states : (n : ℕ) → length book ≤ book_file → length text ≤ text_file → Built (build_book book) n labels targets
      → rules ≤ length kinds → Kinds book kinds → Begins book text labels targets kinds o o (Ok n)
  begins_states n small short built all known = record {
    part = record {
      put = [];
      stands = writes_none o 0;
      inside = omega arith;
      makes =
          sym (cut_both book text small short) ∙ sym (cut_built_lem book text n labels targets built)
          ∙ ap (λ (k : ℕ → ℕ). rest_lines k n labels targets text 0 0) (sym (kinds_all book kinds all known));
    };
    sized = short;
  }

-- ---- a turn

module _ (kinds : ℕ → ℕ) (s : ℕ) (labels targets : List ℕ) (text : Text) (place before m : ℕ) (some : 0 < m) (o o' : List ℕ) where
  pub turn_goes : (r : Turn) → Turned kinds before (turn_of s labels targets text place m) o o' r
      → Goes kinds s labels targets text place before o o' r
  turn_goes (Last end) turned = record {
    part = record {
      put = turn_lines kinds before (turn_of s labels targets text place m);
      stands = turned.lines;
      inside = turned.fits;
      makes =
          sym (turn_last kinds s labels targets text place before m turned.goes)
          ∙ sym (append-nil (turn_lines kinds before (turn_of s labels targets text place m)));
    };
    further = tt;
  }
  turn_goes (Onward p total end) turned =
      let on = turn_on kinds s labels targets text place before m p total some turned.goes in
      record {
        part = record {
          put = turn_lines kinds before (turn_of s labels targets text place m);
          stands = turned.lines;
          inside = turned.fits;
          makes = on.lines;
        };
        further = (on.further, on.within, on.some);
      }

-- ---- something is left

refused_some : (r : Refusal) → 0 < length (refused_line r)
unfolding refused_line
refused_some r = simp length-append (omega arith)

last_some : (total : ℕ) (e : Ending) → ((p : ℕ) → e ≡ FullAt p → ⊥) → 0 < length (last_line total e)
unfolding done_line stuck_line
last_some total Done never = simp length-append (omega arith)
last_some total (StuckAt p) never = simp length-append (omega arith)
last_some total (FullAt p) never = absurd (never p refl)

cut_some : (kinds : ℕ → ℕ) (before : ℕ) (t : Table) (k at : ℕ) (text : Text) → length text ≤ k
    → 0 < length (cut_lines kinds before (cut_by (first_by t) k at text))
cut_some kinds before t k at text short =
    let c = cut_by (first_by t) k at text in
    let last = last_some (before + length c.words) c.ending (never_full (by_table t) k at text short) in
    simp length-append (omega (arith, last))

pub rest_some : (kinds : ℕ → ℕ) (s : ℕ) (labels targets : List ℕ) (text : Text) (place before : ℕ)
    → 0 < length (rest_lines kinds s labels targets text place before)
rest_some kinds s labels targets text place before = go (well_formed s labels targets)
  where
    go : (b : Bool) → (let c = cut_by (first_by (lent s labels targets)) (length text) place (drop place text) in
        0 < length (turn_lines kinds before (cond b (gives c) (refuses Loaded))))
    go true = cut_some kinds before (lent s labels targets) (length text) place (drop place text) (omega (arith, length-drop place text))
    go false = refused_some Loaded

pub print_some : (book : List ℕ) (text : Text) → 0 < length (cut_print book text)
print_some book text = go (ltb book_file (length book)) (ltb text_file (length text)) (build_book book)
  where
    go : (b d : Bool) (x : Outcome Table) → 0 < length (cond b (refused_line Input) (cond d (refused_line Input) (cut_built book text x)))
    go true d x = refused_some Input
    go false true x = refused_some Input
    go false false (gives t) = cut_some (kind_in book) 0 t (length text) 0 text (omega arith)
    go false false (refuses r) = refused_some r
