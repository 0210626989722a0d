-- A text that is cut in turns prints what it would print in one: the lines of a full turn, and then those of the cut that goes on from its place.
-- And the turns by a table that was built print the cut of the whole text.
use Rattle.std.specs.Prelude.{ℕ, ◌+◌, ◌-◌, ◌<◌, ◌≤◌, ◌≡◌, refl, Bool, true, false, cond, List, [], ◌∷◌, ◌++◌, length, drop}
use Rattle.std.proofs.Common.{add_assoc, arith, sym, ap, ◌∙◌, append_assoc, append-nil, length-append, length-drop, drop-drop}
use Rattle.number.specs.declared.Refusal.TheVariants.{Loaded}
use Rattle.number.specs.Refused.Outcome.{gives, refuses}
use Rattle.meaning.specs.Re.{Text}
use Rattle.meaning.specs.Words.{Found}
use Rattle.table.specs.Table.{Table, lent, well_formed}
use Rattle.cutting.specs.declared.Word.{Word}
use Rattle.cutting.specs.Steps.{first_by}
use Rattle.cutting.specs.Cut.{Ending, cut_by}
use Rattle.cutting.specs.Cut.Ending.{Done, StuckAt, FullAt}
use Rattle.cutting.specs.CutLaws.{Finds, by_table, cut_is}
use Rattle.cutting.specs.Tiles.{Finished}
use Rattle.cutting.specs.TileLaws.{full_on, cut_on, cut_ample, cut_over}
use Rattle.built.specs.Calls.{build_book}
use Rattle.programs.specs.Output.{kind_in, word_lines, cut_lines}
use Rattle.programs.specs.Print.{cut_built}
use Rattle.programs.specs.StandLaws.{Built}
use Rattle.turns.specs.Turned.{next_by, next_after, turn_of, turn_lines}
use Rattle.turns.specs.Turned.Next.{stop, onward}
use Rattle.cut_lines.specs.Rest.{rest_lines}

words_more : (kinds : ℕ → ℕ) (ws vs : List Word) → word_lines kinds (ws ++ vs) ≡ word_lines kinds ws ++ word_lines kinds vs
unfolding word_lines
words_more kinds [] vs = refl
words_more kinds (w ∷ ws) vs = rw (words_more kinds ws vs, append_assoc)

turns_print : {F : Text → Found → Type 0} {first : Text → Found} → Finds F first → (kinds : ℕ → ℕ) (before m k at : ℕ) (text : Text) (p : ℕ)
    → (cut_by first m at text).ending ≡ FullAt p
    → cut_lines kinds before (cut_by first (m + k) at text)
    ≡ cut_lines kinds before (cut_by first m at text)
    ++ cut_lines kinds (before + length (cut_by first m at text).words) (cut_by first k p (drop (p - at) text))
turns_print by kinds before m k at text p e =
    rw ((cut_on by m k at text p e).goes_on, e, append-nil)
    (simp (words_more, length-append, add_assoc, append_assoc))

-- ---- turns of the code

-- a turn that goes on: past the place, no more words than bytes, and its lines are the first of the rest's
pub record Onwards (kinds : ℕ → ℕ) (s : ℕ) (labels targets : List ℕ) (text : Text) (place before m p total : ℕ) : Type 0 where
  pub further : place < p
  pub within : p ≤ length text
  pub some : total + place ≤ before + p
  pub lines : rest_lines kinds s labels targets text place before
      ≡ turn_lines kinds before (turn_of s labels targets text place m) ++ rest_lines kinds s labels targets text p total

no_stop : {p n : ℕ} → stop ≡ onward p n → ⊥
no_stop e = let z : ◌≡◌ {A = ℕ} 0 1 = cc in omega arith

over_of : (total : ℕ) (e : Ending) → stop ≡ next_by total e → Finished e
over_of total Done h = tt
over_of total (StuckAt p) h = tt
over_of total (FullAt p) h = absurd (no_stop h)

abbrev Full : ℕ → ℕ → ℕ → Ending → Type 0
Full p total n e = (e ≡ FullAt p) × (total ≡ n)

full_of : (p total n : ℕ) (e : Ending) → onward p total ≡ next_by n e → Full p total n e
full_of p total n Done h = absurd (no_stop (sym h))
full_of p total n (StuckAt q) h = absurd (no_stop (sym h))
full_of p total n (FullAt q) h = (cc, cc)

module _ (kinds : ℕ → ℕ) (s : ℕ) (labels targets : List ℕ) (text : Text) (place before m : ℕ) where
  abbrev tbl : Table
  tbl = lent s labels targets

  abbrev rest : Text
  rest = drop place text

  enough : length rest ≤ length text
  enough = omega (arith, length-drop place text)

  pub turn_last : stop ≡ next_after before (turn_of s labels targets text place m)
      → turn_lines kinds before (turn_of s labels targets text place m) ≡ rest_lines kinds s labels targets text place before
  turn_last e = go (well_formed s labels targets) e
    where
      go : (b : Bool) → (let c = cut_by (first_by tbl) m place rest in let w = cut_by (first_by tbl) (length text) place rest in
          stop ≡ next_after before (cond b (gives c) (refuses Loaded))
          → turn_lines kinds before (cond b (gives c) (refuses Loaded)) ≡ turn_lines kinds before (cond b (gives w) (refuses Loaded)))
      go true h =
          let c = cut_by (first_by tbl) m place rest in
          ap (cut_lines kinds before)
          (cut_over (by_table tbl) (length text) place rest enough m (over_of (before + length c.words) c.ending h))
      go false h = refl

  module _ (p total : ℕ) (some : 0 < m) where
    goes_on : (cut_by (first_by tbl) m place rest).ending ≡ FullAt p → total ≡ before + length (cut_by (first_by tbl) m place rest).words
        → place < p
        → cut_lines kinds before (cut_by (first_by tbl) (length text) place rest)
        ≡ cut_lines kinds before (cut_by (first_by tbl) m place rest) ++ cut_lines kinds total (cut_by (first_by tbl) (length text) p (drop p text))
    goes_on e f h =
        let past : place + (p - place) ≡ p = omega arith in
        let there : drop (p - place) rest ≡ drop p text = drop-drop (p - place) place text ∙ ap (λ (k : ℕ). drop k text) past in
        ap (cut_lines kinds before) (sym (cut_ample (by_table tbl) (length text) place rest enough m))
        ∙ turns_print (by_table tbl) kinds before m (length text) place rest p e
        ∙ rw (there, f) refl

    pub turn_on : onward p total ≡ next_after before (turn_of s labels targets text place m) → Onwards kinds s labels targets text place before m p total
    turn_on e = go (well_formed s labels targets) e refl
      where
        go : (b : Bool) → (let c = cut_by (first_by tbl) m place rest in
            onward p total ≡ next_after before (cond b (gives c) (refuses Loaded)) → well_formed s labels targets ≡ b
            → Onwards kinds s labels targets text place before m p total)
        go true h well =
            let c = cut_by (first_by tbl) m place rest in
            let f = full_of p total (before + length c.words) c.ending h in
            let far = full_on (by_table tbl) (cut_is (by_table tbl) m place rest) p f.0 in
            let left = length-drop place text in
            record {
              further = omega (arith, far.records);
              within = omega (arith, far.within, left);
              some = omega (arith, far.words, f.1);
              lines = rw well (goes_on f.0 f.1 (omega (arith, far.records)));
            }
        go false h well = absurd (no_stop (sym h))

-- ---- the whole text

-- the turns by a table that was built print the cut of the whole text
pub cut_built_lem : (book : List ℕ) (text : Text) (n : ℕ) (l t : List ℕ) → Built (build_book book) n l t
    → rest_lines (kind_in book) n l t text 0 0 ≡ cut_built book text (build_book book)
cut_built_lem book text n l t b = rw (b.built, b.stood.well, b.stood.same) refl
