-- What a turn of a cut does to what remains of it, whatever finds the first word and whatever memory is: one law for each way that the code goes on or answers.
-- At the start nothing was put yet, and what remains is the whole.
use Prim.Native.Nat.{ℕ, zero, suc, ◌+◌, ◌-◌, ◌<◌, ◌≤◌}
use Rattle.std.proofs.Common.{arith, add-zero, zero-add, sym, ap, ◌∙◌, drop_of_length-le, drop-drop}
use Rattle.std.specs.Prelude.{◌≡◌, true, Result, Ok, List, [], ◌∷◌, length, get_or, drop}
use Rattle.std.proofs.Math.Path.{refl}
use Rattle.number.specs.declared.Refusal.{Refusal}
use Rattle.number.specs.Lists.{drop_one}
use Rattle.meaning.specs.Re.{Text}
use Rattle.meaning.specs.Words.{Found}
use Rattle.meaning.specs.Words.Found.{Stuck as Found·stuck, Word as Found·word}
use Rattle.table.specs.Table.{lent, well_formed}
use Rattle.cutting.specs.declared.Word.{Word}
use Rattle.cutting.specs.declared.Ended.{Ended}
use Rattle.cutting.specs.declared.Ended.TheVariants.{Done, Stuck, Full}
use Rattle.cutting.specs.Steps.{first_by}
use Rattle.cutting.specs.Cut.{word_at, ends, before, cut_by}
use Rattle.cutting.specs.Cut.Ending.{Done as Ending·done, StuckAt, FullAt}
use Rattle.cutting.specs.Calls.{ended, cut_of}
use Rattle.cutting.specs.Put.{Held, put_all, held}
use Rattle.cutting.specs.Turns.{cut_left, Stands}
use Rattle.cutting.specs.Promises.{CutsSlots}

-- ---- one step of the definition

module _ (first : Text → Found) where
  cut_nothing : (room at : ℕ) → cut_by first room at [] ≡ ends Ending·done
  unfolding cut_by
  cut_nothing zero at = refl
  cut_nothing (suc room) at = refl

  -- where no byte is left there is nothing to cut
  pub cut_past : (text : Text) (at room : ℕ) → length text ≤ at → cut_of first text at room ≡ ends Ending·done
  cut_past text at room h = ap (cut_by first room at) (drop_of_length-le text h) ∙ cut_nothing room at

  module _ (at c : ℕ) (w : Text) where
    cut_stuck : (room : ℕ) → first (c ∷ w) ≡ Found·stuck → cut_by first room at (c ∷ w) ≡ ends (StuckAt at)
    unfolding cut_by
    cut_stuck zero e = rw (e, cut_by)
    cut_stuck (suc room) e = rw (e, cut_by)

    module _ (n r : ℕ) (e : first (c ∷ w) ≡ Found·word n r) where
      cut_full : cut_by first 0 at (c ∷ w) ≡ ends (FullAt at)
      unfolding cut_by
      cut_full = rw (e, cut_by)

      cut_word : (room : ℕ) → cut_by first (suc room) at (c ∷ w) ≡ before (word_at at n r) (cut_by first room (at + n) (drop n (c ∷ w)))
      unfolding cut_by
      cut_word room = rw (e, cut_by)

-- ---- what remains at a place, by what is found there

module _ (first : Text → Found) (text : Text) (room at k : ℕ) where
  left_over : length text ≤ at → cut_left first text room at k ≡ ends Ending·done
  left_over h = cut_past first text at (room - k) h

  module _ (h : at < length text) where
    abbrev rest : Text
    rest = drop (at + 1) text

    abbrev byte : ℕ
    byte = get_or text at 0

    found_at : (f : Found) → f ≡ first (drop at text) → first (byte ∷ rest) ≡ f
    found_at f e = rw (drop_one text at h) at (sym e)

    left_stuck : Found·stuck ≡ first (drop at text) → cut_left first text room at k ≡ ends (StuckAt at)
    left_stuck e = rw (drop_one text at h) (cut_stuck first at byte rest (room - k) (found_at Found·stuck e))

    module _ (n r : ℕ) (e : Found·word n r ≡ first (drop at text)) where
      left_full : room ≤ k → cut_left first text room at k ≡ ends (FullAt at)
      left_full f =
          let z : room - k ≡ 0 = omega arith in
          rw (z, drop_one text at h) (cut_full first at byte rest n r (found_at (Found·word n r) e))

      left_word : k < room → cut_left first text room at k ≡ before (word_at at n r) (cut_left first text room (at + n) (k + 1))
      left_word f =
          let z : room - k ≡ suc (room - (k + 1)) = omega arith in
          rw (z, ← drop-drop n at text, drop_one text at h)
          (cut_word first at byte rest n r (found_at (Found·word n r) e) (room - (k + 1)))

-- ---- where a call stands

module _ {M : Type 0} (put : M → ℕ → Word → M) (first : Text → Found) (text : Text) (room : ℕ) where
  -- nothing was put yet
  pub stands_first : (at : ℕ) (m : M) → Stands put first text room (held put (cut_of first text at room) m) at 0 m
  stands_first at m =
      let all : room - 0 ≡ room = omega arith in
      record { few = omega arith; remains = rw (all, zero-add) }

  module _ {whole : Held M} {at k : ℕ} {m : M} (s : Stands put first text room whole at k m) where
    pub stands_done : length text ≤ at → record { answer = ended (Ok (Done k)); memory = m } ≡ whole
    unfolding put_all
    stands_done h = rw (left_over first text room at k h, add-zero) at s.remains

    module _ (h : at < length text) where
      pub stands_stuck : Found·stuck ≡ first (drop at text) → record { answer = ended (Ok (Stuck k at)); memory = m } ≡ whole
      unfolding put_all
      stands_stuck e = rw (left_stuck first text room at k h e, add-zero) at s.remains

      module _ (n r : ℕ) (e : Found·word n r ≡ first (drop at text)) where
        pub stands_full : room ≤ k → record { answer = ended (Ok (Full k at)); memory = m } ≡ whole
        unfolding put_all
        stands_full f = rw (left_full first text room at k h n r e f, add-zero) at s.remains

        pub stands_word : k < room → Stands put first text room whole (at + n) (k + 1) (put m k (word_at at n r))
        unfolding put_all
        stands_word f =
            let more = cut_left first text room (at + n) (k + 1) in
            let count : k + suc (length more.words) ≡ k + 1 + length more.words = omega arith in
            let one : suc k ≡ k + 1 = omega arith in
            let behind_all = rw (left_word first text room at k h n r e f, put_all, count, one) at s.remains in
            record { few = omega arith; remains = behind_all }

-- ---- what a call promises by a table that is well formed

module _ {M : Type 0} (room : M → ℕ) (put : M → ℕ → Word → M) (s : ℕ) (labels targets : List ℕ) (text : Text) (at : ℕ) where
  pub slots_end : {m m' : M} {r : Result Ended Refusal} → well_formed s labels targets ≡ true
      → record { answer = ended r; memory = m' } ≡ held put (cut_of (first_by (lent s labels targets)) text at (room m)) m
      → CutsSlots room put s labels targets text at m m' r
  slots_end f e = record { answer = rw f (ap (λ (x : Held M). x.answer) e); memory = rw f (ap (λ (x : Held M). x.memory) e) }
