-- The words of a cut are pieces of its text, one behind another, each the first word at its place; and a cut ends where they end, for its reason.
-- One induction over the cut, from any place in the text.
use Prim.Native.Nat.{ℕ, zero, suc, ◌+◌, ◌≤◌}
use native.Mathlib.Omega.{arith}
use Rattle.std.specs.Prelude.{◌≡◌}
use Rattle.std.proofs.Math.Path.{refl, ap, subst}
use Rattle.std.proofs.Common.{sym, ◌∙◌}
use mathlib.Core.List.{[], ◌∷◌, flat_map}
use Rattle.std.proofs.Math.ListN.{length, drop, length-drop}
use Rattle.std.proofs.Math.Seq.{drop-drop, take-add}
use Rattle.meaning.specs.Re.{Text}
use Rattle.meaning.specs.Words.{Found}
use Rattle.meaning.specs.Words.Found.{Stuck, Word as Found·word}
use Rattle.cutting.specs.Cut.{Ending, Cut, Cuts}
use Rattle.cutting.specs.Cut.Ending.{Done, StuckAt, FullAt}
use Rattle.cutting.specs.Cut.Cuts.{done, stuck, full, word}
use Rattle.cutting.specs.CutLaws.{Finds}
use Rattle.cutting.specs.Tiles.{Tiles}
use Rattle.cutting.specs.Pieces.{bytes_in, EndsAt, Tiled}

module _ {F : Text → Found → Type 0} {first : Text → Found} (by : Finds F first) (text : Text) where
  ends_more : (room count end end' : ℕ) (e : Ending) → end ≡ end' → EndsAt F text room count end e → EndsAt F text (suc room) (suc count) end' e
  ends_more room count end end' Done d h = sym d ∙ h
  ends_more room count end end' (StuckAt p) d h = (h.0 ∙ d, h.1, h.2)
  ends_more room count end end' (FullAt p) d h = (h.0 ∙ d, ap suc h.1, h.2)

  no_words : (room at : ℕ) (e : Ending) → EndsAt F text room 0 at e → Tiled F text room at (record { words = []; ending = e })
  unfolding flat_map
  no_words room at e h =
      let z : at ≡ at + 0 = omega arith in
      record { tiles = z; few = omega arith; each = tt; joined = refl; ends = subst (λ (end : ℕ). EndsAt F text room 0 end e) z h }

  pub cut_tiled : {room at : ℕ} {rest : Text} {c : Cut} → Cuts F room at rest c → rest ≡ drop at text → at ≤ length text → Tiled F text room at c
  unfolding flat_map
  cut_tiled (done room at) e h = no_words room at Done (omega (arith, ap length e, length-drop at text))
  cut_tiled (stuck room at c w p) e h =
      no_words room at (StuckAt at) (refl, omega (arith, ap length e, length-drop at text), subst (λ (u : Text). F u Stuck) e p)
  cut_tiled (full at c w n r p) e h =
      no_words zero at (FullAt at) (refl, refl, record { len = n; rule = r; first = subst (λ (u : Text). F u (Found·word n r)) e p })
  cut_tiled (word room at c w n r x p d) e h =
      let within : at + n ≤ length text = omega (arith, (by.proper (c ∷ w) n r p).1, ap length e, length-drop at text) in
      let more = cut_tiled d (ap (λ (u : Text). drop n u) e ∙ drop-drop n at text) within in
      let sum : at + n + bytes_in x.words ≡ at + (n + bytes_in x.words) = omega arith in
      record {
        tiles = (refl, (by.proper (c ∷ w) n r p).0, subst (Tiles (at + n) x.words) sum more.tiles);
        few = omega (arith, more.few);
        each = (within, subst (λ (u : Text). F u (Found·word n r)) e p, more.each);
        joined = rw (more.joined, take-add n (bytes_in x.words) (drop at text), drop-drop n at text) refl;
        ends = ends_more room (length x.words) (at + n + bytes_in x.words) (at + (n + bytes_in x.words)) x.ending sum more.ends;
      }
