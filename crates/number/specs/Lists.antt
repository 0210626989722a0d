-- Lists of bytes as memory: what stands from a place on, and a run of bytes written at a place.
-- Nothing here knows of numbers; readers and writers of whole files use these laws as they go from field to field.
use Rattle.std.specs.Prelude.{ℕ, suc, ◌+◌, ◌≤◌, ◌<◌, ◌≡◌, List, [], ◌∷◌, ◌++◌, length, get_or, take, drop, set}
use Rattle.std.proofs.Common.{add-one, add_assoc, add-zero, arith, sym, ap, ◌∙◌, append_assoc, append-nil, length-append, length-take, length-drop, take-append-drop, drop-cons, get_or-drop, drop-drop, take_at, drop_at, length-take-le}
use Rattle.std.proofs.Math.Seq.{take-append_seam, drop-append_seam}
use Rattle.std.proofs.lemmas.List.Edits.{sets-eq}

-- a byte that stands at a place and what stands after it, and so for two and three
pub drop_one : (s : List ℕ) (at : ℕ) → at < length s → drop at s ≡ get_or s at 0 ∷ drop (at + 1) s
drop_one s at h = rw (add-one, drop-cons s at 0)

pub drop_two : (s : List ℕ) (at : ℕ) → at + 1 < length s → drop at s ≡ get_or s at 0 ∷ get_or s (at + 1) 0 ∷ drop (at + 2) s
drop_two s at h = rw (drop_one s at (omega arith), drop_one s (at + 1) h, add_assoc)

pub drop_three : (s : List ℕ) (at : ℕ) → at + 2 < length s
    → drop at s ≡ get_or s at 0 ∷ get_or s (at + 1) 0 ∷ get_or s (at + 2) 0 ∷ drop (at + 3) s
drop_three s at h = rw (drop_two s at (omega arith), drop_one s (at + 2) h, add_assoc)

-- how far the list goes on, where something stands
pub drop_room : (s : List ℕ) (at x : ℕ) (t : List ℕ) → drop at s ≡ x ∷ t → length s ≡ at + length (x ∷ t)
drop_room s at x t e = omega (arith, length-drop at s, ap length e)

-- what stands there, by its place
pub drop_at_place : (s : List ℕ) (at : ℕ) {w : List ℕ} (i : ℕ) → drop at s ≡ w → get_or w i 0 ≡ get_or s (at + i) 0
drop_at_place s at i e = rw (← get_or-drop, e)

pub drop_head : (s : List ℕ) (at : ℕ) {w : List ℕ} → drop at s ≡ w → get_or w 0 0 ≡ get_or s at 0
drop_head s at e = rw add-zero at (drop_at_place s at 0 e)

-- past what stands there
pub drop_past : (s : List ℕ) (at : ℕ) (w t : List ℕ) → drop at s ≡ w ++ t → drop (at + length w) s ≡ t
drop_past s at w t e = rw (← drop-drop, e, drop-append_seam)

-- the list with some bytes in the place of those that stood there
unfoldable pub written : List ℕ → ℕ → List ℕ → List ℕ
written s at w = take at s ++ w ++ drop (at + length w) s

pub written_length : (s : List ℕ) (at : ℕ) (w : List ℕ) → at + length w ≤ length s → length (written s at w) ≡ length s
unfolding written
written_length s at w h = simp (length-append, length-take, length-drop) (omega arith)

-- what stands up to the end of what was written, what stands from its start, and what stands after it
written_front : (s : List ℕ) (at : ℕ) (w : List ℕ) → at ≤ length s → length (take at s ++ w) ≡ at + length w
written_front s at w h = simp length-append (omega (arith, length-take-le at s h))

pub take_written : (s : List ℕ) (at : ℕ) (w : List ℕ) → at ≤ length s → take (at + length w) (written s at w) ≡ take at s ++ w
unfolding written
take_written s at w h = take_at (take at s ++ w) (drop (at + length w) s) (at + length w) (written_front s at w h)

pub drop_written : (s : List ℕ) (at : ℕ) (w : List ℕ) → at ≤ length s → drop at (written s at w) ≡ w ++ drop (at + length w) s
unfolding written
drop_written s at w h = rw append_assoc (drop_at (take at s) (w ++ drop (at + length w) s) at (length-take-le at s h))

pub past_written : (s : List ℕ) (at : ℕ) (w : List ℕ) → at ≤ length s → drop (at + length w) (written s at w) ≡ drop (at + length w) s
unfolding written
past_written s at w h = drop_at (take at s ++ w) (drop (at + length w) s) (at + length w) (written_front s at w h)

-- what stands before it, and what was written
pub before_written : (s : List ℕ) (at : ℕ) (w : List ℕ) → at ≤ length s → take at (written s at w) ≡ take at s
unfolding written
before_written s at w h = rw append_assoc (take_at (take at s) (w ++ drop (at + length w) s) at (length-take-le at s h))

pub there_written : (s : List ℕ) (at : ℕ) (w : List ℕ) → at ≤ length s → take (length w) (drop at (written s at w)) ≡ w
there_written s at w h = rw (drop_written s at w h) (take-append_seam w (drop (at + length w) s))

-- no other list has all this
pub only_written : (s t : List ℕ) (at : ℕ) (w : List ℕ) → take at t ≡ take at s → take (length w) (drop at t) ≡ w
    → drop (at + length w) t ≡ drop (at + length w) s → t ≡ written s at w
unfolding written
only_written s t at w before there behind =
    let rest : w ++ drop (at + length w) s ≡ drop at t =
    rw (← behind, ← drop-drop) (ap (λ (v : List ℕ). v ++ drop (length w) (drop at t)) (sym there) ∙ take-append-drop (length w) (drop at t)) in
    rw (← before, append_assoc, rest) (sym (take-append-drop at t))

-- one run after another is one run
pub written_more : (s : List ℕ) (at : ℕ) (v w : List ℕ) → at ≤ length s
    → written (written s at v) (at + length v) w ≡ written s at (v ++ w)
unfolding written
written_more s at v w h =
    let front : take (at + length v) (written s at v) ≡ take at s ++ v = take_written s at v h in
    let back : drop (at + length v + length w) (written s at v) ≡ drop (at + (length v + length w)) s =
    rw (← drop-drop (length w) (at + length v), past_written s at v h, drop-drop, add_assoc) in
    rw (front, back) (simp (length-append, append_assoc))

-- stores one after another are one run
pub stored_one : (s : List ℕ) (at a : ℕ) → at + 1 ≤ length s → set s at a ≡ written s at (a ∷ [])
unfolding written
stored_one s at a h = sets-eq (a ∷ []) s at h

pub stored_two : (s : List ℕ) (at a b : ℕ) → at + 2 ≤ length s → set (set s at a) (at + 1) b ≡ written s at (a ∷ b ∷ [])
unfolding written
stored_two s at a b h = rw add-one (sets-eq (a ∷ b ∷ []) s at h)

pub stored_three : (s : List ℕ) (at a b c : ℕ) → at + 3 ≤ length s
    → set (set (set s at a) (at + 1) b) (at + 2) c ≡ written s at (a ∷ b ∷ c ∷ [])
unfolding written
stored_three s at a b c h =
    let second : at + 1 ≡ suc at = add-one at in
    let third : at + 2 ≡ suc (suc at) = omega arith in
    rw (second, third) (sets-eq (a ∷ b ∷ c ∷ []) s at h)

-- ---- writers

-- a writer of w at a place: it answers the place after w, and the memory has w there and nothing else new
pub record Writes (w before after : List ℕ) (at next : ℕ) : Type 0 where
  pub place : next ≡ at + length w
  pub out : after ≡ written before at w

pub writes_none : (s : List ℕ) (at : ℕ) → Writes [] s s at at
unfolding written
writes_none s at =
    record {
      place = sym (add-zero at);
      out = sym (rw (add-zero, append-nil) (take-append-drop at s));
    }

-- one writer after another
pub writes_then : {v w s t u : List ℕ} {at mid end : ℕ} → at ≤ length s → Writes v s t at mid → Writes w t u mid end
    → Writes (v ++ w) s u at end
writes_then {v} {w} {s} {t} {u} {at} {mid} {end} h a b =
    record {
      place = simp length-append (omega (arith, a.place, b.place));
      out = b.out ∙ rw (a.out, a.place) (written_more s at v w h);
    }
