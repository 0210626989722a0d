-- A part of memory that the library's `fill` of a slice filled with one value.
use Rattle.std.specs.Prelude.{ℕ, ◌-◌, ◌≤◌, ◌≡◌, refl, List, length, take, drop, replicate}
use Rattle.std.proofs.Common.{arith, ◌∙◌, length-take, length-drop}
use Rattle.std.proofs.Math.Seq.{take-length}
use Rattle.std.proofs.lemmas.List.{length-replicate}
use Rattle.std.proofs.lemmas.Slice.{put_mid-paste}
use borrow.Rule.Slice.PartMut.{put_mid}
use Rattle.number.specs.Lists.{written}

-- what stands in a part of the memory is written there
pub part_written : (s : List ℕ) (from k : ℕ) (w : List ℕ) → length w ≡ k → put_mid from k s w ≡ written s from w
unfolding written
part_written s from k w e =
    put_mid-paste from k s w w (length w) refl e refl ∙ rw (take-length w) refl

pub part_filled : (s : List ℕ) (from end value : ℕ) {w : List ℕ} → end ≤ length s
    → w ≡ replicate (length (take (end - from) (drop from s))) value
    → put_mid from (end - from) s w ≡ written s from (replicate (end - from) value)
part_filled s from end value h e =
    let size : length (take (end - from) (drop from s)) ≡ end - from = simp (length-take, length-drop) (omega arith) in
    let n : ℕ = end - from in
    rw (e, size) (part_written s from n (replicate n value) (length-replicate n value))
