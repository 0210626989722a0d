-- Small laws that proofs/Main.antt cites and nothing else does: what a list of bytes is, where nothing follows, and room for what is written.
-- The larger ones stand in the files of their matter.
use Rattle.std.specs.Prelude.{ℕ, zero, suc, ◌+◌, ◌<◌, ◌≤◌, ◌≡◌, ◌↔◌, List, [], ◌∷◌, length}
use Rattle.std.proofs.Common.{arith, lt-ltb, le-ltb, length-append, length-take, length-drop}
use Rattle.number.specs.declared.Refusal.TheVariants.{Tail}
use Rattle.number.specs.Limits.{bytes}
use Rattle.number.specs.Refused.Answer.{got, refused}
use Rattle.number.specs.Numbers.{Bytes}
use Rattle.number.specs.Reading.{end}
use Rattle.number.specs.Lists.{written}

-- no bytes are bytes, and one more is one below 256
pub bytes_none : Bytes []
bytes_none i h = absurd (omega arith)

pub bytes_more : (x : ℕ) (s : List ℕ) → Bytes (x ∷ s) ↔ ((x < bytes) × Bytes s)
bytes_more x s = (λ all. (all 0 (omega arith), λ i h. all (suc i) (omega arith)), back)
  where
    back : (x < bytes) × Bytes s → Bytes (x ∷ s)
    back both zero h = both.0
    back both (suc i) h = both.1 i (omega arith)

-- spare bytes, and none
pub end_tail : (file : List ℕ) (at : ℕ) → at < length file → end file at ≡ refused (Tail at)
end_tail file at h = simp (lt-ltb at (length file) h)

pub end_none : (file : List ℕ) (at : ℕ) → length file ≤ at → end file at ≡ got tt at
end_none file at h = simp (le-ltb at (length file) h)

-- an area that keeps its length had room for what was written
pub written_room : (s : List ℕ) (at : ℕ) (w : List ℕ) → at ≤ length s → length (written s at w) ≡ length s → at + length w ≤ length s
unfolding written
written_room s at w h e = omega (arith, simp (length-append, length-take, length-drop) at e)
