-- The order of texts: a shorter text comes sooner; of two texts of one length, the one with the lower byte where they first differ.
-- TextLaws proves what the walk needs of it.
use Rattle.std.specs.Prelude.{ℕ, ◌<◌, ◌≡◌, ◌∷◌, length}
use Rattle.meaning.specs.Re.{Text}

-- lower in byte order, for texts of one length
pub data Lower : Text → Text → Type 0 where
  here : {c d : ℕ} {v w : Text} → c < d → Lower (c ∷ v) (d ∷ w)
  later : (c : ℕ) {v w : Text} → Lower v w → Lower (c ∷ v) (c ∷ w)

pub data Sooner (v w : Text) : Type 0 where
  shorter : length v < length w → Sooner v w
  lower : length v ≡ length w → Lower v w → Sooner v w

-- not later: the same text or a sooner one
pub data NotLater (v w : Text) : Type 0 where
  equal : v ≡ w → NotLater v w
  sooner : Sooner v w → NotLater v w
