-- The bytes of a slice, as the laws of the walk ask for them: each is below the count of bytes.
-- Assumes nothing.
use Prim.Native.Nat.{ℕ, ◌<◌}
use native.Mathlib.Omega.{arith}
use lib.ListN.{get_or}
use mathlib.Core.List.{List}
use mir.Syntax.{w8}
use mir.Val.{Fits}
use Rattle.number.specs.Limits.{bytes}

pub byte_fits : (text : List ℕ) → ((i : ℕ) → Fits w8 (get_or text i 0)) → (i : ℕ) → get_or text i 0 < bytes
byte_fits text fits i = omega (arith, fits i)
