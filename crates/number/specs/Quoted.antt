-- A text in quotes as its bytes, so that examples, printed lines and lists of characters can be read as they look.
-- Each character is its number, which for those up to 255 is its byte.
use Rattle.std.specs.Prelude.{ℕ, zero, suc, List, [], ◌∷◌}
use Prim.Native.Char.{code}
use Prim.Native.String.{String, [] as ended, ◌∷◌ as ◌then◌, ◌++◌}

unfoldable pub quoted : String → List ℕ
quoted ended = []
quoted (c then s) = code c ∷ quoted s

-- the same so many times
unfoldable pub again : ℕ → String → String
again zero s = ended
again (suc n) s = s ++ again n s
