-- What a byte of typed rules is, as the code asks it.
-- The definitions have an Option of their own; the code answers that of Rust.
use Rattle.std.specs.Prelude.{ℕ, Bool, ◌||◌, List, eqb, get_or, Some, None}
use Rattle.std.specs.Prelude.{Option as Answer}
use Rattle.std.proofs.Math.Option.{Option}
use Rattle.std.proofs.Math.Option.Option.{none, some}
use Rattle.typed.specs.Spells.{bare}

-- the byte at a place, a newline past the end
unfoldable pub byte_at : List ℕ → ℕ → ℕ
byte_at text p = get_or text p 10

-- an atom begins with ( < \ . or a bare byte
unfoldable pub starting : ℕ → Bool
starting c = eqb c 40 || (eqb c 60 || (eqb c 92 || (eqb c 46 || bare c)))

unfoldable pub marking : ℕ → Bool
marking c = eqb c 42 || (eqb c 43 || eqb c 63)

-- what the definitions find, as the code answers it
abbrev pub found : Option ℕ → Answer ℕ
found none = None
found (some x) = Some x
