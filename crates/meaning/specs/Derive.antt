-- Derivatives (source documents 000, 1.4, and 003): what is left to match once a byte is read.
-- The derivative is worked out from the leaves up, each result put in normal form at once.
use Rattle.std.specs.Prelude.{ℕ, Bool, true, false, cond, ◌&&◌, ◌||◌, not, leb}
use Rattle.meaning.specs.Re.{Re}
use Rattle.meaning.specs.Re.Re.{Nothing, Empty, Range, Cat, Alt, Star, And, Not}
use Rattle.meaning.specs.Normal.{cat, alt, both, negated}

-- a term matches the empty text: Empty and Star do; Cat and And if both sides do; Alt if one does; Not if its term doesn't
unfoldable pub nullable : Re → Bool
nullable Nothing = false
nullable Empty = true
nullable (Range lo hi) = false
nullable (Cat a b) = nullable a && nullable b
nullable (Alt a b) = nullable a || nullable b
nullable (Star a) = true
nullable (And a b) = nullable a && nullable b
nullable (Not a) = not (nullable a)

-- the derivative by byte c; that of b in Cat a b is worked out only where a matches the empty text
unfoldable pub deriv : ℕ → Re → Re
deriv c Nothing = Nothing
deriv c Empty = Nothing
deriv c (Range lo hi) = cond (leb lo c && leb c hi) Empty Nothing
deriv c (Cat a b) = elim (nullable a) [ true ↦ alt (cat (deriv c a) b) (deriv c b) | false ↦ cat (deriv c a) b ]
deriv c (Alt a b) = alt (deriv c a) (deriv c b)
deriv c (Star a) = cat (deriv c a) (Star a)
deriv c (And a b) = both (deriv c a) (deriv c b)
deriv c (Not a) = negated (deriv c a)

-- the textbook's derivative, with no normal form: it serves the proofs, and no code works it out
unfoldable pub plain : ℕ → Re → Re
plain c Nothing = Nothing
plain c Empty = Nothing
plain c (Range lo hi) = cond (leb lo c && leb c hi) Empty Nothing
plain c (Cat a b) = cond (nullable a) (Alt (Cat (plain c a) b) (plain c b)) (Cat (plain c a) b)
plain c (Alt a b) = Alt (plain c a) (plain c b)
plain c (Star a) = Cat (plain c a) (Star a)
plain c (And a b) = And (plain c a) (plain c b)
plain c (Not a) = Not (plain c a)
