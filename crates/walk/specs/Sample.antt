-- Pools that the checker computes: of the sample book W's vector 0, and of terms that share their parts.
-- Parts come before the term that has them, left before right.
use Rattle.std.specs.Prelude.{◌≡◌, refl, List, [], ◌∷◌}
use Rattle.meaning.specs.Sample.{W}
use Rattle.meaning.specs.Re.{Re}
use Rattle.meaning.specs.Re.Re.{Nothing, Empty, Range, Cat, Alt, Star}
use Rattle.meaning.specs.Order.{order}
use Rattle.meaning.specs.Normal.{chain, cat, gathered, kept, placed, sorted, nested, alt, star, normal}
use Rattle.meaning.specs.Rules.{start}
use Rattle.walk.specs.Parts.{holds, with_term, with_parts, with_vector}

abbrev t : Re
t = Range 116 116

abbrev o : Re
o = Range 111 111

abbrev letter : Re
letter = Range 97 122

abbrev digit : Re
digit = Range 48 57

abbrev space : Re
space = Range 32 32

abbrev pub pooled : List (List Re)
pooled =
    with_vector [] (start W) ∷
    -- a term in two rules, in two places of one term, and as a rule itself; Nothing and Empty count where they stand
    with_vector [] (Cat t t ∷ Star t ∷ t ∷ Nothing ∷ Alt Empty (Alt t o) ∷ []) ∷
    -- a pool that holds some of it
    with_vector (o ∷ Star t ∷ []) (Cat t o ∷ Star t ∷ []) ∷
    []

abbrev pub stated : List (List Re)
stated =
    (t ∷ o ∷ Cat t o ∷ letter ∷ Star letter ∷ Cat letter (Star letter) ∷ digit ∷ Star digit ∷ Cat digit (Star digit) ∷ space ∷ []) ∷
    (t ∷ Cat t t ∷ Star t ∷ Nothing ∷ Empty ∷ o ∷ Alt t o ∷ Alt Empty (Alt t o) ∷ []) ∷
    (o ∷ Star t ∷ t ∷ Cat t o ∷ []) ∷
    []

pub worked_pools : pooled ≡ stated
unfolding with_vector with_parts with_term holds normal star alt nested sorted placed kept gathered cat chain order
worked_pools = refl
