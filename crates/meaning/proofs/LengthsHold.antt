-- The nodes of the terms of Lengths, counted, and its lines at the limit, all computed by the checker.
-- It rests on definitions alone: a count or a test that is off by one, or a test left out on the way, is refused here.
use Rattle.std.specs.Prelude.{◌≡◌, refl, [], ◌∷◌, map}
use Rattle.meaning.specs.Re.{size}
use Rattle.meaning.specs.Order.{order}
use Rattle.meaning.specs.Normal.{chain, cat, gathered, kept, spoilt, placed, sorted, nested, alt, both, star, negated, normal}
use Rattle.meaning.specs.Derive.{nullable, deriv}
use Rattle.meaning.specs.Limited.{deriv_fit, normal_fit}
use Rattle.meaning.specs.Lengths.{counted, came, due, lengths}

pub nodes_counted : map size counted ≡ 1 ∷ 1 ∷ 1 ∷ 3 ∷ 3 ∷ 2 ∷ 3 ∷ 2 ∷ 6 ∷ 254 ∷ 255 ∷ 256 ∷ []
unfolding size
nodes_counted = refl

pub lengths_hold : map came lengths ≡ map due lengths
unfolding lengths size order chain cat gathered kept spoilt placed sorted nested alt both star negated normal nullable deriv deriv_fit normal_fit
lengths_hold = refl
