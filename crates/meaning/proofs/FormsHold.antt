-- Document 01's sentences on normal form and on the derivative hold of the definitions: the checker computes every line of Forms.
-- It rests on definitions alone, so one that gives another term on a line is refused here, whatever is proved of it.
use Rattle.std.specs.Prelude.{◌≡◌, refl, map}
use Rattle.meaning.specs.Order.{order}
use Rattle.meaning.specs.Normal.{chain, cat, gathered, kept, spoilt, placed, sorted, nested, alt, both, star, negated, normal}
use Rattle.meaning.specs.Derive.{nullable, deriv}
use Rattle.meaning.specs.Forms.{answered, stated, forms, derivatives}

pub forms_hold : map answered forms ≡ map stated forms
unfolding forms order chain cat gathered kept spoilt placed sorted nested alt both star negated normal
forms_hold = refl

pub derivatives_hold : map answered derivatives ≡ map stated derivatives
unfolding derivatives order chain cat gathered kept spoilt placed sorted nested alt both star negated normal nullable deriv
derivatives_hold = refl
