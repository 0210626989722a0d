-- `rule::either_built` meets its contract: two leaves stored, then the choice of them.
-- Assumes nothing.
use Rattle.rule.specs.NodeLaws.{letters_ask, letters_built}
use Rattle.rule.proofs.either_built.Goals as goal

pub merge-requires : goal.merge-requires
merge-requires c =
    letters_ask c.requires.room
    c.push-second.ensures c.push-third.ensures

pub returns : goal.returns
returns c =
    letters_built c.requires.room
    c.push-second.ensures c.push-third.ensures
    c.merge.ensures
