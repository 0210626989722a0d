-- `phrases::put_place` meets its contract: a phrase for the line, one for the column.
-- Assumes nothing.
use Rattle.number.specs.Quoted.{quoted}
use Rattle.advised.specs.Advice.{phrase}
use Rattle.phrases.specs.Left.{left_room, left_step, left_last}
use Rattle.phrases.specs.WriteLaws.{place_all}
use Rattle.phrases.proofs.put_place.Goals as goal

pub put_phrase-behind-requires : goal.put_phrase-behind-requires
unfolding quoted
put_phrase-behind-requires c =
    left_room (phrase (quoted "words.rules, line ") c.args.line) (phrase (quoted ", column ") c.args.column) (place_all _ _ c.args.out.now _ c.requires)

pub put_phrase-requires : goal.put_phrase-requires
unfolding quoted
put_phrase-requires c =
    (left_step (phrase (quoted "words.rules, line ") c.args.line) (phrase (quoted ", column ") c.args.column) (place_all _ _ c.args.out.now _ c.requires) c.put_phrase-behind.ensures).room

pub returns : goal.returns
unfolding quoted
returns c =
    left_last (left_step (phrase (quoted "words.rules, line ") c.args.line) (phrase (quoted ", column ") c.args.column) (place_all _ _ c.args.out.now _ c.requires) c.put_phrase-behind.ensures) c.put_phrase.ensures
