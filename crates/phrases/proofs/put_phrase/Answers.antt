-- `phrases::put_phrase` meets its contract: the words, then the number.
-- Assumes nothing.
use Rattle.lines.specs.Digits.{decimal}
use Rattle.phrases.specs.Left.{left_room, left_step, left_last}
use Rattle.phrases.specs.WriteLaws.{phrase_all}
use Rattle.phrases.proofs.put_phrase.Goals as goal

pub put_text-number-requires : goal.put_text-number-requires
put_text-number-requires c =
    left_room c.args.words.now (decimal c.args.n) (phrase_all c.args.words.now _ c.args.out.now _ c.requires)

pub put_decimal-requires : goal.put_decimal-requires
put_decimal-requires c =
    (left_step c.args.words.now (decimal c.args.n) (phrase_all c.args.words.now _ c.args.out.now _ c.requires) c.put_text-number.ensures).room

pub returns : goal.returns
returns c =
    left_last (left_step c.args.words.now (decimal c.args.n) (phrase_all c.args.words.now _ c.args.out.now _ c.requires) c.put_text-number.ensures) c.put_decimal.ensures
