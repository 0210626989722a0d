-- `paragraphs::put_unread` meets its contract: a phrase and its end.
-- Assumes nothing.
use native.Mathlib.Omega.{arith}
use Rattle.number.specs.Quoted.{quoted}
use Rattle.advised.specs.Advice.{over_file, in_bytes}
use Rattle.phrases.specs.Left.{left_room, left_step, left_last}
use Rattle.paragraphs.specs.PartLaws.{unread_all}
use Rattle.paragraphs.specs.RoomLaws.{unread_most}
use Rattle.paragraphs.proofs.put_unread.Goals as goal

pub put_phrase-bytes-requires : goal.put_phrase-bytes-requires
unfolding quoted
put_phrase-bytes-requires c =
    left_room over_file in_bytes (unread_all c.args.out.now _ (omega (arith, c.requires, unread_most)))

pub put_text-requires : goal.put_text-requires
unfolding quoted
put_text-requires c =
    (left_step over_file in_bytes (unread_all c.args.out.now _ (omega (arith, c.requires, unread_most))) c.put_phrase-bytes.ensures).room

pub returns : goal.returns
unfolding quoted
returns c =
    left_last (left_step over_file in_bytes (unread_all c.args.out.now _ (omega (arith, c.requires, unread_most))) c.put_phrase-bytes.ensures) c.put_text.ensures
