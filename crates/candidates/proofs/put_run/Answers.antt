-- `candidates::put_run` meets its contract: a space, the first byte's name, and behind a hyphen the last's.
-- Assumes nothing.
use Rattle.advised.specs.Advice.{byte_name}
use Rattle.phrases.specs.Left.{left_room, left_step, left_byte, left_some, left_last}
use Rattle.candidates.specs.RunLaws.{run_tail, run_all, tail_none, tail_some}
use Rattle.candidates.proofs.put_run.Goals as goal

pub put_byte-first-requires : goal.put_byte-first-requires
put_byte-first-requires c =
    left_some (run_all c.args.lo c.args.hi c.args.out.now _ c.requires)

pub put_name-after-requires : goal.put_name-after-requires
put_name-after-requires c =
    left_room (byte_name c.args.lo) (run_tail c.args.lo c.args.hi) (left_byte (run_all c.args.lo c.args.hi c.args.out.now _ c.requires) c.put_byte-first.ensures)

pub returns-then-lo-hi : goal.returns-then-lo-hi
returns-then-lo-hi c =
    tail_none c.args.lo c.args.hi c.if-lo-hi.true (left_step (byte_name c.args.lo) (run_tail c.args.lo c.args.hi) (left_byte (run_all c.args.lo c.args.hi c.args.out.now _ c.requires) c.put_byte-first.ensures) c.put_name-after.ensures)

pub put_byte-last-requires : goal.put_byte-last-requires
put_byte-last-requires c =
    left_some (tail_some c.args.lo c.args.hi c.if-lo-hi.false (left_step (byte_name c.args.lo) (run_tail c.args.lo c.args.hi) (left_byte (run_all c.args.lo c.args.hi c.args.out.now _ c.requires) c.put_byte-first.ensures) c.put_name-after.ensures))

pub put_name-requires : goal.put_name-requires
put_name-requires c =
    (left_byte (tail_some c.args.lo c.args.hi c.if-lo-hi.false (left_step (byte_name c.args.lo) (run_tail c.args.lo c.args.hi) (left_byte (run_all c.args.lo c.args.hi c.args.out.now _ c.requires) c.put_byte-first.ensures) c.put_name-after.ensures)) c.put_byte-last.ensures).room

pub returns : goal.returns
returns c =
    left_last (left_byte (tail_some c.args.lo c.args.hi c.if-lo-hi.false (left_step (byte_name c.args.lo) (run_tail c.args.lo c.args.hi) (left_byte (run_all c.args.lo c.args.hi c.args.out.now _ c.requires) c.put_byte-first.ensures) c.put_name-after.ensures)) c.put_byte-last.ensures) c.put_name.ensures
