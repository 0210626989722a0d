-- The word, and behind it the number.
use Rattle.std.proofs.Common.{arith}
use Rattle.lines.specs.LineLaws.{done_numbers, writes_parts}
use Rattle.lines.proofs.put_done.Goals as goal

pub returns-clause-writes : goal.returns-clause-writes
returns-clause-writes c = writes_parts (done_numbers _) (omega arith) c.put_text-first.ensures c.put_numbers.ensures.writes
