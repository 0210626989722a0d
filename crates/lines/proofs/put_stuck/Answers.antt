-- The word, and behind it the place.
use Rattle.std.proofs.Common.{arith}
use Rattle.lines.specs.LineLaws.{stuck_numbers, writes_parts}
use Rattle.lines.proofs.put_stuck.Goals as goal

pub returns-clause-writes : goal.returns-clause-writes
returns-clause-writes c = writes_parts (stuck_numbers _) (omega arith) c.put_text-first.ensures c.put_numbers.ensures.writes
