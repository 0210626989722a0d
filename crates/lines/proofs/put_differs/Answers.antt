-- The word, and behind it the text's length and both labels.
use Rattle.std.proofs.Common.{arith}
use Rattle.lines.specs.LineLaws.{differs_numbers, writes_parts}
use Rattle.lines.proofs.put_differs.Goals as goal

pub returns-clause-writes : goal.returns-clause-writes
returns-clause-writes c = writes_parts (differs_numbers _ _ _) (omega arith) c.put_text-first.ensures c.put_numbers.ensures.writes
