-- The word, and behind it the number and the place.
use Rattle.std.proofs.Common.{arith}
use Rattle.lines.specs.LineLaws.{refused_numbers, writes_parts}
use Rattle.lines.proofs.put_refused.Goals as goal

pub returns-clause-writes : goal.returns-clause-writes
returns-clause-writes c = writes_parts (refused_numbers _ _ _ c.refusal_number-number.ensures c.refusal_place-place.ensures) (omega arith) c.put_text-first.ensures c.put_numbers.ensures.writes
