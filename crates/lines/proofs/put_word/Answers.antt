-- Four numbers and the line's end.
use Rattle.lines.specs.LineLaws.{word_numbers, writes_as}
use Rattle.lines.proofs.put_word.Goals as goal

pub returns-clause-writes : goal.returns-clause-writes
returns-clause-writes c = writes_as (word_numbers _ _ _ _) c.put_numbers.ensures.writes
