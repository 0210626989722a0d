-- A copy is a run of the text's bytes.
use Rattle.std.proofs.Common.{arith}
use Rattle.lines.specs.LineLaws.{copied}
use Rattle.lines.proofs.put_text.Goals as goal

pub returns : goal.returns
returns c = copied _ _ _ _ _ (omega arith) c.copy_from_slice.ensures.after
