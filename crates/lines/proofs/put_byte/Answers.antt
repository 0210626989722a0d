-- One store is a run of one byte.
use Rattle.std.proofs.Common.{arith, refl}
use Rattle.number.specs.Lists.{stored_one}
use Rattle.lines.proofs.put_byte.Goals as goal

pub returns : goal.returns
returns c = record { place = refl; out = stored_one _ _ _ (omega arith) }
