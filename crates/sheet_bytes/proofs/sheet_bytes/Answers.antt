-- `sheet_bytes::sheet_bytes` meets its contract: the sheet that was made, or the line of its refusal.
-- Assumes nothing.
use native.Mathlib.Omega.{arith}
use Rattle.sheet_bytes.specs.PutLaws.{puts_line}
use Rattle.sheet_bytes.proofs.sheet_bytes.Goals as goal

pub returns-in-Err : goal.returns-in-Err
returns-in-Err c =
    puts_line _ _ c.in-Err.ensures.0 (rw c.in-Err.ensures.1 at c.put_refused-end.ensures.writes)
    (omega (arith, c.put_refused-end.ensures.upper_bound, c.put_refused-end.auto.out, c.sheet.auto.out, c.requires))
