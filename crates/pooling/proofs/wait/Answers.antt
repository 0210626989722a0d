-- `pooling::wait` meets its contract: one law for each of its returns.
-- Assumes nothing.
use native.Mathlib.Omega.{arith}
use Rattle.pooling.specs.CopyLaws.{waited_not, waited}
use Rattle.pooling.proofs.wait.Goals as goal

pub returns-then-child-top : goal.returns-then-child-top
returns-then-child-top c = waited_not _ _ _ _ (omega arith)

pub returns : goal.returns
returns c = waited _ _ _ _ (λ h. omega arith) (omega arith)
