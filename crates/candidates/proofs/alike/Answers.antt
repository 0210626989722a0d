-- `candidates::alike` meets its contract: one law a return.
-- Assumes nothing.
use mathlib.Core.Path.{sym, ◌∙◌}
use Rattle.std.proofs.Common.{true}
use Rattle.candidates.specs.RunLaws.{alike_both, alike_not}
use Rattle.candidates.proofs.alike.Goals as goal

pub returns-then-is_bare : goal.returns-then-is_bare
returns-then-is_bare c = alike_both c.args.c true _ (sym c.if-is_bare.true ∙ c.is_bare.ensures) c.is_bare-then-is_bare.ensures

pub returns-else-is_bare : goal.returns-else-is_bare
returns-else-is_bare c = alike_not c.args.c _ c.is_bare.ensures c.if-is_bare.false
