-- `typing::colon` meets its contract: one law a return.
-- Assumes nothing.
use Rattle.typing.specs.PassLaws.{colon_read, colon_missing}
use Rattle.typing.proofs.colon.Goals as goal

pub returns-then-byte_at-eq58 : goal.returns-then-byte_at-eq58
returns-then-byte_at-eq58 c = colon_read _ _ _ _ c.byte_at.ensures c.if-byte_at-eq58.true

pub returns : goal.returns
returns c = colon_missing _ _ _ _ c.byte_at.ensures c.requires c.if-byte_at-eq58.false
