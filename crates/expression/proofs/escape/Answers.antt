-- `expression::escape` meets its contract: one law a return.
-- Assumes nothing.
use Prim.Native.Nat.{ℕ}
use mathlib.Core.Path.{◌≡◌, ap, ◌∙◌}
use Rattle.std.specs.Prelude.{Option}
use Rattle.typed.specs.Spells.{hex}
use Rattle.names.specs.Bytes.{found}
use Rattle.expression.specs.LeafLaws.{escape_none, escape_half, escape_read}
use Rattle.expression.proofs.escape.Goals as goal

-- a digit's value, of the byte that stands there
hexed : {x : Option ℕ} {c d : ℕ} → x ≡ found (hex c) → c ≡ d → x ≡ found (hex d)
hexed e h = e ∙ ap (λ (y : ℕ). found (hex y)) h

pub returns-in_default : goal.returns-in_default
returns-in_default c = escape_none _ _ _ _ c.requires (hexed c.in_default.ensures.value c.byte_at.ensures)

pub returns-in_default-hex_of : goal.returns-in_default-hex_of
returns-in_default-hex_of c = escape_half _ _ _ _ c.requires _ (hexed c.in-Some.ensures.value c.byte_at.ensures) (hexed c.in_default-hex_of.ensures.value c.byte_at-2.ensures)

pub returns : goal.returns
returns c = escape_read _ _ _ _ c.requires _ (hexed c.in-Some.ensures.value c.byte_at.ensures) _ _ _ _ (hexed c.in-Some-hex_of.ensures.value c.byte_at-2.ensures) c.range_cell-x.ensures c.lay-t.ensures
