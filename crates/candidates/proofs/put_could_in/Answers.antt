-- `candidates::put_could_in` meets its contract: the bytes are copied and tried, and the flags shown.
-- Assumes nothing.
use mathlib.Core.Path.{◌∙◌}
use Rattle.phrases.specs.WriteLaws.{writes_as, room_as}
use Rattle.candidates.specs.TryLaws.{copied, tried_line}
use Rattle.candidates.proofs.put_could_in.Goals as goal

pub put_runs-requires : goal.put_runs-requires
put_runs-requires c =
    record { found_len = c.try_bytes.auto.found ∙ c.requires.found_len; found_in_bounds = room_as _ (tried_line c.args.text.now _ _ c.args.p (copied c.args.text.now _ _ c.args.p _ c.requires.p_in_bounds c.put_text.ensures) c.try_bytes.ensures) c.requires.text_in_bounds }

pub returns : goal.returns
returns c =
    writes_as (tried_line c.args.text.now _ _ c.args.p (copied c.args.text.now _ _ c.args.p _ c.requires.p_in_bounds c.put_text.ensures) c.try_bytes.ensures) c.put_runs.ensures
