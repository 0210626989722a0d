-- `shown::show` meets its contract: the items agree, or the first that does not is shown by its text.
-- Assumes nothing.
use native.Mathlib.Omega.{arith}
use Rattle.shown.specs.ShowLaws.{traced_less, shows_inside, shows_differs}
use Rattle.shown.proofs.show.Goals as goal

pub write_text-len-requires : goal.write_text-len-requires
write_text-len-requires c =
    let h = shows_inside _ _ _ _ c.args.area.now c.requires.blank _ c.in_ok-seen.ensures in
    record { traced = traced_less _ c.requires.traced (omega (arith, h)); k_in_bounds = omega (arith, h, c.requires.traced.few, c.requires.blank.room) }

pub returns : goal.returns
returns c =
    shows_differs _ _ _ _ c.args.area.now c.requires.blank _ c.in_ok-seen.ensures _ _ c.write_text-len.ensures
