-- `advice::advise` meets its contract: a text that is too long for its file, or one that was read.
-- Assumes nothing.
use Rattle.advice.specs.FitLaws.{advice_fits}
use Rattle.advised.specs.CaseLaws.{unread_told, read_told}
use Rattle.advice.proofs.advise.Goals as goal

pub returns-then-text-gt-RULES_FILE : goal.returns-then-text-gt-RULES_FILE
returns-then-text-gt-RULES_FILE c =
    let fits = advice_fits _ _ (unread_told c.args.text.now c.args.r c.if-text-gt-RULES_FILE.true) c.put_unread.ensures in
    record { writes = fits.0; upper_bound = fits.1 }

pub returns : goal.returns
returns c =
    let fits = advice_fits _ _ (read_told c.args.text.now c.args.r c.if-text-gt-RULES_FILE.false) c.put_advice.ensures in
    record { writes = fits.0; upper_bound = fits.1 }
