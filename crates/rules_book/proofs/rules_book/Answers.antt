-- `rules_book::rules_book` meets its contract: a text that fits its file is typed; a longer one is refused.
-- Assumes nothing.
use native.Mathlib.Omega.{arith}
use Rattle.rules_book.specs.PrintLaws.{too_long, makes_book}
use Rattle.rules_book.proofs.rules_book.Goals as goal

pub returns-then-text-le-RULES_FILE : goal.returns-then-text-le-RULES_FILE
returns-then-text-le-RULES_FILE c =
    makes_book c.args.text.now _ _ _ c.requires (omega (arith, c.if-text-le-RULES_FILE.true)) c.type_rules.ensures

pub returns : goal.returns
returns c =
    too_long c.args.text.now _ (omega (arith, c.if-text-le-RULES_FILE.false))
