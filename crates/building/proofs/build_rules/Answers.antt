-- `building::build_rules` meets its contract: the walk that begins at vector 0 is the one that builds the book's rules.
-- Assumes nothing.
use mathlib.Core.Path.{refl}
use lib.ListN.{replicate}
use Rattle.std.proofs.lemmas.Result.{err_from_is_err_and}
use Rattle.pool.specs.Index.{heads}
use Rattle.pool.specs.IndexLaws.{indexed_none}
use Rattle.steps.specs.CallLaws.{followed}
use Rattle.building.specs.AnswerLaws.{tabled_as, rules_stop, rules_fillable, rules_table}
use Rattle.building.proofs.build_rules.Goals as goal

pub begun-requires : goal.begun-requires
begun-requires c =
    record { opened = c.requires.opened; work_length_in_bounds = c.requires.roomy.long; cells_len_bound = c.requires.roomy.small; indexed = indexed_none (replicate heads 0) _ refl }

pub returns-in_err-begun : goal.returns-in_err-begun
returns-in_err-begun c =
    let told = err_from_is_err_and c.from_residual.result c.from_residual.ensures.1 in
    rw (told.1, told.2) (rules_stop _ c.begun.ensures.enters c.in_err-begun.was)

pub fill_table-requires : goal.fill_table-requires
fill_table-requires c =
    record {
      fillable = rules_fillable _ c.begun.ensures.enters c.in_ok-begun.was c.requires.roomy.targets;
      states_in_bounds = c.requires.roomy.labels;
      indexed = followed c.begun.ensures.follows c.in_ok-begun.was;
    }

pub returns : goal.returns
returns c = tabled_as _ c.fill_table.ensures (rules_table _ c.begun.ensures.enters c.in_ok-begun.was)
