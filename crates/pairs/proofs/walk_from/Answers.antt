-- `pairs::walk_from` meets its contract: its beginning is refused, or vector 0 is the first item and the rows follow.
-- Assumes nothing.
use mathlib.Core.Path.{refl}
use lib.ListN.{replicate}
use Rattle.std.proofs.lemmas.Result.{err_from_is_err_and}
use Rattle.pool.specs.Index.{heads}
use Rattle.pool.specs.IndexLaws.{indexed_none}
use Rattle.steps.specs.CallLaws.{followed}
use Rattle.pairs.specs.WholeLaws.{walk_stops, walk_beside, walk_ends}
use Rattle.pairs.proofs.walk_from.Goals as goal

pub begun-requires : goal.begun-requires
begun-requires c =
    record { opened = c.requires.opened; work_length_in_bounds = c.requires.work_length_in_bounds; cells_len_bound = c.requires.cells_len_bound; indexed = indexed_none (replicate heads 0) _ refl }

pub returns-in_err-begun : goal.returns-in_err-begun
returns-in_err-begun c =
    let told = err_from_is_err_and c.from_residual.result c.from_residual.ensures.1 in
    rw (told.1, told.2) (walk_stops _ _ _ _ _ _ c.begun.ensures.enters _ c.in_err-begun.was)

pub walk_rows-requires : goal.walk_rows-requires
walk_rows-requires c =
    record {
      beside = walk_beside _ _ _ _ _ _ c.begun.ensures.enters _ c.in_ok-begun.was c.requires.has_row;
      closed = c.requires.closed;
      indexed = followed c.begun.ensures.follows c.in_ok-begun.was;
    }

pub returns : goal.returns
returns c =
    walk_ends c.args.targets.now _ _ _ _ _ c.begun.ensures.enters _ c.in_ok-begun.was c.walk_rows.new.cells c.walk_rows.result c.walk_rows.ensures
