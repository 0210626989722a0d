-- `runs::count_runs` meets its contract: what `chunk_by` yields are the runs of the row.
-- Assumes nothing.
use Rattle.std.proofs.Common.{rules}
use Rattle.std.proofs.lemmas.Iterator.Consumers.{count_from_yields_List}
use Rattle.std.proofs.lemmas.List.Sorted.{answers_always}
use Rattle.runs.specs.RowLaws.{runs_yielded}
use Rattle.runs.proofs.count_runs.Goals as goal

pub returns : goal.returns
returns c =
    count_from_yields_List c.chunk_by.result _ c.count.ensures.ran
    (runs_yielded _ c.chunk_by.result _ c.chunk_by.ensures.rest (λ f. answers_always _ _ f (λ f a r f' k. search rules)))
