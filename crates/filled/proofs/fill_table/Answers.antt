-- `filled::fill_table` meets its contract: a refused walk is the table's refusal; else its rows and the items' labels are the table.
-- Assumes nothing.
use Rattle.std.proofs.lemmas.Result.{err_from_is_err_and}
use Rattle.filled.specs.TabledLaws.{table_stop, table_labelled, table_done}
use Rattle.filled.proofs.fill_table.Goals as goal

pub fill_labels-requires : goal.fill_labels-requires
fill_labels-requires c = table_labelled c.fill_rows.ensures c.in_ok-made.was c.requires.states_in_bounds

pub returns-in_err-made : goal.returns-in_err-made
returns-in_err-made c =
    let told = err_from_is_err_and c.from_residual.result c.from_residual.ensures.1 in
    rw (told.1, told.2) (table_stop c.fill_rows.ensures _ c.in_err-made.was)

pub returns : goal.returns
returns c = table_done c.fill_rows.ensures c.in_ok-made.was _ c.fill_labels.ensures
