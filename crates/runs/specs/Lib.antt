-- Rows of a table written as their runs. The definitions are table's; Promises says what a run's end is.
-- RowLaws proves what `chunk_by` yields and what each step of the code adds.
pub mod Promises
pub mod RowLaws
