-- A sheet read into lent memory. The definitions are table's; Promises says what each reader leaves.
-- ReadingLaws proves one law for each way of reading a row, the states and the whole sheet.
pub mod Promises
pub mod ReadingLaws
