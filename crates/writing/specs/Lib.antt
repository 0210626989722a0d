-- A table written as its sheet. The definitions are table's, and the promise of write_sheet stands there too.
-- WritingLaws proves what each step of the code adds, WriteLaws one law for each return of write_sheet.
pub mod WritingLaws
pub mod WriteLaws
