-- Loading a sheet. The definitions are table's, and the promise of load stands there too.
-- LoadLaws proves one law for each return of the code.
pub mod LoadLaws
