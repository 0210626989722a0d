-- What the readers and writers promise of how far they came: Within. Main has the theorems.
-- What rests on the system alone is said in docs/PROMISES.md.
pub mod Within
pub mod TurnLaws
pub mod Main
