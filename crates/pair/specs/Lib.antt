-- One pair of a walk beside a table. Definition: Promises, over those of verdict; ToldLaws proves what the code's proofs cite.
-- A pair is an item of the walk: its number for the table's state, and its place among the items.
pub mod Promises
pub mod ToldLaws
