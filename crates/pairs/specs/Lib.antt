-- The walk over pairs beside a table. Definition: Promises; BesideLaws and WholeLaws prove what the code's proofs cite.
-- What the walk is stands in Compare of verdict, and in walk.
pub mod Promises
pub mod BesideLaws
pub mod WholeLaws
