-- The first pair whose labels differ, and its text. Definition: Promises; ShowLaws proves what the code's proofs cite.
-- Which pair that is, and what is answered of it, stands in Compare and Calls of verdict.
pub mod Promises
pub mod ShowLaws
