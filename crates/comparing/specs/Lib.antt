-- Comparing a book with a table. Definition: Promises, over those of verdict; AnswerLaws proves what the code's proofs cite.
-- The theorems on comparing stand in verdict.
pub mod Promises
pub mod AnswerLaws
