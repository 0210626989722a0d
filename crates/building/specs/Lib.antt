-- From a book to what build leaves. Definition: Promises, over those of built; AnswerLaws proves what the code's proofs cite.
-- The theorems on building stand in built.
pub mod Promises
pub mod AnswerLaws
