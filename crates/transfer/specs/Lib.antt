-- What answers of the system come to: Answers computes it, Came tells it, Main has the theorems.
-- Files are read and written by it in the crate files.
pub mod Answers
pub mod AnswerLaws
pub mod Came
pub mod CameLaws
pub mod Main
