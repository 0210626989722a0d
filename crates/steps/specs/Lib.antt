-- One step of the walk in the work area. Definition: Step; WayLaws, ComeLaws and AnswerLaws prove what the code's proofs cite.
-- CallLaws and RowLaws are for the loops of build and compare: what an answer tells, how steps make up a row, and rows the walk.
pub mod Step
pub mod WayLaws
pub mod ComeLaws
pub mod AnswerLaws
pub mod CallLaws
pub mod RowLaws
