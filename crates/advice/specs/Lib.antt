-- What people are told of a refusal fits into the room that it is given: FitLaws are for the code.
-- What that text is, and the theorems of it, is in the crate advised.
pub mod FitLaws
