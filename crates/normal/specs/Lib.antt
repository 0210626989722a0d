-- Building terms in the work area, always in normal form: Made, Asked, Builds and Nest are definitions.
-- The other files prove laws that the code's proofs cite. What cat and star are is meaning's to say.
pub mod Made
pub mod Asked
pub mod Builds
pub mod Nest
pub mod NodeLaws
pub mod NestLaws
pub mod ChainLaws
pub mod AnswerLaws
