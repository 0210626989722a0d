-- The derivative in the work area: Derives and Waiting have the definitions, the other files prove laws that the code's proofs cite.
-- What the derivative of a term and its next edge are is meaning's to say.
pub mod Derives
pub mod Waiting
pub mod DeriveLaws
pub mod EdgeLaws
