-- A rule's normal form from its nodes: RunFit and Work are definitions, the other files prove laws that the code's proofs cite.
-- What a rule means is book's to say, and what its normal form is, meaning's.
pub mod RunFit
pub mod RunFitLaws
pub mod Work
pub mod NodeLaws
pub mod WorkLaws
