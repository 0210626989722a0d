-- Two terms joined as a choice or both at once, in the work area: Asked, Merge and Builds are definitions, the other files prove laws that the code's proofs cite.
-- The merge is over the operator that joins the members. What alt and the merge are is meaning's to say.
pub mod Asked
pub mod Merge
pub mod Builds
pub mod MergeLaws
pub mod UniteLaws
