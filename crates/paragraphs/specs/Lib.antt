-- The text for each refusal, written: PartLaws say that each part follows the one before, RoomLaws how long the whole gets; both are for the code.
-- What that text is, and the theorems of it, is in the crate advised.
pub mod RoomLaws
pub mod PartLaws
