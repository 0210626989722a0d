-- The walk over vectors, which building and comparing share. Definitions, in reading order: Vectors, Parts, Walk, Texts, Bought, Passing, Sample; the other files prove things of these.
-- Explored is what a finished walk has found, HaltLaws what a refused one met; by FollowLaws texts alone tell which it is. Main gathers the theorems that are bought.
pub mod Vectors
pub mod Parts
pub mod Walk
pub mod Texts
pub mod Bought
pub mod Passing
pub mod TextLaws
pub mod VectorLaws
pub mod PartsLaws
pub mod StepLaws
pub mod WalkLaws
pub mod Explored
pub mod RunLaws
pub mod CountLaws
pub mod KeepLaws
pub mod HaltLaws
pub mod PassingLaws
pub mod FollowLaws
pub mod WiderLaws
pub mod BoughtLaws
pub mod Sample
pub mod Main
