-- The bytes that could stand at a place: Promises is what the functions inside promise of flags, runs and tries; the laws are for the code.
-- What the line of these bytes is, and that it names exactly those that could stand, is in the crate advised.
pub mod Promises
pub mod RunLaws
pub mod TryLaws
