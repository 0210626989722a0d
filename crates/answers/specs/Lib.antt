-- What each promise says, in Main, and that each public call has one answer for one input: Once says so of the calls of Rattle, OnceInC of those for C.
-- Promises are equations with definitions of the input, so this is short; Told says that an answer's enum is told in full.
pub mod Told
pub mod Once
pub mod OnceInC
pub mod Main
