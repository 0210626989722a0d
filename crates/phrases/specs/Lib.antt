-- Sentences and lines for people: Promises is what find_spot promises; what the writers write is in the crate advised.
-- Left says what is left to be written, and the files of laws prove it turn by turn and part by part.
pub mod Promises
pub mod Left
pub mod SpotLaws
pub mod WriteLaws
